use Rattle.std.proofs.Common.{◌≡◌, ◌==◌, ◌||◌, Bool, Option, cond, Some, None, refl, sym, ap, ◌∙◌}
use Rattle.std.proofs.Math.Bool.{or-false}
use Rattle.std.specs.Option.{is_some, option_map, option_to_list}
use Rattle.base.specs.Addresses.{has_address, is_among}
use Rattle.asm80_source_def.specs.Items.{is_instruction_op}
use Rattle.asm80_values.proofs.second_walk.mark_start.Goals as goal

mapped : {A B : Type 0} (f : A → B) (o : Option A) → is_some o ≡ is_some (option_map f o)
mapped f None = refl
mapped f (Some x) = refl

pub returns-in-Some : goal.returns-in-Some
returns-in-Some c = λ a.
    let row = c.args.row.now in
    let before = has_address c.args.starts.now a in
    c.insert.ensures.value a ∙ ap (λ (b : Bool). b || before) (sym (or-false (row.at == a)))
    ∙ ap (λ (b : Bool). is_among (option_to_list (cond b (Some row.at) None)) a || before)
    (c.if-is_some.ensures ∙ mapped (λ ks. ks.now) c.kinds_of.result ∙ ap is_some c.kinds_of.ensures ∙ sym (ap is_instruction_op c.in-Some.is))

pub returns-else-is_some : goal.returns-else-is_some
returns-else-is_some c = λ a.
    let row = c.args.row.now in
    ap (λ (b : Bool). is_among (option_to_list (cond b (Some row.at) None)) a || has_address c.args.starts.now a)
    (c.if-is_some.ensures ∙ mapped (λ ks. ks.now) c.kinds_of.result ∙ ap is_some c.kinds_of.ensures ∙ sym (ap is_instruction_op c.in-Some.is))
