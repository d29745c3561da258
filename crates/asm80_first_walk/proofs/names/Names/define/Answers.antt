use Rattle.std.proofs.Common.{◌≡◌, sym, ◌||◌, ◌∙◌, ap, Bool, true, false, Option, None}
use Rattle.std.specs.Prelude.{is_some, OnOk, Result, Ok, Err}
use Rattle.std.specs.declared.alloc.AllocError.{AllocError}
use Rattle.asm80_source_def.specs.declared.rule.AsmRule.{AsmRule}
use Rattle.asm80_source_def.specs.declared.rule.AsmRule.TheVariants.{V2, V7}
use Rattle.asm80_source_def.specs.FirstFaults.{rule_if}
use Rattle.asm80_source_def.specs.Names.{Name, clashes, overflows}
use Rattle.asm80_first_walk.proofs.Definitions.{not_made}
use Rattle.asm80_first_walk.proofs.names.Names.define.Goals as goal

refused : (clash full : Bool) (rule : Option AsmRule) → rule ≡ rule_if clash V2 (rule_if full V7 None) → (clash || full) ≡ is_some rule
refused true full rule e = sym (ap (λ (o : Option AsmRule). is_some o) e)
refused false true rule e = sym (ap (λ (o : Option AsmRule). is_some o) e)
refused false false rule e = sym (ap (λ (o : Option AsmRule). is_some o) e)

-- (a call that was successful did what it does where it is asked)
made_where : {A B : Type 0} (r : Result (Unit {0}) AllocError) → (A → B) → OnOk r A → OnOk r B
made_where (Ok u) f a = f a
made_where (Err e) f a = tt

pub returns-then-is_some-clause-made : goal.returns-then-is_some-clause-made
returns-then-is_some-clause-made c =
    let n : Name = record { text = c.args.name; kind = c.args.kind; meaning = c.args.meaning } in
    not_made c.args.self.now n (refused (clashes c.args.self.now n) (overflows c.args.self.now n) c.rule_of.result (c.rule_of.ensures c.args.meaning) ∙ sym c.is_some.ensures ∙ c.if-is_some.true)

pub returns-clause-made : goal.returns-clause-made
returns-clause-made c =
    let n : Name = record { text = c.args.name; kind = c.args.kind; meaning = c.args.meaning } in
    let fits = refused (clashes c.args.self.now n) (overflows c.args.self.now n) c.rule_of.result (c.rule_of.ensures c.args.meaning) ∙ sym c.is_some.ensures ∙ c.if-is_some.false in
    made_where c.put.result (λ made. made fits) c.put.ensures.made
