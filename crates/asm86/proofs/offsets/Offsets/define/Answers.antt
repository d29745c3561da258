use Rattle.std.proofs.Common.{◌≡◌, ℕ, Option, None, Some, is_some, false, refl, sym, ap, ◌∙◌, ◌++◌, ◌∷◌, []}
use Rattle.asm86_line_types.specs.Image.{offset_in}
use Rattle.asm86.proofs.Added.{placed}
use Rattle.asm86.proofs.offsets.Offsets.define.Goals as goal

is_none : (o : Option ℕ) → is_some o ≡ false → o ≡ None
is_none None e = refl
is_none (Some a) e = cc

pub invariant_of-self-2 : goal.invariant_of-self-2
invariant_of-self-2 c = λ l.
    let k = c.args.label in
    let before = c.self.inside.labels.items in
    let none = ap (λ xs. offset_in xs k) c.self.view_is ∙ sym c.get.ensures ∙ is_none c.get.result (sym c.is_some.ensures ∙ c.if-is_some.false) in
    placed before c.self.inside.places c.put.new.self k l c.args.at c.self.invariant none (c.in_ok-put.ensures.ok l)
    ∙ sym (ap (λ xs. offset_in xs l) (c.push_reserved.ensures.items ∙ ap (λ xs. xs ++ (k, c.args.at) ∷ []) c.reserve.ensures.items))
