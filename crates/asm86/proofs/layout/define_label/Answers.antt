use Rattle.std.proofs.Common.{◌≡◌, ℕ, Bool, true, false, not, Option, None, Some, is_some, IfOk, refl, subst}
use Rattle.asm86_line_types.specs.Image.{offset_in}
use Rattle.asm86.proofs.Laid.{laid_mark, laid_again, laid_other, unmarked}
use Rattle.asm86.proofs.layout.define_label.Goals as goal

none_from : (o : Option ℕ) → true ≡ not (is_some o) → o ≡ None
none_from None e = refl
none_from (Some a) e = cc

some_from : (o : Option ℕ) → false ≡ not (is_some o) → (a : ℕ) × (o ≡ Some a)
some_from None e = cc
some_from (Some a) e = (a, refl)

pub returns-in-Mark-clause-laid : goal.returns-in-Mark-clause-laid
returns-in-Mark-clause-laid c = λ ok before h.
    let o = offset_in c.args.offsets.now c.in-Mark.label in
    laid_mark before c.args.offsets.now c.define.new.self c.args.at c.args.stmt c.in-Mark.label c.in-Mark.is
    (none_from o (subst (λ r. IfOk r (λ (b : Bool). b ≡ not (is_some o))) ok c.define.ensures.fresh))
    (c.define.ensures.added ok) h

pub returns-in-Mark-clause-again : goal.returns-in-Mark-clause-again
returns-in-Mark-clause-again c = λ ok before h once.
    let o = offset_in c.args.offsets.now c.in-Mark.label in
    let s = some_from o (subst (λ r. IfOk r (λ (b : Bool). b ≡ not (is_some o))) ok c.define.ensures.fresh) in
    laid_again before c.args.offsets.now c.args.at s.0 c.args.stmt c.in-Mark.label c.in-Mark.is s.1 h once

pub returns-in_default : goal.returns-in_default
returns-in_default c = record {
  laid = λ _ before h. laid_other before c.args.offsets.now c.args.at c.args.stmt (unmarked c.args.stmt c.in_default.not-Mark) h;
  again = λ e before h once. cc;
}
