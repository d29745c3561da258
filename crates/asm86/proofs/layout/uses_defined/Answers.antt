use Rattle.std.proofs.Common.{sym, ap, subst, ◌∙◌, is_some, true≢false}
use Rattle.asm86_line_types.specs.Image.{AllDefined}
use Rattle.asm86.proofs.Texts.{has_place}
use Rattle.asm86.proofs.layout.uses_defined.Goals as goal

pub returns-in-Some-clause-yes : goal.returns-in-Some-clause-yes
returns-in-Some-clause-yes c = λ yes text e.
    subst (AllDefined text) c.in-Some.ensures
    (sym (has_place c.args.offsets.now text c.in-Some.label e) ∙ ap is_some (sym c.get.ensures) ∙ sym c.is_some.ensures ∙ yes, tt)

pub returns-in-Some-clause-no : goal.returns-in-Some-clause-no
returns-in-Some-clause-no c = λ no text e all.
    let h = subst (AllDefined text) (sym c.in-Some.ensures) all in
    true≢false (sym h.0 ∙ sym (has_place c.args.offsets.now text c.in-Some.label e) ∙ ap is_some (sym c.get.ensures) ∙ sym c.is_some.ensures ∙ no)
