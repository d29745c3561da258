use Rattle.std.proofs.Common.{subst, ◌∙◌}
use Rattle.std.proofs.lemmas.Result.{IfOk-weaker, IfOk-from_err}
use Rattle.asm86_line_types.specs.Image.{statements}
use Rattle.flow.specs.Solving.{HasNeeds}
use Rattle.templates.specs.Places.{ArePlaces}
use Rattle.templates.proofs.Reaching.{lean_by_long}
use Rattle.templates.proofs.lean.lean_text.Goals as goal

pub returns-clause-lean : goal.returns-clause-lean
returns-clause-lean c =
    let p = c.args.program.now in
    let needs = subst HasNeeds c.requires.program c.needs_are_sets.ensures in
    let long = c.in_ok-long.ensures.value needs.0 needs.1 in
    let places = subst (λ xs. ArePlaces c.in_ok-places.places 0 (statements xs)) c.deref.ensures.value c.in_ok-places.ensures in
    let same = lean_by_long p needs.0 c.in_ok-places.places c.in_ok-long.long.items long places in
    IfOk-weaker c.text_by-2.result _ _ (λ lines e. (needs.0, needs.1, e ∙ same)) (c.text_by-2.ensures.value needs.0 needs.1)

pub returns-in_err-long : goal.returns-in_err-long
returns-in_err-long c =
    let r = c.from_residual in
    record {
      lean = IfOk-from_err r.result _ r.ensures.0;
      few = IfOk-from_err r.result _ r.ensures.0;
    }

pub returns-in_err-places : goal.returns-in_err-places
returns-in_err-places c =
    let r = c.from_residual-in_err-places in
    record {
      lean = IfOk-from_err r.result _ r.ensures.0;
      few = IfOk-from_err r.result _ r.ensures.0;
    }
