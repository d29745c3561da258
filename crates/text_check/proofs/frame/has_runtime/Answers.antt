use Rattle.std.proofs.Common.{◌∙◌, sym, refl}
use Rattle.text_check.proofs.Frames.{runtime_here, runtime_not_here}
use Rattle.text_check.proofs.frame.has_runtime.Goals as goal

pub returns-then-is_some : goal.returns-then-is_some
returns-then-is_some c =
    (λ yes. c.loop-others.invariant.0 (runtime_here c.loop-others.rest.now c.as_slice.result.now c.behind.result (c.as_slice.ensures.value ∙ c.runtime-runtime.ensures) (sym c.is_some.ensures ∙ c.if-is_some.true) c.behind.ensures), λ h. refl)

pub loop-others-preserved : goal.loop-others-preserved
loop-others-preserved c =
    runtime_not_here c.args.text.now c.loop-others.rest.now c.in-Some.others.now c.as_slice.result.now c.in-Some.field-0-0.now c.behind.result
    (c.as_slice.ensures.value ∙ c.runtime-runtime.ensures) c.in-Some.ensures.cases.0 (sym c.is_some.ensures ∙ c.if-is_some.false) c.behind.ensures c.loop-others.invariant
