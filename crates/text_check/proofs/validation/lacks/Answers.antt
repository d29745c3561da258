use Rattle.text_check.specs.Findings.{opening, runtime, cells}
use Rattle.text_check.proofs.Found.{not_true}
use Rattle.text_check.proofs.validation.lacks.Goals as goal

pub returns-then-not-has_opening : goal.returns-then-not-has_opening
returns-then-not-has_opening c = opening (λ h. not_true c.has_opening.result c.if-not-has_opening.true (c.has_opening.ensures.1 h))

pub returns-then-not-has_runtime : goal.returns-then-not-has_runtime
returns-then-not-has_runtime c = runtime (c.has_opening.ensures.0 c.if-not-has_opening.false) (λ h. not_true c.has_runtime.result c.if-not-has_runtime.true (c.has_runtime.ensures.1 h))

pub returns-then-not-data_stand : goal.returns-then-not-data_stand
returns-then-not-data_stand c =
    cells (c.has_opening.ensures.0 c.if-not-has_opening.false) (c.has_runtime.ensures.0 c.if-not-has_runtime.false) (λ h. not_true c.data_stand.result c.if-not-data_stand.true (c.data_stand.ensures.1 h))
