use Rattle.std.proofs.Common.{◌∙◌, sym}
use Rattle.std.proofs.lemmas.Result.{err_from_is_err_and}
use Rattle.asm80_text.proofs.Bodies.{nothing_read, no_operation, operation_read, operation_fails}
use Rattle.asm80_text.proofs.parse.body.Goals as goal

pub returns-in_default : goal.returns-in_default
returns-in_default g c = rw c.new.ensures.items (nothing_read g.N.Notation.spelling _ c.in_default.ensures)

pub returns-in_default-as_operation : goal.returns-in_default-as_operation
returns-in_default-as_operation g c = no_operation g.N.Notation.spelling _ _ _ c.in-Some.ensures (sym c.as_operation.ensures ∙ c.in_default-as_operation.is)

pub returns : goal.returns
returns g c = operation_read g.N.Notation.spelling _ _ _ _ _ _ c.in-Some.ensures (sym c.as_operation.ensures ∙ c.in-Some-as_operation.is) c.in_ok-op.ensures

pub returns-in_err-op : goal.returns-in_err-op
returns-in_err-op g c =
    let p = err_from_is_err_and c.from_residual.result c.from_residual.ensures.1 in
    rw (p.1, p.2) (operation_fails g.N.Notation.spelling _ _ _ _ c.in_err-op.field-0.0 c.in-Some.ensures (sym c.as_operation.ensures ∙ c.in-Some-as_operation.is) c.in_err-op.ensures)
