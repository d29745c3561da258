use Rattle.std.proofs.lemmas.Result.{err_from_is_err_and}
use Rattle.asm80_text.proofs.Operands.{text_read, value_read, value_fails}
use Rattle.asm80_text.proofs.parse.operand_at.Goals as goal

pub returns-in-Some : goal.returns-in-Some
returns-in-Some c = rw (c.from_vec.ensures, c.in_ok-bytes.ensures.items) (text_read _ _ _ c.in-Some.ensures)

pub returns-in_err-e : goal.returns-in_err-e
returns-in_err-e c =
    let p = err_from_is_err_and c.from_residual-in_err-e.result c.from_residual-in_err-e.ensures.1 in
    rw (p.1, p.2) (value_fails _ c.in_err-e.field-0.0 c.in_default.ensures c.in_err-e.ensures)

pub returns : goal.returns
returns c = value_read _ _ _ c.in_default.ensures c.in_ok-e.ensures
