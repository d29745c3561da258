use Rattle.std.proofs.Common.{ap, map}
use Rattle.std.proofs.lemmas.Result.{err_from_is_err_and}
use Rattle.asm80_types.specs.Tree.{operand_of}
use Rattle.zilog80.specs.Read.{spelt_of}
use Rattle.zilog80.proofs.Reading.{unary_fails, no_unary, unary_read}
use Rattle.zilog80.proofs.instruction.unary.Goals as goal

pub returns-in_err-operand : goal.returns-in_err-operand
returns-in_err-operand c =
    let p = err_from_is_err_and c.from_residual.result c.from_residual.ensures.1 in
    rw (p.1, p.2) (unary_fails c.args.word.now c.args.tokens.now c.in_err-operand.field-0.0 c.in_err-operand.ensures)

pub returns-in_default : goal.returns-in_default
returns-in_default c = no_unary c.args.word.now c.args.tokens.now (spelt_of c.in_ok-operand.operand) c.in_ok-operand.ensures (rw c.as_slice.ensures.value at c.in_default.ensures)

pub returns : goal.returns
returns c =
    unary_read c.args.word.now c.args.tokens.now (spelt_of c.in_ok-operand.operand) _ _ _ _ c.in_ok-operand.ensures (rw c.as_slice.ensures.value at c.in-Some.ensures)
    (ap (map operand_of) c.new-args.ensures.items) c.in_ok-push_given.ensures
