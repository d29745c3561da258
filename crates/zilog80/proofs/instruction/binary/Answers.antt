use Rattle.std.proofs.Common.{ap, map}
use Rattle.std.proofs.lemmas.Result.{err_from_is_err_and}
use Rattle.asm80_types.specs.Tree.{operand_of}
use Rattle.zilog80.specs.Read.{spelt_of}
use Rattle.zilog80.proofs.Reading.{left_fails, right_fails, no_binary, binary_read}
use Rattle.zilog80.proofs.instruction.binary.Goals as goal

pub returns-in_err-first : goal.returns-in_err-first
returns-in_err-first c =
    let p = err_from_is_err_and c.from_residual.result c.from_residual.ensures.1 in
    rw (p.1, p.2) (left_fails c.args.word.now c.args.left.now c.args.right.now c.in_err-first.field-0.0 c.in_err-first.ensures)

pub returns-in_err-second : goal.returns-in_err-second
returns-in_err-second c =
    let p = err_from_is_err_and c.from_residual-in_err-second.result c.from_residual-in_err-second.ensures.1 in
    rw (p.1, p.2) (right_fails c.args.word.now c.args.left.now c.args.right.now c.in_err-second.field-0.0 c.in_err-second.ensures)

pub returns-in_default : goal.returns-in_default
returns-in_default c =
    no_binary c.args.word.now c.args.left.now c.args.right.now (spelt_of c.in_ok-first.first) (spelt_of c.in_ok-second.second) c.in_ok-first.ensures c.in_ok-second.ensures
    (rw c.as_slice.ensures.value at c.in_default.ensures)

pub returns : goal.returns
returns c =
    binary_read c.args.word.now c.args.left.now c.args.right.now (spelt_of c.in_ok-first.first) (spelt_of c.in_ok-second.second) _ _ _ _ _ _ c.in_ok-first.ensures c.in_ok-second.ensures
    (rw c.as_slice.ensures.value at c.in-Some.ensures) (ap (map operand_of) c.new-args.ensures.items) c.in_ok-push_given.ensures c.in_ok-push_given-2.ensures
