use Rattle.std.proofs.lemmas.Result.{err_from_is_err_and}
use Rattle.zilog80.specs.Zilog.{directive}
use Rattle.zilog80.proofs.Reading.{directive_fails, directive_read, directive_test}
use Rattle.zilog80.proofs.zilog.ZilogNotation.operation.Goals as goal

pub returns-in_err-args : goal.returns-in_err-args
returns-in_err-args c =
    let p = err_from_is_err_and c.from_residual.result c.from_residual.ensures.1 in
    rw (p.1, p.2) (directive_fails c.args.word.now c.args.tokens.now (directive_test c.as_slice.result.now c.args.word.now c.is_directive.result _ c.is_directive.ensures c.as_slice.ensures.value c.if-is_directive.true) c.in_err-args.field-0.0 c.in_err-args.ensures)

pub returns-in_ok-args : goal.returns-in_ok-args
returns-in_ok-args c = directive (directive_test c.as_slice.result.now c.args.word.now c.is_directive.result _ c.is_directive.ensures c.as_slice.ensures.value c.if-is_directive.true) c.in_ok-args.ensures

pub returns-else-is_directive : goal.returns-else-is_directive
returns-else-is_directive c = directive_read c.args.word.now c.args.tokens.now (directive_test c.as_slice.result.now c.args.word.now c.is_directive.result _ c.is_directive.ensures c.as_slice.ensures.value c.if-is_directive.false) c.instruction.result c.instruction.ensures
