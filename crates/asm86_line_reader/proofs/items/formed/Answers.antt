use Rattle.std.specs.Option.{option_and_then}
use Rattle.std.proofs.lemmas.Result.{err_from_is_err_and}
use Rattle.asm86_line_reader.specs.Forms.{single}
use Rattle.asm86_line_reader.specs.Operands.{operands_in}
use Rattle.asm86_line_reader.proofs.Checked.{one_fails, one_taken}
use Rattle.asm86_line_reader.proofs.Given.{formed_of_one}
use Rattle.asm86_line_reader.proofs.items.formed.Goals as goal

pub returns-in_err-one-in_default : goal.returns-in_err-one-in_default
returns-in_err-one-in_default c =
    let p = err_from_is_err_and c.from_residual.result c.from_residual.ensures.1 in
    rw (p.1, p.2, formed_of_one c.args.operation (operands_in c.args.tokens.now) c.in_default.not-Db c.in_default.not-Dw) (one_fails (option_and_then (single c.args.operation) (operands_in c.args.tokens.now)) _ c.in_err-one-in_default.ensures)

pub returns-in_ok-push-in_default : goal.returns-in_ok-push-in_default
returns-in_ok-push-in_default c =
    rw (c.in_ok-push-in_default.ensures.items, c.new-statements.ensures.items, formed_of_one c.args.operation (operands_in c.args.tokens.now) c.in_default.not-Db c.in_default.not-Dw)
    (one_taken (option_and_then (single c.args.operation) (operands_in c.args.tokens.now)) _ c.in_ok-one-in_default.ensures)
