use Rattle.std.proofs.lemmas.Result.{err_from_is_err_and}
use Rattle.asm86_line_reader.specs.Forms.{body_of}
use Rattle.asm86_line_reader.proofs.Checked.{marked_taken}
use Rattle.asm86_line_reader.proofs.Lines.{marked_fault, unmarked}
use Rattle.asm86_line_reader.proofs.line.statements_of.Goals as goal

pub returns-in_err-statements : goal.returns-in_err-statements
returns-in_err-statements c =
    let p = err_from_is_err_and c.from_residual.result c.from_residual.ensures.1 in
    rw (p.1, p.2) (marked_fault c.args.tokens.now c.in-Some.rest.now c.in-Some.label c.in_err-statements.field-0.0 c.in-Some.ensures c.in_err-statements.ensures)

pub returns-in_default : goal.returns-in_default
returns-in_default c = rw (unmarked c.args.tokens.now c.in_default.ensures) c.body_of.ensures

pub returns : goal.returns
returns c = rw (c.in_ok-insert.ensures.items, c.in-Some.ensures) (marked_taken c.in-Some.label (body_of c.in-Some.rest.now) c.in_ok-statements.statements.items c.in_ok-statements.ensures)
