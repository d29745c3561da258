use Rattle.asm86_line_types.specs.declared.line.Stmt86.TheVariants.{Cseg}
use Rattle.shrink.proofs.Given.{one_line_more, name_of}
use Rattle.shrink.proofs.laws.lines_have_text.Goals as goal

pub loop-line-preserved : goal.loop-line-preserved
loop-line-preserved c = λ names.
    let lines = c.args.lines.now in
    let i = c.loop-line.line-index in
    one_line_more lines i (record { line = 0; stmt = Cseg }) c.loop-line-test.true (c.loop-line.invariant names)
    (c.statement_has_line.ensures (name_of lines i (record { line = 0; stmt = Cseg }) c.loop-line-test.true names))
