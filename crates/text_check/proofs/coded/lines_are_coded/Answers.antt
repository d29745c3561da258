use Rattle.asm86_line_types.specs.declared.line.Stmt86.TheVariants.{Cseg}
use Rattle.text_check.proofs.Numbers.{one_instruction_more, one_datum_more}
use Rattle.text_check.proofs.coded.lines_are_coded.Goals as goal

pub loop-line-preserved : goal.loop-line-preserved
loop-line-preserved c = record {
  instructions = one_instruction_more c.args.lines.now c.loop-line.line-index (record { line = 0; stmt = Cseg }) c.loop-line-test.true c.loop-line.invariant.instructions c.statement_is_coded.ensures.instruction;
  data_coded = one_datum_more c.args.lines.now c.loop-line.line-index (record { line = 0; stmt = Cseg }) c.loop-line-test.true c.loop-line.invariant.data_coded c.statement_is_coded.ensures.datum;
}
