use Rattle.std.proofs.Common.{sym}
use Rattle.std.proofs.lemmas.List.{take_all}
use Rattle.asm86_line_reader.proofs.Each.{each_none, each_step, each_fails}
use Rattle.asm86_line_reader.proofs.operands.each_operand.Goals as goal

pub loop-part-init : goal.loop-part-init
loop-part-init c = rw c.new-operands.ensures.items (each_none _)

pub returns-in_default : goal.returns-in_default
returns-in_default c = sym (each_fails _ c.args.parts.now c.loop-part.part-index _ c.loop-part-test.true (sym c.in_default.ensures))

pub loop-part-preserved : goal.loop-part-preserved
loop-part-preserved c = rw c.in_ok-push.ensures.items (each_step _ c.args.parts.now c.loop-part.part-index _ _ _ c.loop-part-test.true c.loop-part.invariant (sym c.in-Some.ensures))

pub returns : goal.returns
returns c = sym (rw (take_all c.loop-part.part-index c.args.parts.now c.loop-part-test.false) at c.loop-part.invariant)
