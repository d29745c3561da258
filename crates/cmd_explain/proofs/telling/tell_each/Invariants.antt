use Rattle.flow.specs.Solving.{Needs, AreAllNeeds}
use Rattle.asm86_line_types.specs.Image.{statements}
use Rattle.simulation_def.specs.Needed.{needed_by}
use Rattle.cmd_explain.proofs.Blocks.{GoesOn, IsFirstSoFar}
use Rattle.cmd_explain.proofs.telling.tell_each.Given as goal

abbrev pub invariant-loop-leader : goal.invariant-loop-leader
invariant-loop-leader l = record {
  first : (n : Needs) → AreAllNeeds l.sides.program.now n → IsFirstSoFar l.sides.program.now (statements l.sides.lines.now) (needed_by l.sides.program.now n) l.first l.leader-index;
  told : (n : Needs) → AreAllNeeds l.sides.program.now n → GoesOn l.sides.program.now l.sides.lines.now (needed_by l.sides.program.now n) l.fn.told.items l.told.items l.leader-index;
}
