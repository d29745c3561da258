use Rattle.std.proofs.Common.{◌*◌, ◌≤◌}
use Rattle.asm86.specs.Places.{AreLabelsLaid}
use Rattle.asm86.proofs.Laid.{up_to}
use Rattle.asm86.proofs.layout.offsets_of.Given as goal

abbrev pub invariant-loop-line : goal.invariant-loop-line
invariant-loop-line l = record {
  laid : AreLabelsLaid (up_to l.lines l.line-index) l.offsets l.at;
  most : l.at ≤ 6 * l.line-index;
}
