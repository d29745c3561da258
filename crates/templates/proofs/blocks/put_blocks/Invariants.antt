use Rattle.std.proofs.Common.{◌≡◌, ◌+◌, ◌*◌, ◌≤◌, ◌++◌, drop, length, All}
use Rattle.flow.specs.Blocks.{cut_from}
use Rattle.flow.specs.Cut.{EndsInMemory}
use Rattle.flow.specs.Solving.{Needs, AreAllNeeds}
use Rattle.flow.proofs.Cuts.{flat}
use Rattle.templates.specs.Style.{blocks_of}
use Rattle.templates.specs.Jumps.{style_by}
use Rattle.templates.proofs.blocks.put_blocks.Given as goal

abbrev pub invariant-loop-leader : goal.invariant-loop-leader
invariant-loop-leader l = record {
  rest : l.rest ≡ flat (drop l.leader-index (cut_from l.program 0 l.program.instrs));
  so_far : (n : Needs) → AreAllNeeds l.program n → l.text ++ blocks_of (style_by n l.jumps) (drop l.leader-index (cut_from l.program 0 l.program.instrs)) ≡ l.fn.text ++ blocks_of (style_by n l.jumps) (cut_from l.program 0 l.program.instrs);
  whole : All EndsInMemory l.rest;
  most : length l.text + 13 * length l.rest ≤ length l.fn.text + 13 * 65022;
}
