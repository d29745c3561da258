use Rattle.std.proofs.Common.{◌≡◌, ◌+◌, ◌*◌, ◌≤◌, ◌++◌, false, length, All}
use Rattle.flow.specs.Cut.{EndsInMemory}
use Rattle.flow.specs.Solving.{Needs, AreAllNeeds}
use Rattle.templates.specs.Style.{block_from}
use Rattle.templates.specs.Jumps.{style_by}
use Rattle.templates.proofs.blocks.put_instrs.Given as goal

abbrev pub invariant-loop-placed : goal.invariant-loop-placed
invariant-loop-placed l = record {
  so_far : (n : Needs) → AreAllNeeds l.graph.program n → l.text ++ block_from (style_by n l.jumps) l.first l.known l.rest ≡ l.fn.text ++ block_from (style_by n l.jumps) false false l.block;
  whole : All EndsInMemory l.rest;
  most : length l.text + 12 * length l.rest ≤ length l.fn.text + 12 * length l.block;
}

abbrev pub decreases-loop-placed : goal.decreases-loop-placed
decreases-loop-placed l = length l.rest
