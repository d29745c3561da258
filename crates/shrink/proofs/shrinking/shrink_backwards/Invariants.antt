use Rattle.std.proofs.Common.{◌≡◌, ◌≤◌, List, ◌++◌, length, take, drop, vec_len}
use Rattle.asm86_line_types.specs.declared.line.Line86.{Line86}
use Rattle.asm86_line_types.specs.Image.{Assembles}
use Rattle.flow.specs.Solving.{Needs, AreAllNeeds}
use Rattle.shrink.specs.Shrunk.{MatchesBlocks, Shrinks}
use Rattle.shrink.proofs.shrinking.shrink_backwards.Given as goal

abbrev pub invariant-loop-at : goal.invariant-loop-at
invariant-loop-at l = record {
  within : l.at ≤ length l.lines;
  few : vec_len l.left ≤ length l.lines;
  kept : List Line86;
  is : l.left.items ≡ take l.at l.lines ++ kept;
  shrinks : (n : Needs) → AreAllNeeds l.program n → Shrinks (MatchesBlocks l.program n) (take l.at l.lines) (drop l.at l.lines) kept;
  assembles : Assembles l.left.items;
  matches : (n : Needs) → AreAllNeeds l.program n → MatchesBlocks l.program n l.left.items;
}

abbrev pub decreases-loop-at : goal.decreases-loop-at
decreases-loop-at l = l.at
