use Rattle.std.proofs.Common.{◌≡◌, length}
use Rattle.sym_block_def.specs.Walk86.{comes_next}
use Rattle.sym_run.specs.Around.{surroundings_of}
use Rattle.sym_run.proofs.around.comes_next.Given as goal

abbrev pub invariant-loop-stmt : goal.invariant-loop-stmt
invariant-loop-stmt l = comes_next (surroundings_of l.around) l.rest ≡ comes_next (surroundings_of l.around) l.from

abbrev pub decreases-loop-stmt : goal.decreases-loop-stmt
decreases-loop-stmt l = length l.rest
