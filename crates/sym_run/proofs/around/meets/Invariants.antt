use Rattle.std.proofs.Common.{◌≡◌, length}
use Rattle.sym_block_def.specs.Walk86.{met}
use Rattle.sym_run.specs.Around.{surroundings_of}
use Rattle.sym_run.proofs.around.meets.Given as goal

abbrev pub invariant-loop-stmt : goal.invariant-loop-stmt
invariant-loop-stmt l = met (surroundings_of l.around) l.rest ≡ met (surroundings_of l.around) l.from

abbrev pub decreases-loop-stmt : goal.decreases-loop-stmt
decreases-loop-stmt l = length l.rest
