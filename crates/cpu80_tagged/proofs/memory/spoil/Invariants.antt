use Rattle.std.proofs.Common.{◌≡◌}
use Rattle.cpu80_tagged.specs.Draft.{memory_of}
use Rattle.cpu80_tagged.specs.Sight.{closed_in}
use Rattle.cpu80_tagged.specs.Reply.{spoiled_cells}
use Rattle.cpu80_tagged.proofs.memory.spoil.Given as goal

abbrev pub invariant-loop-k : goal.invariant-loop-k
invariant-loop-k l = memory_of l.memory ≡ spoiled_cells l.k (closed_in l.uses) l.sp (memory_of l.fn.memory)
