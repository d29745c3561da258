use Rattle.std.proofs.Common.{◌≡◌}
use Rattle.cells.specs.declared.Cell.TheVariants.{Junk}
use Rattle.cpu80_tagged.specs.Start.{start_cell80}
use Rattle.cpu80_tagged.proofs.Starts.{Filled}
use Rattle.cpu80_tagged.proofs.start.start_memory.Given as goal

abbrev pub invariant-loop-at : goal.invariant-loop-at
invariant-loop-at l = Filled Junk (λ a v. v ≡ start_cell80 l.program l.page a) l.memory.items l.at
