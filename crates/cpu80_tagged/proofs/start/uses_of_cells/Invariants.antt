use Rattle.cpu80_tagged.specs.declared.area.CellUse.TheVariants.{Closed}
use Rattle.cpu80_tagged.proofs.Starts.{IsUseOf, Filled}
use Rattle.cpu80_tagged.proofs.start.uses_of_cells.Given as goal

abbrev pub invariant-loop-at : goal.invariant-loop-at
invariant-loop-at l = Filled Closed (IsUseOf l.program) l.uses.items l.at
