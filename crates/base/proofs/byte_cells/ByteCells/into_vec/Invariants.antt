use Rattle.std.proofs.Common.{◌≡◌, take}
use Rattle.base.specs.Addressed.{byte_cells_from}
use Rattle.base.proofs.byte_cells.ByteCells.into_vec.Given as goal

abbrev pub invariant-loop-at : goal.invariant-loop-at
invariant-loop-at l = l.cells.items ≡ byte_cells_from 0 (take l.at l.byte-items)
