use Rattle.std.proofs.Common.{◌≡◌}
use Rattle.i80_bytes.proofs.Texts.{cells_below}
use Rattle.i80_bytes.proofs.text.program_cells.Given as goal

abbrev pub invariant-loop-at : goal.invariant-loop-at
invariant-loop-at l = l.cells.items ≡ cells_below l.program l.at
