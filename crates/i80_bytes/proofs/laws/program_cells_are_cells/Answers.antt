use Rattle.i80_bytes.proofs.Ascending.{are_cells}
use Rattle.i80_bytes.proofs.laws.program_cells_are_cells.Goals as goal

pub returns : goal.returns
returns c = are_cells
