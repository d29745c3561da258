use Rattle.asm86_line_types.proofs.Sorting.{ascending_stay, cells_are_sorted}
use Rattle.asm86_line_types.proofs.laws.cells_are_sorted.Goals as goal

pub returns-clause-sorted : goal.returns-clause-sorted
returns-clause-sorted c = cells_are_sorted

pub returns-clause-stay : goal.returns-clause-stay
returns-clause-stay c = ascending_stay
