-- What may be believed of the cells of an image.
use Rattle.std.specs.Prelude.{◌≡◌, ℕ, true, List}
use Rattle.std.specs.List.Sorted.{IsStrictlyIncreasing, IsPermutation}
use Rattle.std.specs.Map.{keys_of}
use Rattle.asm86_line_types.specs.declared.line.Label.{Label}
use Rattle.asm86_line_types.specs.declared.line.Stmt86.{Stmt86}
use Rattle.asm86_line_types.specs.Order.{at_start, in_order}
use Rattle.asm86_line_types.specs.Image.{cells_from, by_address}

-- the cells of a text in order, sorted, are its cells, and each address is below the next
abbrev pub CellsAreSorted : Type 0
CellsAreSorted = (off : Label → ℕ) (xs : List Stmt86) → in_order at_start xs ≡ true →
    IsStrictlyIncreasing (keys_of (by_address (cells_from off 0 xs)))
    × IsPermutation (cells_from off 0 xs) (by_address (cells_from off 0 xs))

-- cells whose addresses ascend stay as they are
abbrev pub AscendingStay : Type 0
AscendingStay = (cells : List (ℕ × ℕ)) → IsStrictlyIncreasing (keys_of cells) → by_address cells ≡ cells
