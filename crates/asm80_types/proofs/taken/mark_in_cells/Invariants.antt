use Rattle.std.proofs.Common.{◌≡◌, ◌||◌, ℕ, filter_map, take}
use Rattle.base.specs.Addresses.{has_address, is_among}
use Rattle.asm80_types.specs.Taken.{place_in_cell}
use Rattle.asm80_types.proofs.taken.mark_in_cells.Given as goal

abbrev pub invariant-loop-cell : goal.invariant-loop-cell
invariant-loop-cell l = (a : ℕ) → has_address l.set a ≡ (has_address l.initial.set a || is_among (filter_map place_in_cell (take l.cell-index l.cells)) a)
