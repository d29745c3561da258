-- What a program makes of each cell, as a machine keeps it.
use Rattle.std.specs.Prelude.{◌≡◌, ℕ, Bool, true, false, List, length, slice_index_or}
use Rattle.asm80_types.specs.Program.{Program, is_start}
use Rattle.cpu80_tagged.specs.Memory.{is_closed}
use Rattle.cpu80_tagged.specs.declared.area.CellUse.{CellUse}
use Rattle.cpu80_tagged.specs.declared.area.CellUse.TheVariants.{Open, Closed, Start}

abbrev pub is_closed_use : CellUse → Bool
is_closed_use Open = false
is_closed_use Closed = true
is_closed_use Start = true

abbrev pub is_start_use : CellUse → Bool
is_start_use Open = false
is_start_use Closed = false
is_start_use Start = true

-- a list says of each cell of 64K whether it is closed, and whether an instruction starts there; past its end all are closed
pub record HasUses (p : Program) (uses : List CellUse) : Type 0 where
  pub size : length uses ≡ 65536
  pub closed : (a : ℕ) → is_closed_use (slice_index_or uses a Closed) ≡ is_closed p a
  pub starts : (a : ℕ) → is_start_use (slice_index_or uses a Closed) ≡ is_start p a
