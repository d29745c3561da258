-- What a call sees of memory, by a test of which cells are closed.
use Rattle.std.specs.Prelude.{ℕ, ◌+◌, ◌==◌, ◌&&◌, ◌||◌, not, Bool, cond, List, Option, None, slice_index_or}
use Rattle.cells.specs.declared.Cell.{Cell}
use Rattle.dialogue.specs.Shape.{Seen}
use Rattle.dialogue.specs.Words.{wrap}
use Rattle.cpu80_tagged.specs.State.{num_of}
use Rattle.cpu80_tagged.specs.Call.{is_just_below}
use Rattle.cpu80_tagged.specs.declared.area.CellUse.{CellUse}
use Rattle.cpu80_tagged.specs.declared.area.CellUse.TheVariants.{Closed}
use Rattle.cpu80_tagged.specs.Area.{is_closed_use}

-- a cell that the call may read holds a number, and is neither closed nor just below SP
abbrev pub byte_over : (ℕ → Bool) → (ℕ → Cell) → ℕ → ℕ → Option ℕ
byte_over closed mem sp a = cond (is_just_below sp a || closed a) None (num_of (mem a))

-- one that it may write is neither closed, nor just below SP, nor of the word at 6, nor of a return that is popped
abbrev pub writable_over : (ℕ → Bool) → ℕ → Bool → ℕ → Bool
writable_over closed sp is_popped a =
    not (is_just_below sp a || ((closed a || (a == 6 || a == 7)) || (is_popped && (a == sp || a == wrap (sp + 1)))))

abbrev pub seen_over : (ℕ → Bool) → (ℕ → Cell) → ℕ → Bool → Seen
seen_over closed mem sp is_popped = record { byte = byte_over closed mem sp; writable = writable_over closed sp is_popped }

-- the test of closed cells that a list of uses is; past its end all are closed
abbrev pub closed_in : List CellUse → ℕ → Bool
closed_in uses a = is_closed_use (slice_index_or uses a Closed)
