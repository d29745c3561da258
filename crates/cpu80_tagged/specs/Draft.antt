-- The state that a draft stands for.
use Rattle.std.specs.Prelude.{◌≡◌, ℕ, ◌+◌, List, slice_index_or}
use Rattle.cells.specs.declared.Cell.{Cell}
use Rattle.cells.specs.declared.Cell.TheVariants.{Junk}
use Rattle.cpu80_tagged.specs.State.{State80, Regs80}
use Rattle.cpu80_tagged.specs.Memory.{put}
use Rattle.cpu80_tagged.specs.declared.registers.Registers.{Registers}
use Rattle.cpu80_tagged.specs.declared.draft.Draft.{Draft}
use Rattle.cpu80_tagged.specs.declared.draft.Write.{Write}
use Rattle.cpu80_tagged.specs.declared.draft.Write.TheVariants.{Nothing, Cell as OneCell, Word as OneWord}

abbrev pub regs_of_draft : Registers → Regs80
regs_of_draft r = record { a = r.a; b = r.b; c = r.c; d = r.d; e = r.e; h = r.h; l = r.l }

-- memory is a function from every number; nothing is known of a cell past 64K
abbrev pub memory_of : List Cell → ℕ → Cell
memory_of cells a = slice_index_or cells a Junk

-- memory after a write
abbrev pub memory_written : Write → (ℕ → Cell) → ℕ → Cell
memory_written Nothing m = m
memory_written (OneCell a v) m = put m a v
memory_written (OneWord a w) m = put (put m a w.low) (a + 1) w.high

abbrev pub state_of_draft : Draft → State80
state_of_draft d = record {
  regs = regs_of_draft d.registers;
  flags = d.flags;
  sp = d.sp;
  mem = memory_written d.write (memory_of d.memory.now);
  place = d.place;
  dma = d.dma;
}

-- nothing is to be written yet
abbrev pub IsFresh : Draft → Type 0
IsFresh d = d.write ≡ Nothing
