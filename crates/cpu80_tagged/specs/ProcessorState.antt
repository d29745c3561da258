-- The state that a machine's fields stand for, and whether it asks.
use Rattle.std.specs.Prelude.{Bool, true, false, Result}
use Rattle.cells.specs.declared.Rule.{Rule}
use Rattle.dialogue.specs.declared.request.Shape.{Shape}
use Rattle.dialogue.specs.Shape.{Seen, shape_of}
use Rattle.cpu80_tagged.specs.State.{State80, num_of}
use Rattle.cpu80_tagged.specs.Draft.{regs_of_draft, memory_of}
use Rattle.cpu80_tagged.specs.Sight.{seen_over, closed_in}
use Rattle.cpu80_tagged.specs.declared.processor.Cpu80.{Cpu80}
use Rattle.cpu80_tagged.specs.declared.processor.Phase.{Phase}
use Rattle.cpu80_tagged.specs.declared.processor.Phase.TheVariants.{Running, Asking, Ended}

abbrev pub tagged_state : Cpu80 → State80
tagged_state c = record {
  regs = regs_of_draft c.registers;
  flags = c.flags;
  sp = c.sp;
  mem = memory_of c.memory.items;
  place = c.place;
  dma = c.dma;
}

abbrev pub waits : Phase → Bool
waits Running = false
waits (Asking what back) = true
waits Ended = false

-- it asks, and waits for a reply
abbrev pub asks : Cpu80 → Bool
asks c = waits c.phase

-- what a call of it sees of memory, and the shape of the call that its registers make
abbrev pub seen_of : Cpu80 → Bool → Seen
seen_of c is_popped = seen_over (closed_in c.uses.items) (memory_of c.memory.items) c.sp is_popped

abbrev pub tagged_shape : Cpu80 → Bool → Result Shape Rule
tagged_shape c is_popped =
    shape_of (num_of c.registers.c) (num_of c.registers.d) (num_of c.registers.e) c.dma (seen_of c is_popped)
