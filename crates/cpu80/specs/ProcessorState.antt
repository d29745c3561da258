-- The state of the definition that a processor stands for.
use Rattle.std.specs.Prelude.{ℕ, slice_index}
use Rattle.cpu80.specs.State.{UntaggedFlags, UntaggedRegs, UntaggedState}
use Rattle.cpu80.specs.declared.registers.Registers.{Registers}
use Rattle.cpu80.specs.declared.flags.FlagBits.{FlagBits}
use Rattle.cpu80.specs.declared.memory.Memory.{Memory}
use Rattle.cpu80.specs.declared.processor.Processor.{Processor}

abbrev pub untagged_regs : Registers → UntaggedRegs
untagged_regs r = record { a = r.a; b = r.b; c = r.c; d = r.d; e = r.e; h = r.h; l = r.l }

abbrev pub untagged_flags : FlagBits → UntaggedFlags
untagged_flags f = record { s = f.s; z = f.z; ac = f.ac; p = f.p; cy = f.cy }

-- the byte at each address
abbrev pub untagged_memory : Memory → ℕ → ℕ
untagged_memory m a = slice_index m.bytes.items a

abbrev pub untagged_state : Processor → UntaggedState
untagged_state p = record { regs = untagged_regs p.registers; flags = untagged_flags p.flags; sp = p.sp; mem = untagged_memory p.memory; place = p.place; dma = p.dma }
