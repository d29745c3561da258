-- The state of the definition that a processor stands for.
use Rattle.std.specs.Prelude.{ℕ, slice_index}
use Rattle.cpu86.specs.State.{Flags86, Regs86, State86}
use Rattle.cpu86.specs.declared.registers.Registers.{Registers}
use Rattle.cpu86.specs.declared.flags.Flags.{Flags}
use Rattle.cpu86.specs.declared.memory.Memory.{Memory}
use Rattle.cpu86.specs.declared.processor.Processor.{Processor}

abbrev pub regs_of_86 : Registers → Regs86
regs_of_86 r = record { al = r.al; ah = r.ah; cl = r.cl; ch = r.ch; dl = r.dl; dh = r.dh; bl = r.bl; bh = r.bh }

abbrev pub flags_of_86 : Flags → Flags86
flags_of_86 f = record { sf = f.sf; zf = f.zf; af = f.af; pf = f.pf; cf = f.cf }

-- the byte at each address
abbrev pub memory_of_86 : Memory → ℕ → ℕ
memory_of_86 m a = slice_index m.bytes.items a

abbrev pub state_of_86 : Processor → State86
state_of_86 p = record {
  regs = regs_of_86 p.registers;
  sp = p.sp;
  si = p.si;
  ip = p.ip;
  ds = p.ds;
  ss = p.ss;
  flags = flags_of_86 p.flags;
  mem = memory_of_86 p.memory;
  dma = p.dma;
}

-- other memory
abbrev pub with_mem : State86 → (ℕ → ℕ) → State86
with_mem s m = record s { mem = m }
