-- The state of the 8086: registers, segments, flags and 64K of memory (Intel 8086 Family User's Manual, "Registers").
use Rattle.std.specs.Prelude.{ℕ, ◌+◌, ◌-◌, ◌/◌, ◌%◌, Bool}
use Rattle.i86.specs.declared.Reg8.{Reg8}
use Rattle.i86.specs.declared.Reg8.TheVariants.{Al, Cl, Dl, Bl, Ah, Ch, Dh, Bh}
use Rattle.i86.specs.declared.Reg16.{Reg16}
use Rattle.i86.specs.declared.Reg16.TheVariants.{Ax, Cx, Dx, Bx, Sp, Si}
use Rattle.i86.specs.declared.Ptr.{Ptr}
use Rattle.i86.specs.declared.Ptr.TheVariants.{Bx as PtrBx, Si as PtrSi}
use Rattle.i86.specs.declared.Operand8.{Operand8}
use Rattle.i86.specs.declared.Operand8.TheVariants.{Reg, Mem}
use Rattle.i86.specs.declared.Operand16.{Operand16}
use Rattle.i86.specs.declared.Operand16.TheVariants.{Reg as Reg_16, Direct}
use Rattle.dialogue.specs.Words.{word, wrap}
use Rattle.dialogue.specs.ByteMemory.{put, word_at}

pub record Flags86 : Type 0 where
  pub sf : Bool
  pub zf : Bool
  pub af : Bool
  pub pf : Bool
  pub cf : Bool

-- the byte registers; AX, CX, DX and BX are pairs of them
pub record Regs86 : Type 0 where
  pub al : ℕ
  pub ah : ℕ
  pub cl : ℕ
  pub ch : ℕ
  pub dl : ℕ
  pub dh : ℕ
  pub bl : ℕ
  pub bh : ℕ

pub record State86 : Type 0 where
  pub regs : Regs86
  pub sp : ℕ
  pub si : ℕ
  pub ip : ℕ
  pub ds : ℕ
  pub ss : ℕ
  pub flags : Flags86
  pub mem : ℕ → ℕ
  pub dma : ℕ

abbrev pub reg8 : Regs86 → Reg8 → ℕ
reg8 r Al = r.al
reg8 r Cl = r.cl
reg8 r Dl = r.dl
reg8 r Bl = r.bl
reg8 r Ah = r.ah
reg8 r Ch = r.ch
reg8 r Dh = r.dh
reg8 r Bh = r.bh

abbrev pub with8 : Regs86 → Reg8 → ℕ → Regs86
with8 r Al v = record r { al = v }
with8 r Cl v = record r { cl = v }
with8 r Dl v = record r { dl = v }
with8 r Bl v = record r { bl = v }
with8 r Ah v = record r { ah = v }
with8 r Ch v = record r { ch = v }
with8 r Dh v = record r { dh = v }
with8 r Bh v = record r { bh = v }

abbrev pub reg16 : State86 → Reg16 → ℕ
reg16 s Ax = word s.regs.ah s.regs.al
reg16 s Cx = word s.regs.ch s.regs.cl
reg16 s Dx = word s.regs.dh s.regs.dl
reg16 s Bx = word s.regs.bh s.regs.bl
reg16 s Sp = s.sp
reg16 s Si = s.si

abbrev pub with16 : State86 → Reg16 → ℕ → State86
with16 s Ax w = record s { regs = record (s.regs) { ah = w / 256; al = w % 256 } }
with16 s Cx w = record s { regs = record (s.regs) { ch = w / 256; cl = w % 256 } }
with16 s Dx w = record s { regs = record (s.regs) { dh = w / 256; dl = w % 256 } }
with16 s Bx w = record s { regs = record (s.regs) { bh = w / 256; bl = w % 256 } }
with16 s Sp w = record s { sp = w }
with16 s Si w = record s { si = w }

-- so many below
abbrev pub back : ℕ → ℕ → ℕ
back w k = wrap (w + (0x10000 - k))

abbrev pub put_word : (ℕ → ℕ) → ℕ → ℕ → ℕ → ℕ
put_word mem a w = put (put mem a (w % 256)) (wrap (a + 1)) (w / 256)

-- the address in BX or SI
abbrev pub pointed : State86 → Ptr → ℕ
pointed s PtrBx = word s.regs.bh s.regs.bl
pointed s PtrSi = s.si

abbrev pub operand8 : State86 → Operand8 → ℕ
operand8 s (Reg r) = reg8 s.regs r
operand8 s (Mem p) = s.mem (pointed s p)

abbrev pub with_operand8 : State86 → Operand8 → ℕ → State86
with_operand8 s (Reg r) v = record s { regs = with8 s.regs r v }
with_operand8 s (Mem p) v = record s { mem = put s.mem (pointed s p) v }

abbrev pub operand16 : State86 → Operand16 → ℕ
operand16 s (Reg_16 r) = reg16 s r
operand16 s (Direct a) = word_at s.mem a

abbrev pub push : State86 → ℕ → State86
push s w = record s { sp = back s.sp 2; mem = put_word s.mem (back s.sp 2) w }
