-- The state of the untagged 8080: registers, flags and 64K of memory (Intel 8080 Assembly Language Programming Manual,
-- chapter 1). A code address is the 8080 address of the instruction.
use Rattle.std.specs.Prelude.{ℕ, ◌+◌, ◌/◌, ◌%◌, Bool}
use Rattle.cells.specs.declared.Place.{Place}
use Rattle.i80.specs.declared.Reg.{Reg}
use Rattle.i80.specs.declared.Reg.TheVariants.{A, B, C, D, E, H, L}
use Rattle.i80.specs.declared.Pair.{Pair}
use Rattle.i80.specs.declared.Pair.TheVariants.{B as PairB, D as PairD, H as PairH, Sp}
use Rattle.dialogue.specs.Words.{word, wrap}
use Rattle.dialogue.specs.ByteMemory.{put}

pub record UntaggedFlags : Type 0 where
  pub s : Bool
  pub z : Bool
  pub ac : Bool
  pub p : Bool
  pub cy : Bool

pub record UntaggedRegs : Type 0 where
  pub a : ℕ
  pub b : ℕ
  pub c : ℕ
  pub d : ℕ
  pub e : ℕ
  pub h : ℕ
  pub l : ℕ

-- `place` is what comes next: the address of an instruction, or EXIT where the return of a jump to 5 has gone to address 0, at
-- which the program ends; `dma` is the DMA address
pub record UntaggedState : Type 0 where
  pub regs : UntaggedRegs
  pub flags : UntaggedFlags
  pub sp : ℕ
  pub mem : ℕ → ℕ
  pub place : Place
  pub dma : ℕ

abbrev pub reg : UntaggedRegs → Reg → ℕ
reg r A = r.a
reg r B = r.b
reg r C = r.c
reg r D = r.d
reg r E = r.e
reg r H = r.h
reg r L = r.l

abbrev pub with_reg : UntaggedRegs → Reg → ℕ → UntaggedRegs
with_reg r A v = record r { a = v }
with_reg r B v = record r { b = v }
with_reg r C v = record r { c = v }
with_reg r D v = record r { d = v }
with_reg r E v = record r { e = v }
with_reg r H v = record r { h = v }
with_reg r L v = record r { l = v }

-- the word in a pair
abbrev pub pair_word : UntaggedState → Pair → ℕ
pair_word u PairB = word u.regs.b u.regs.c
pair_word u PairD = word u.regs.d u.regs.e
pair_word u PairH = word u.regs.h u.regs.l
pair_word u Sp = u.sp

-- two bytes into a pair of registers
abbrev pub with_bc : UntaggedState → ℕ → ℕ → UntaggedState
with_bc u high low = record u { regs = record (u.regs) { b = high; c = low } }

abbrev pub with_de : UntaggedState → ℕ → ℕ → UntaggedState
with_de u high low = record u { regs = record (u.regs) { d = high; e = low } }

abbrev pub with_hl : UntaggedState → ℕ → ℕ → UntaggedState
with_hl u high low = record u { regs = record (u.regs) { h = high; l = low } }

-- a word into a pair
abbrev pub with_word : UntaggedState → Pair → ℕ → UntaggedState
with_word u PairB w = with_bc u (w / 256) (w % 256)
with_word u PairD w = with_de u (w / 256) (w % 256)
with_word u PairH w = with_hl u (w / 256) (w % 256)
with_word u Sp w = record u { sp = w }

abbrev pub with_a : UntaggedState → ℕ → UntaggedState
with_a u v = record u { regs = record (u.regs) { a = v } }

abbrev pub with_flags : UntaggedState → UntaggedFlags → UntaggedState
with_flags u f = record u { flags = f }

abbrev pub with_cy : UntaggedState → Bool → UntaggedState
with_cy u c = record u { flags = record (u.flags) { cy = c } }

-- memory

-- the address of the second byte of a word; that of a word at 0FFFFH is at 0
abbrev pub next : ℕ → ℕ
next a = wrap (a + 1)

abbrev pub put_word : (ℕ → ℕ) → ℕ → ℕ → ℕ → ℕ → ℕ
put_word mem a high low = put (put mem a low) (next a) high
