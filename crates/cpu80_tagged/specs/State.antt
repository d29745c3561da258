-- The state of the tagged 8080: what each register and cell is known to hold.
use Rattle.std.specs.Prelude.{ℕ, ◌/◌, ◌%◌, Bool, Option, Some, None, Result, Ok, Err}
use Rattle.cells.specs.declared.Place.{Place}
use Rattle.cells.specs.declared.Flags.{Flags}
use Rattle.cells.specs.declared.Cell.{Cell}
use Rattle.cells.specs.declared.Cell.TheVariants.{Num, Lo, Hi, Psw, Junk}
use Rattle.cells.specs.declared.Rule.{Rule}
use Rattle.i80.specs.declared.Reg.{Reg}
use Rattle.i80.specs.declared.Reg.TheVariants.{A, B, C, D, E, H, L}
use Rattle.i80.specs.declared.Pair.{Pair}
use Rattle.i80.specs.declared.Pair.TheVariants.{B as PairB, D as PairD, H as PairH, Sp}

pub record Regs80 : Type 0 where
  pub a : Cell
  pub b : Cell
  pub c : Cell
  pub d : Cell
  pub e : Cell
  pub h : Cell
  pub l : Cell

-- SP is a number always; `place` is the instruction that comes next, `dma` the DMA address
pub record State80 : Type 0 where
  pub regs : Regs80
  pub flags : Flags
  pub sp : ℕ
  pub mem : ℕ → Cell
  pub place : Place
  pub dma : ℕ

abbrev pub reg80 : Regs80 → Reg → Cell
reg80 r A = r.a
reg80 r B = r.b
reg80 r C = r.c
reg80 r D = r.d
reg80 r E = r.e
reg80 r H = r.h
reg80 r L = r.l

abbrev pub with_reg80 : Regs80 → Reg → Cell → Regs80
with_reg80 r A v = record r { a = v }
with_reg80 r B v = record r { b = v }
with_reg80 r C v = record r { c = v }
with_reg80 r D v = record r { d = v }
with_reg80 r E v = record r { e = v }
with_reg80 r H v = record r { h = v }
with_reg80 r L v = record r { l = v }

-- the halves of a pair
abbrev pub high_of : State80 → Pair → Cell
high_of s PairB = s.regs.b
high_of s PairD = s.regs.d
high_of s PairH = s.regs.h
high_of s Sp = Num (s.sp / 256)

abbrev pub low_of : State80 → Pair → Cell
low_of s PairB = s.regs.c
low_of s PairD = s.regs.e
low_of s PairH = s.regs.l
low_of s Sp = Num (s.sp % 256)

-- two cells into a pair of registers
abbrev pub with_bc : State80 → Cell → Cell → State80
with_bc s high low = record s { regs = record (s.regs) { b = high; c = low } }

abbrev pub with_de : State80 → Cell → Cell → State80
with_de s high low = record s { regs = record (s.regs) { d = high; e = low } }

abbrev pub with_hl : State80 → Cell → Cell → State80
with_hl s high low = record s { regs = record (s.regs) { h = high; l = low } }

-- two cells into a pair; SP, which holds a number always, stays
abbrev pub with_cells : State80 → Pair → Cell → Cell → State80
with_cells s PairB high low = with_bc s high low
with_cells s PairD high low = with_de s high low
with_cells s PairH high low = with_hl s high low
with_cells s Sp high low = s

-- a number into a pair
abbrev pub with_num : State80 → Pair → ℕ → State80
with_num s PairB w = with_bc s (Num (w / 256)) (Num (w % 256))
with_num s PairD w = with_de s (Num (w / 256)) (Num (w % 256))
with_num s PairH w = with_hl s (Num (w / 256)) (Num (w % 256))
with_num s Sp w = record s { sp = w }

abbrev pub with_a : State80 → Cell → State80
with_a s v = record s { regs = record (s.regs) { a = v } }

abbrev pub with_flags : State80 → Flags → State80
with_flags s f = record s { flags = f }

abbrev pub with_cy : State80 → Bool → State80
with_cy s c = record s { flags = record (s.flags) { cy = Some c } }

abbrev pub junk_regs : Regs80
junk_regs = record { a = Junk; b = Junk; c = Junk; d = Junk; e = Junk; h = Junk; l = Junk }

-- the number in a cell, if it is one
abbrev pub num_of : Cell → Option ℕ
num_of (Num n) = Some n
num_of (Lo q) = None
num_of (Hi q) = None
num_of (Psw f) = None
num_of Junk = None

-- the number in a cell; without one the rule is broken
abbrev pub num_or : Rule → Cell → Result ℕ Rule
num_or r (Num n) = Ok n
num_or r (Lo q) = Err r
num_or r (Hi q) = Err r
num_or r (Psw f) = Err r
num_or r Junk = Err r
