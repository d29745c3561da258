-- The states of the two machines that runs come to.
use Rattle.std.specs.Prelude.{◌≡◌, ◌<◌, ℕ, true, false}
use Rattle.cells.specs.declared.Place.{Place}
use Rattle.cells.specs.declared.Place.TheVariants.{At, Exit}
use Rattle.cells.specs.declared.Cell.{Cell}
use Rattle.cells.specs.declared.Cell.TheVariants.{Num, Lo, Hi, Psw, Junk}
use Rattle.i80.specs.declared.Reg.{Reg}
use Rattle.i86.specs.declared.Reg8.{Reg8}
use Rattle.asm80_types.specs.Program.{Program, is_start}
use Rattle.asm80_types.specs.Taken.{takes}
use Rattle.cpu80_tagged.specs.State.{State80, reg80}
use Rattle.cpu80_tagged.specs.Memory.{is_closed}
use Rattle.cpu86.specs.State.{State86, reg8}

-- a place that a register or a cell may hold: one that is taken, or EXIT
abbrev pub IsHeldPlace : Program → Place → Type 0
IsHeldPlace p (At a) = (is_start p a ≡ true) × (takes p a ≡ true)
IsHeldPlace p Exit = Unit {0}

-- a cell's number is a byte, and its place may be held
abbrev pub IsCell : Program → Cell → Type 0
IsCell p (Num n) = n < 256
IsCell p (Lo q) = IsHeldPlace p q
IsCell p (Hi q) = IsHeldPlace p q
IsCell p (Psw f) = Unit {0}
IsCell p Junk = Unit {0}

-- a state of the tagged 8080: its registers, and its cells that are not closed, are such cells, and SP is a word
pub record IsState80 (p : Program) (s : State80) : Type 0 where
  pub regs : (r : Reg) → IsCell p (reg80 s.regs r)
  pub mem : (a : ℕ) → is_closed p a ≡ false → IsCell p (s.mem a)
  pub sp : s.sp < 0x10000

-- a state of the 8086: bytes and words
pub record IsState86 (s : State86) : Type 0 where
  pub regs : (r : Reg8) → reg8 s.regs r < 256
  pub mem : (a : ℕ) → s.mem a < 256
  pub sp : s.sp < 0x10000
  pub si : s.si < 0x10000
  pub ds : s.ds < 0x10000
