-- The sorts of the terms of a run: registers and AH hold bytes, flags bits, SP and SI words; an address is a word, and what is stored
-- is a byte or a word. All of them are made.
use Rattle.std.specs.Prelude.{◌<◌, ℕ, List, [], ◌∷◌, IfOk}
use Rattle.cells.specs.Parts.{Parts}
use Rattle.i80.specs.declared.Instr80.{Instr80}
use Rattle.i86.specs.declared.Reg16.{Reg16}
use Rattle.i86.specs.declared.Operand16.TheVariants.{Direct}
use Rattle.i86.specs.declared.Instr86.{Instr86}
use Rattle.i86.specs.declared.Instr86.TheVariants.{MovAlDirect, MovDirectAl, MovNum8, MovNum16, MovMemNum, MovReg16, MovDirect16, AluNum, InAl, OutAl}
use Rattle.asm80_types.specs.Program.{Program, IsCoded, AreCoded}
use Rattle.asm86_line_types.specs.declared.line.Label.{Label}
use Rattle.asm86_line_types.specs.declared.line.Stmt86.{Stmt86}
use Rattle.asm86_line_types.specs.declared.line.Stmt86.TheVariants.{Run}
use Rattle.sym_terms.specs.Term.{is_bit, is_byte, is_word}
use Rattle.sym_terms.specs.Laws.{IsMadeAs}
use Rattle.sym_block_def.specs.Outcome.{Action, Load8, Load16, Store8, Store16, Way, ByTerms, Exit, One, Two, Held, Outcome}
use Rattle.sym_block_def.specs.Block80.{Symbolic80, start80, effect80, block80}
use Rattle.sym_block_def.specs.Symbolic86.{Symbolic86, start86, with_reg16, offset_term, effect86}
use Rattle.sym_block_def.specs.Walk86.{walk86}

pub record HeldIsSorted (x : Held) : Type 0 where
  pub a : IsMadeAs is_byte x.a
  pub b : IsMadeAs is_byte x.b
  pub c : IsMadeAs is_byte x.c
  pub d : IsMadeAs is_byte x.d
  pub e : IsMadeAs is_byte x.e
  pub h : IsMadeAs is_byte x.h
  pub l : IsMadeAs is_byte x.l
  pub s : IsMadeAs is_bit x.s
  pub z : IsMadeAs is_bit x.z
  pub ac : IsMadeAs is_bit x.ac
  pub p : IsMadeAs is_bit x.p
  pub cy : IsMadeAs is_bit x.cy

abbrev pub ActionIsSorted : Action → Type 0
ActionIsSorted (Load8 address) = IsMadeAs is_word address
ActionIsSorted (Load16 address) = IsMadeAs is_word address
ActionIsSorted (Store8 address value) = IsMadeAs is_word address × IsMadeAs is_byte value
ActionIsSorted (Store16 address value) = IsMadeAs is_word address × IsMadeAs is_word value

abbrev pub ActionsAreSorted : List Action → Type 0
ActionsAreSorted [] = Unit {0}
ActionsAreSorted (x ∷ xs) = ActionIsSorted x × ActionsAreSorted xs

-- the terms of a run of the 8080
pub record AreSorted80 (s : Symbolic80) : Type 0 where
  pub held : HeldIsSorted s.held
  pub sp : IsMadeAs is_word s.sp
  pub actions : ActionsAreSorted s.trace.actions

-- and of the 8086
pub record AreSorted86 (s : Symbolic86) : Type 0 where
  pub held : HeldIsSorted s.held
  pub ah : IsMadeAs is_byte s.ah
  pub si : IsMadeAs is_word s.si
  pub sp : IsMadeAs is_word s.sp
  pub actions : ActionsAreSorted s.trace.actions

-- the halves of an address are bytes
abbrev pub WayIsSorted : Way → Type 0
WayIsSorted (ByTerms high low) = IsMadeAs is_byte high × IsMadeAs is_byte low
WayIsSorted way = Unit {0}

abbrev pub ExitIsSorted : Exit → Type 0
ExitIsSorted (One way) = WayIsSorted way
ExitIsSorted (Two flag value where_so otherwise) = IsMadeAs is_bit flag × WayIsSorted where_so × WayIsSorted otherwise

pub record OutcomeIsSorted (x : Outcome) : Type 0 where
  pub actions : ActionsAreSorted x.actions
  pub held : HeldIsSorted x.held
  pub sp : IsMadeAs is_word x.sp
  pub exit : ExitIsSorted x.exit

-- The numbers of an 8086 instruction are in their ranges: immediate bytes and ports, immediate words and direct addresses.
abbrev pub IsCoded86 : Instr86 → Type 0
IsCoded86 (MovAlDirect a) = a < 0x10000
IsCoded86 (MovDirectAl a) = a < 0x10000
IsCoded86 (MovNum8 r n) = n < 0x100
IsCoded86 (MovNum16 r w) = w < 0x10000
IsCoded86 (MovMemNum p n) = n < 0x100
IsCoded86 (MovReg16 r (Direct a)) = a < 0x10000
IsCoded86 (MovDirect16 a r) = a < 0x10000
IsCoded86 (AluNum op n) = n < 0x100
IsCoded86 (InAl port) = port < 0x100
IsCoded86 (OutAl port) = port < 0x100
IsCoded86 i = Unit {0}

abbrev pub StatementIsCoded : Stmt86 → Type 0
StatementIsCoded (Run i) = IsCoded86 i
StatementIsCoded x = Unit {0}

abbrev pub StatementsAreCoded : List Stmt86 → Type 0
StatementsAreCoded [] = Unit {0}
StatementsAreCoded (x ∷ xs) = StatementIsCoded x × StatementsAreCoded xs

-- A run begins with terms that are made and of their sorts, each instruction keeps them so, and so are those of an outcome.
pub record StepsKeepSorts : Type 0 where
  pub start80 : AreSorted80 start80
  pub start86 : (keep : Parts) → AreSorted86 (start86 keep)
  pub effect80 : (s : Symbolic80) (i : Instr80) → IsCoded i → AreSorted80 s → AreSorted80 (effect80 s i)
  pub effect86 : (s : Symbolic86) (i : Instr86) → IsCoded86 i → AreSorted86 s → AreSorted86 (effect86 s i)
  pub offset : (s : Symbolic86) (r : Reg16) (l : Label) → AreSorted86 s → AreSorted86 (with_reg16 s r (offset_term l))
  pub block80 : (p : Program) (first count : ℕ) → AreCoded p.instrs → OutcomeIsSorted (block80 p first count)
  pub walk86 : (p : Program) (text : List Stmt86) (keep : Parts) (first count : ℕ) → StatementsAreCoded text → IfOk (walk86 p text keep first count) OutcomeIsSorted
