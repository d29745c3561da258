-- A program: a finite map from addresses to instructions with their lines, a finite map from addresses to data cells, and
-- the top of the program area.
use Rattle.std.specs.Prelude.{◌≡◌, ℕ, ◌+◌, ◌-◌, ◌%◌, ◌<◌, ◌≤◌, ◌==◌, nat_lt, nat_le, ◌&&◌, ◌||◌, Bool, true, false, cond, List, [], ◌∷◌, map, length, slice_index, suc, Option, Some, None, is_some, IfSome}
use Rattle.cells.specs.declared.Place.TheVariants.{At as AtPlace, Exit}
use Rattle.cells.specs.declared.Cell.{Cell}
use Rattle.cells.specs.declared.Cell.TheVariants.{Num, Lo, Hi, Psw, Junk}
use Rattle.i80.specs.declared.Word.{Word}
use Rattle.i80.specs.declared.Word.TheVariants.{Num as Number, Code}
use Rattle.i80.specs.declared.Goal.{Goal}
use Rattle.i80.specs.declared.Goal.TheVariants.{At, Boot, Bdos}
use Rattle.i80.specs.declared.Instr80.{Instr80}
use Rattle.i80.specs.declared.Instr80.TheVariants.{Mvi, Lxi, Lda, Sta, Lhld, Shld, AluI, Jmp, Jif, Call, Cif, In, Out}
use Rattle.i80.specs.Columns.{length80, is_well_formed}
use Rattle.asm80_types.specs.declared.program.Placed.{Placed}

-- both maps are lists in ascending order of their addresses
pub record Program : Type 0 where
  pub instrs : List Placed
  pub cells : List (ℕ × Cell)
  pub top : ℕ

abbrev pub program_of : List Placed → List (ℕ × Cell) → ℕ → Program
program_of instrs cells top = record { instrs = instrs; cells = cells; top = top }

-- the instruction that starts at an address
abbrev pub placed_in : List Placed → ℕ → Option Placed
placed_in [] a = None
placed_in (x ∷ xs) a = cond (x.at == a) (Some x) (placed_in xs a)

abbrev pub instr_of_placed : Option Placed → Option Instr80
instr_of_placed None = None
instr_of_placed (Some x) = Some x.instr

abbrev pub line_of_placed : Option Placed → Option ℕ
line_of_placed None = None
line_of_placed (Some x) = Some x.line

abbrev pub instr_at : Program → ℕ → Option Instr80
instr_at p a = instr_of_placed (placed_in p.instrs a)

abbrev pub line_at : Program → ℕ → Option ℕ
line_at p a = line_of_placed (placed_in p.instrs a)

-- an instruction starts there
abbrev pub is_start : Program → ℕ → Bool
is_start p a = is_some (placed_in p.instrs a)

-- the addresses of instructions
abbrev pub starts_of : List Placed → List ℕ
starts_of xs = map (λ (x : Placed). x.at) xs

abbrev pub starts : Program → List ℕ
starts p = starts_of p.instrs

-- the data cell at an address
abbrev pub cell_in : List (ℕ × Cell) → ℕ → Option Cell
cell_in [] a = None
cell_in (c ∷ cs) a = cond (c.0 == a) (Some c.1) (cell_in cs a)

abbrev pub cell_at : Program → ℕ → Option Cell
cell_at p a = cell_in p.cells a

-- one of the cells of an instruction
abbrev pub covers : Placed → ℕ → Bool
covers x a = nat_le x.at a && nat_lt a (x.at + length80 x.instr)

abbrev pub is_covered : List Placed → ℕ → Bool
is_covered [] a = false
is_covered (x ∷ xs) a = covers x a || is_covered xs a

abbrev pub is_code : Program → ℕ → Bool
is_code p a = is_covered p.instrs a

-- the last instruction before one that starts past an address
abbrev pub or_before : Option Placed → Placed → Option Placed
or_before None x = Some x
or_before (Some y) x = Some y

abbrev pub last_from : List Placed → ℕ → Option Placed
last_from [] a = None
last_from (x ∷ xs) a = cond (nat_le x.at a) (or_before (last_from xs a) x) None

-- its place: it starts at the address or before it, and the next one past it
pub record IsLast (xs : List Placed) (a k : ℕ) : Type 0 where
  pub within : k < length xs
  pub upto : slice_index (starts_of xs) k ≤ a
  pub past : suc k < length xs → a < slice_index (starts_of xs) (suc k)

-- the tops of a program area: the multiples of 100H from 1000H to 0FF00H
abbrev pub is_top : ℕ → Bool
is_top t = (t % 0x100 == 0) && (nat_le 0x1000 t && nat_le t 0xFF00)

-- instructions one after the other from a place up, each of them well formed and wholly below a limit
abbrev pub AreLaid : ℕ → ℕ → List Placed → Type 0
AreLaid from limit [] = Unit {0}
AreLaid from limit (x ∷ xs) =
    (from ≤ x.at) × (x.at + length80 x.instr ≤ limit) × (is_well_formed x.instr ≡ true) × AreLaid (x.at + length80 x.instr) limit xs

-- one of them
pub record IsInstructionLaid (from limit : ℕ) (x : Placed) : Type 0 where
  pub above : from ≤ x.at
  pub below : x.at + length80 x.instr ≤ limit
  pub good : is_well_formed x.instr ≡ true

-- data cells in ascending order from a place up and below a limit, none of them a cell of an instruction
abbrev pub CellsAreLaid : List Placed → ℕ → ℕ → List (ℕ × Cell) → Type 0
CellsAreLaid instrs from limit [] = Unit {0}
CellsAreLaid instrs from limit (c ∷ cs) =
    (from ≤ c.0) × (c.0 < limit) × (is_covered instrs c.0 ≡ false) × CellsAreLaid instrs (c.0 + 1) limit cs

-- the address of an instruction that an instruction names: the target of a jump or call, unless it is 0 or 5, and the code
-- address that LXI loads
abbrev pub if_instr : Goal → Option ℕ
if_instr (At a) = Some a
if_instr Boot = None
if_instr Bdos = None

abbrev pub if_code : Word → Option ℕ
if_code (Code a) = Some a
if_code (Number w) = None

abbrev pub named_by : Instr80 → Option ℕ
named_by (Jmp t) = if_instr t
named_by (Jif c t) = if_instr t
named_by (Call t) = if_instr t
named_by (Cif c t) = if_instr t
named_by (Lxi pair w) = if_code w
named_by i = None

-- an instruction starts at each address that is named
abbrev pub NameStarts : Program → List Placed → Type 0
NameStarts p [] = Unit {0}
NameStarts p (x ∷ xs) = IfSome (named_by x.instr) (λ a. is_start p a ≡ true) × NameStarts p xs

-- a data cell is a number, or the low half of a code address with its high half in the next cell, or that high half with its
-- low half in the cell before; an instruction starts at the code address
abbrev pub IsDatum : Program → ℕ → Cell → Type 0
IsDatum p a (Num n) = n < 0x100
IsDatum p a (Lo (AtPlace q)) = (is_start p q ≡ true) × (cell_at p (a + 1) ≡ Some (Hi (AtPlace q)))
IsDatum p a (Lo Exit) = ⊥
IsDatum p a (Hi (AtPlace q)) = (is_start p q ≡ true) × (0 < a) × (cell_at p (a - 1) ≡ Some (Lo (AtPlace q)))
IsDatum p a (Hi Exit) = ⊥
IsDatum p a (Psw f) = ⊥
IsDatum p a Junk = ⊥

abbrev pub AreData : Program → List (ℕ × Cell) → Type 0
AreData p [] = Unit {0}
AreData p (c ∷ cs) = IsDatum p c.0 c.1 × AreData p cs

-- the immediate bytes, words, addresses and ports of an instruction are in their ranges
abbrev pub IsCoded : Instr80 → Type 0
IsCoded (Mvi to n) = n < 0x100
IsCoded (AluI op n) = n < 0x100
IsCoded (In port) = port < 0x100
IsCoded (Out port) = port < 0x100
IsCoded (Lxi pair (Number w)) = w < 0x10000
IsCoded (Lda a) = a < 0x10000
IsCoded (Sta a) = a < 0x10000
IsCoded (Lhld a) = a < 0x10000
IsCoded (Shld a) = a < 0x10000
IsCoded i = Unit {0}

abbrev pub AreCoded : List Placed → Type 0
AreCoded [] = Unit {0}
AreCoded (x ∷ xs) = IsCoded x.instr × AreCoded xs

-- a program: an instruction starts at 100H and at each address that an instruction or a code address among the data names; no
-- cell belongs to two, and all are from 100H up and below T-2; what the data and the operands are
pub record IsProgram (p : Program) : Type 0 where
  pub top : is_top p.top ≡ true
  pub first : is_start p 0x100 ≡ true
  pub instrs : AreLaid 0x100 (p.top - 2) p.instrs
  pub named : NameStarts p p.instrs
  pub coded : AreCoded p.instrs
  pub cells : CellsAreLaid p.instrs 0x100 (p.top - 2) p.cells
  pub values : AreData p p.cells
