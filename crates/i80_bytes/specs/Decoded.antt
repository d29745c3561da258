-- What decoding answers, said by the encodings alone.
use Rattle.std.specs.Prelude.{◌≡◌, ℕ, ◌==◌, true, cond, List, ◌++◌, length, Option, Some, None}
use Rattle.i80.specs.declared.Word.TheVariants.{Num}
use Rattle.i80.specs.declared.Goal.{Goal}
use Rattle.i80.specs.declared.Goal.TheVariants.{At, Boot, Bdos}
use Rattle.i80.specs.declared.Instr80.{Instr80}
use Rattle.i80.specs.declared.Instr80.TheVariants.{Lxi, Jmp, Jif, Call, Cif}
use Rattle.i80.specs.Columns.{is_well_formed}
use Rattle.i80_bytes.specs.Enc80.{enc80, number_of, address_of}

-- what an address tells of a target: 0 is the warm start, 5 the BDOS, and any other is an instruction's
abbrev pub goal_at : ℕ → Goal
goal_at a = cond (a == 0) Boot (cond (a == 5) Bdos (At a))

-- what the bytes of an instruction tell of it: a word that it loads is a number, and a target is an address
abbrev pub as_told : Instr80 → Instr80
as_told (Lxi p w) = Lxi p (Num (number_of w))
as_told (Jmp t) = Jmp (goal_at (address_of t))
as_told (Jif c t) = Jif c (goal_at (address_of t))
as_told (Call t) = Call (goal_at (address_of t))
as_told (Cif c t) = Cif c (goal_at (address_of t))
as_told i = i

-- the bytes begin with these
abbrev pub IsPrefix : List ℕ → List ℕ → Type 0
IsPrefix front bytes = (rest : List ℕ) × (bytes ≡ front ++ rest)

-- an instruction of the 8080 whose encoding the bytes begin with
abbrev pub StandsFirst : List ℕ → Instr80 → Type 0
StandsFirst bytes i = (is_well_formed i ≡ true) × IsPrefix (enc80 i) bytes

-- the instruction that stands first in the bytes, as they tell it, and how many of them it has; nothing where none stands there
abbrev pub IsDecoded : List ℕ → Option (Instr80 × ℕ) → Type 0
IsDecoded bytes None = (i : Instr80) → StandsFirst bytes i → ⊥
IsDecoded bytes (Some d) = StandsFirst bytes d.0 × (d.1 ≡ length (enc80 d.0)) × ((i : Instr80) → StandsFirst bytes i → as_told i ≡ d.0)

-- no encoding begins with another
abbrev pub IsPrefixFree : Type 0
IsPrefixFree = (i j : Instr80) → StandsFirst (enc80 j) i → is_well_formed j ≡ true → as_told i ≡ as_told j
