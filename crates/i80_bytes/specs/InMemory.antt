-- The instruction that stands in memory at an address: the one whose encoding the bytes from there on begin with (Intel 8080
-- Assembly Language Programming Manual, chapter 1, "Computer program representation in memory"; chapter 2).
use Rattle.std.specs.Prelude.{◌≡◌, ℕ, ◌<◌, List, [], ◌∷◌, Option, Some, None}
use Rattle.i80.specs.declared.Instr80.{Instr80}
use Rattle.i80_bytes.specs.Decoded.{as_told, StandsFirst}
use Rattle.cpu80.specs.State.{UntaggedState, next}
use Rattle.cpu80.specs.Step.{Fetch}

-- the bytes from an address on, as many as an instruction has at most; after 0FFFFH comes 0
abbrev pub bytes_from : (ℕ → ℕ) → ℕ → List ℕ
bytes_from mem a = mem a ∷ (mem (next a) ∷ (mem (next (next a)) ∷ []))

-- the instruction that stands first in the bytes, as they tell it: a word that it loads is a number, and a target is an
-- address; nothing where none stands there
abbrev pub StandsAsTold : List ℕ → Option Instr80 → Type 0
StandsAsTold bytes None = (i : Instr80) → StandsFirst bytes i → ⊥
StandsAsTold bytes (Some told) = StandsFirst bytes told × ((i : Instr80) → StandsFirst bytes i → as_told i ≡ told)

-- takes instructions from the bytes of memory
abbrev pub IsFetchOfBytes : Fetch → Type 0
IsFetchOfBytes fetch =
    (u : UntaggedState) (a : ℕ) → ((b : ℕ) → u.mem b < 256) → a < 0x10000 → StandsAsTold (bytes_from u.mem a) (fetch u a)
