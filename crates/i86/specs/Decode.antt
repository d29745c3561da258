-- What decoding answers, said by the encodings alone.
use Rattle.std.specs.Prelude.{◌≡◌, ℕ, ◌<◌, List, ◌++◌, length, Option, Some, None, All}
use Rattle.i86.specs.declared.Instr86.{Instr86}
use Rattle.i86.specs.Enc86.{enc86}
use Rattle.i86.specs.Code.{HasBytes, ReadsCode}

-- the bytes begin with these
abbrev pub IsPrefix : List ℕ → List ℕ → Type 0
IsPrefix front bytes = (rest : List ℕ) × (bytes ≡ front ++ rest)

-- the one instruction that stands, with the number of its bytes, or nothing where none stands
abbrev pub IsTheOne : (Instr86 → Type 0) → Option (Instr86 × ℕ) → Type 0
IsTheOne Stands None = (i : Instr86) → ¬ Stands i
IsTheOne Stands (Some d) = Stands d.0 × (d.1 ≡ length (enc86 d.0)) × ((i : Instr86) → Stands i → i ≡ d.0)

-- the instruction whose encoding the bytes begin with
abbrev pub IsDecoded : List ℕ → Option (Instr86 × ℕ) → Type 0
IsDecoded bytes answer = IsTheOne (λ i. IsPrefix (enc86 i) bytes) answer

-- the instruction that stands at a place of the code, which it does not pass
abbrev pub IsDecodedAt : List ℕ → ℕ → Option (Instr86 × ℕ) → Type 0
IsDecodedAt code at answer = IsTheOne (λ i. HasBytes code at (enc86 i)) answer

-- no encoding begins with another
abbrev pub IsPrefixFree : Type 0
IsPrefixFree = (i j : Instr86) → IsPrefix (enc86 i) (enc86 j) → i ≡ j

-- this reads the code, and whatever reads it gives the same at every place
abbrev pub IsOnlyReader : List ℕ → (ℕ → Option Instr86) → Type 0
IsOnlyReader code fetch = ReadsCode code fetch × ((other : ℕ → Option Instr86) → ReadsCode code other → (at : ℕ) → other at ≡ fetch at)

-- the code has a reader, and only one
abbrev pub HasReader : List ℕ → Type 0
HasReader code = (fetch : ℕ → Option Instr86) × IsOnlyReader code fetch

-- each code of bytes has one
abbrev pub HasOneReader : Type 0
HasOneReader = (code : List ℕ) → All (λ b. b < 256) code → HasReader code
