-- Instructions in code: an instruction stands where the bytes of its encoding are the code's.
use Rattle.std.specs.Prelude.{◌≡◌, ℕ, ◌+◌, ◌↔◌, List, [], ◌∷◌, Option, Some, slice_get}
use Rattle.i86.specs.declared.Instr86.{Instr86}
use Rattle.i86.specs.Enc86.{enc86}

-- these bytes are the code's from this place on
abbrev pub HasBytes : List ℕ → ℕ → List ℕ → Type 0
HasBytes code ip [] = Unit {0}
HasBytes code ip (b ∷ bs) = (slice_get code ip ≡ Some b) × HasBytes code (ip + 1) bs

-- what `fetch` gives at each place of the code is the instruction that stands there
abbrev pub ReadsCode : List ℕ → (ℕ → Option Instr86) → Type 0
ReadsCode code fetch = (ip : ℕ) (i : Instr86) → (fetch ip ≡ Some i) ↔ HasBytes code ip (enc86 i)
