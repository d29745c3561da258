-- A line that is held, and a byte more.
use Rattle.std.proofs.Common.{ℕ, List, [], ◌∷◌, ◌++◌, Option, Some, None, length, arith, ap, inl, inr}
use Rattle.std.proofs.lemmas.Bool.{cases_lt, lt-ltb, le-ltb}
use Rattle.std.proofs.lemmas.List.{length-append}
use Rattle.base.specs.Held.{held_with_byte, HoldsLine}

pub holds_byte : (o : Option (List ℕ)) (rest : List ℕ) (b : ℕ) → HoldsLine o rest → HoldsLine (held_with_byte o b) (rest ++ b ∷ [])
holds_byte None rest b h = omega (arith, length-append rest (b ∷ []))
holds_byte (Some bytes) rest b h = elim (cases_lt (length bytes) 256) [
  | inl lt ↦ rw (lt-ltb (length bytes) 256 lt) (ap (λ (t : List ℕ). t ++ b ∷ []) h)
  | inr le ↦ rw (le-ltb (length bytes) 256 le) (omega (arith, length-append rest (b ∷ []), ap length h))
]
