-- Bytes that spell a value, read from the front: where they can go on, and where they cannot.
use Rattle.std.specs.Prelude.{ℕ, ◌+◌, ◌<◌, ◌≤◌, List, length, take}
use Rattle.base.specs.Prefixes.{IsPrefixOf}

-- the bytes do not begin with the spelling of a value, and the byte at k is the first that cannot go on, or k is their number:
-- the spelling of some value begins with the first k bytes, and that of none with one byte more
pub record BreaksAt {V : Type 0} (Is : V → Type 0) (spell : V → List ℕ) (bytes : List ℕ) (k : ℕ) : Type 0 where
  pub within : k ≤ length bytes
  pub so_far : (v : V) × Is v × IsPrefixOf (take k bytes) (spell v)
  pub none : (v : V) → Is v → IsPrefixOf (spell v) bytes → ⊥
  pub no_further : k < length bytes → (v : V) → Is v → IsPrefixOf (take (k + 1) bytes) (spell v) → ⊥
