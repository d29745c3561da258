-- Sets of lists of bytes, such as the files of a format, read from the front: where bytes can go on to be a member, and where not.
use Rattle.std.specs.Prelude.{◌≡◌, ℕ, ◌+◌, ◌<◌, ◌≤◌, List, ◌++◌, length, take}

-- a list begins with another
abbrev pub IsPrefixOf : List ℕ → List ℕ → Type 0
IsPrefixOf front whole = (rest : List ℕ) × (whole ≡ front ++ rest)

-- bytes that are in no such set, and the first byte at which they cannot go on: some member begins with the first k bytes,
-- none with one byte more; or k is their number, and they end early
pub record CannotGoOn (IsIn : List ℕ → Type 0) (bytes : List ℕ) (k : ℕ) : Type 0 where
  pub within : k ≤ length bytes
  pub so_far : (whole : List ℕ) × IsIn whole × IsPrefixOf (take k bytes) whole
  pub no_further : k < length bytes → (whole : List ℕ) → IsIn whole → IsPrefixOf (take (k + 1) bytes) whole → ⊥
  pub early : k ≡ length bytes → IsIn bytes → ⊥
