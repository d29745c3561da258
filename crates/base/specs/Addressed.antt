-- Bytes by their addresses.
use Rattle.std.specs.Prelude.{ℕ, ◌+◌, List, [], ◌∷◌, Option, None, Some}

-- of what stands at each address from one up, the cells: address and byte
abbrev pub byte_cells_from : ℕ → List (Option ℕ) → List (ℕ × ℕ)
byte_cells_from at [] = []
byte_cells_from at (None ∷ bytes) = byte_cells_from (at + 1) bytes
byte_cells_from at (Some byte ∷ bytes) = (at, byte) ∷ byte_cells_from (at + 1) bytes
