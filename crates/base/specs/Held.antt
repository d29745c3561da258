-- A line that is held in an array of 256 bytes: one byte more than a line may have, and room for a CR.
use Rattle.std.specs.Prelude.{◌≡◌, ℕ, ◌<◌, List, [], ◌∷◌, ◌++◌, Option, Some, None, length, nat_lt, if◌then◌else◌}

-- one more byte, where there is room
abbrev pub held_with_byte : Option (List ℕ) → ℕ → Option (List ℕ)
held_with_byte None b = None
held_with_byte (Some bytes) b = if nat_lt (length bytes) 256 then Some (bytes ++ b ∷ []) else None

-- the bytes of a line are held, or it has more than 256
abbrev pub HoldsLine : Option (List ℕ) → List ℕ → Type 0
HoldsLine None line = 256 < length line
HoldsLine (Some bytes) line = bytes ≡ line
