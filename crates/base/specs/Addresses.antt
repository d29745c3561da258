-- Sets of addresses, as a flag for each.
use Rattle.std.specs.Prelude.{◌≡◌, ◌==◌, ℕ, Bool, false, List, get_or}
use Rattle.std.specs.List.{list_any}

-- the address is among them
abbrev pub has_address : List Bool → ℕ → Bool
has_address flags a = get_or flags a false

abbrev pub is_among : List ℕ → ℕ → Bool
is_among addresses a = list_any (λ b. b == a) addresses

-- the flags are those of these addresses
abbrev pub IsSetOf : List Bool → List ℕ → Type 0
IsSetOf flags addresses = (a : ℕ) → has_address flags a ≡ is_among addresses a
