-- The table of operations as it lies in the code.
use Rattle.std.specs.Prelude.{ℕ, zero, suc, List, [], ◌∷◌, Bool, ◌==◌, ◌&&◌, nat_le, map, slice_index}
use Rattle.std.specs.Borrow.{Bor}
use Rattle.std.specs.List.{filter}
use Rattle.asm80_source_def.specs.declared.operation.Operation.{Operation}

-- names with what they are
abbrev pub entries_of : List (Bor (List ℕ) × Operation) → List (List ℕ × Operation)
entries_of table = map (λ (x : Bor (List ℕ) × Operation). (x.0.now, x.1)) table

-- those whose names begin with a letter
abbrev pub of_letter : ℕ → List (List ℕ × Operation) → List (List ℕ × Operation)
of_letter letter entries = filter (λ (x : List ℕ × Operation). slice_index x.0 0 == letter) entries

-- those of so many letters, from one on
unfoldable pub by_letter : ℕ → ℕ → List (List ℕ × Operation) → List (List (List ℕ × Operation))
by_letter zero letter entries = []
by_letter (suc n) letter entries = of_letter letter entries ∷ by_letter n (suc letter) entries

-- from A to Z
abbrev pub is_letter : ℕ → Bool
is_letter b = nat_le 65 b && nat_le b 90

abbrev pub begins_with_letter : List ℕ × Operation → Bool
begins_with_letter x = is_letter (slice_index x.0 0)
