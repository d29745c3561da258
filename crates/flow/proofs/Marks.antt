-- The addresses that are found so far.
use Rattle.std.proofs.Common.{◌≡◌, ℕ, ◌==◌, ◌+◌, ◌<◌, ◌||◌, Bool, List, [], ◌∷◌, length, get_or, take}
use Rattle.std.specs.List.{list_any}
use Rattle.std.proofs.Math.Bool.{or_assoc}
use Rattle.std.proofs.lemmas.List.{take_more}
use Rattle.std.proofs.lemmas.List.Folds.{list_any-append}

pub found_address :
    (xs : List ℕ) (i d a : ℕ) (initial old new : Bool) → i < length xs
    → new ≡ (old || list_any (λ b. b == a) (get_or xs i d ∷ []))
    → old ≡ (initial || list_any (λ b. b == a) (take i xs))
    → new ≡ (initial || list_any (λ b. b == a) (take (i + 1) xs))
found_address xs i d a initial old new lt step before =
    rw (take_more xs i d lt, list_any-append (λ b. b == a), ← or_assoc initial, ← before) step
