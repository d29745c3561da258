-- The elements of a list by place, where it grows at its end.
use Rattle.std.proofs.Common.{◌≡◌, ℕ, zero, suc, List, [], ◌∷◌, ◌++◌, length, Some, refl, ap, ◌⊎◌, inl, inr, ⊎_elim}
use Rattle.std.specs.List.{slice_get}

pub get_front : {X : Type 0} (xs : List X) (x y : X) (k : ℕ) → slice_get xs k ≡ Some x → slice_get (xs ++ y ∷ []) k ≡ Some x
get_front [] x y k h = absurd (cc)
get_front (z ∷ xs) x y zero h = h
get_front (z ∷ xs) x y (suc k) h = get_front xs x y k h

pub get_push : {X : Type 0} (xs : List X) (x y : X) (k : ℕ) → slice_get (xs ++ y ∷ []) k ≡ Some x → (slice_get xs k ≡ Some x) ⊎ ((k ≡ length xs) × (y ≡ x))
get_push [] x y zero h = inr (refl, cc)
get_push [] x y (suc k) h = absurd (cc)
get_push (z ∷ xs) x y zero h = inl h
get_push (z ∷ xs) x y (suc k) h = ⊎_elim (λ p. inl p) (λ q. inr (ap suc q.0, q.1)) (get_push xs x y k h)
