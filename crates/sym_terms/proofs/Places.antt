-- The elements of a list by place, where it grows at its end or is cut.
use Rattle.std.proofs.Common.{◌≡◌, ℕ, zero, suc, ◌<◌, ◌≤◌, List, [], ◌∷◌, ◌++◌, length, take, Some, refl, ap, subst, arith}
use Rattle.std.specs.List.{slice_get}

pub get_front : {X : Type 0} (xs ys : List X) (x : X) (k : ℕ) → slice_get xs k ≡ Some x → slice_get (xs ++ ys) k ≡ Some x
get_front [] ys x k h = absurd (cc)
get_front (z ∷ xs) ys x zero h = h
get_front (z ∷ xs) ys x (suc k) h = get_front xs ys x k h

pub get_last : {X : Type 0} (xs ys : List X) (y : X) → slice_get (xs ++ (y ∷ ys)) (length xs) ≡ Some y
get_last [] ys y = refl
get_last (z ∷ xs) ys y = get_last xs ys y

pub get_last_at : {X : Type 0} (xs : List X) (y : X) (k : ℕ) → length xs ≡ k → slice_get (xs ++ y ∷ []) k ≡ Some y
get_last_at xs y k e = subst (λ j. slice_get (xs ++ y ∷ []) j ≡ Some y) e (get_last xs [] y)

pub get_from_cut : {X : Type 0} (xs : List X) (x : X) (n k : ℕ) → slice_get (take n xs) k ≡ Some x → slice_get xs k ≡ Some x
get_from_cut [] x zero k h = absurd (cc)
get_from_cut [] x (suc n) k h = absurd (cc)
get_from_cut (z ∷ xs) x zero k h = absurd (cc)
get_from_cut (z ∷ xs) x (suc n) zero h = h
get_from_cut (z ∷ xs) x (suc n) (suc k) h = get_from_cut xs x n k h

pub get_in_cut : {X : Type 0} (xs : List X) (x : X) (n k : ℕ) → k < n → slice_get xs k ≡ Some x → slice_get (take n xs) k ≡ Some x
get_in_cut [] x n k below h = absurd (cc)
get_in_cut (z ∷ xs) x zero k below h = absurd (omega arith)
get_in_cut (z ∷ xs) x (suc n) zero below h = h
get_in_cut (z ∷ xs) x (suc n) (suc k) below h = get_in_cut xs x n k (omega arith) h

pub below_cut : {X : Type 0} (xs : List X) (x : X) (n k : ℕ) → slice_get (take n xs) k ≡ Some x → k < n
below_cut [] x zero k h = absurd (cc)
below_cut [] x (suc n) k h = absurd (cc)
below_cut (z ∷ xs) x zero k h = absurd (cc)
below_cut (z ∷ xs) x (suc n) zero h = omega arith
below_cut (z ∷ xs) x (suc n) (suc k) h = let below : k < n = below_cut xs x n k h in omega arith

pub cut_whole : {X : Type 0} (xs : List X) (n : ℕ) → length xs ≤ n → take n xs ≡ xs
cut_whole [] zero h = refl
cut_whole [] (suc n) h = refl
cut_whole (z ∷ xs) zero h = absurd (omega arith)
cut_whole (z ∷ xs) (suc n) h = ap (λ l. z ∷ l) (cut_whole xs n (omega arith))

pub cut_of_cut : {X : Type 0} (xs : List X) (n k : ℕ) → k ≤ n → take k (take n xs) ≡ take k xs
cut_of_cut [] zero zero h = refl
cut_of_cut [] zero (suc k) h = refl
cut_of_cut [] (suc n) zero h = refl
cut_of_cut [] (suc n) (suc k) h = refl
cut_of_cut (z ∷ xs) zero zero h = refl
cut_of_cut (z ∷ xs) zero (suc k) h = absurd (omega arith)
cut_of_cut (z ∷ xs) (suc n) zero h = refl
cut_of_cut (z ∷ xs) (suc n) (suc k) h = ap (λ l. z ∷ l) (cut_of_cut xs n k (omega arith))
