-- Each list has an order in which a key rises.
use Rattle.std.proofs.Common.{ℕ, zero, suc, ◌+◌, ◌<◌, ◌≤◌, ◌⊎◌, inl, inr, List, [], ◌∷◌, length, get_or, sym, subst, add-one, arith}
use Rattle.std.specs.List.Sorted.{IsPermutation, IsNonDecreasingBy}
use Rattle.std.proofs.lemmas.Bool.{cases_lt}
use Rattle.std.proofs.lemmas.List.Sorted.{IsPermutation-refl, IsPermutation-cons, IsPermutation-trans, IsPermutation-append_comm, IsPermutation-append_left, IsNonDecreasingBy-from_all_adjacent}

module _ {X : Type 0} (key : X → ℕ) where
  -- each is at or above the one before it
  abbrev pub Rises : ℕ → List X → Type 0
  Rises from [] = Unit {0}
  Rises from (x ∷ xs) = (from ≤ key x) × Rises (key x) xs

  -- the same elements, in order
  abbrev Ordered : ℕ → List X → Type 0
  Ordered from xs = (ys : List X) × IsPermutation xs ys × Rises from ys

  swapped : (x y : X) (xs : List X) → IsPermutation (x ∷ (y ∷ xs)) (y ∷ (x ∷ xs))
  swapped x y xs = IsPermutation-append_left xs (x ∷ (y ∷ [])) (y ∷ (x ∷ [])) (IsPermutation-append_comm (x ∷ []) (y ∷ []))

  put : (from : ℕ) (x : X) (xs : List X) → from ≤ key x → Rises from xs → Ordered from (x ∷ xs)
  put from x [] le rising = (x ∷ [], IsPermutation-refl (x ∷ []), (le, tt))
  put from x (y ∷ ys) le rising = by (cases_lt (key y) (key x)) (λ less. put (key y) x ys (omega arith) rising.1)
    where
      by : ((key y < key x) ⊎ (key x ≤ key y)) → (key y < key x → Ordered (key y) (x ∷ ys)) → Ordered from (x ∷ (y ∷ ys))
      by (inl less) rest =
          let later = rest less in
          (y ∷ later.0, IsPermutation-trans (x ∷ (y ∷ ys)) (y ∷ (x ∷ ys)) (y ∷ later.0) (swapped x y ys) (IsPermutation-cons y (x ∷ ys) later.0 later.1), (rising.0, later.2))
      by (inr first) rest = (x ∷ (y ∷ ys), IsPermutation-refl (x ∷ (y ∷ ys)), (le, (first, rising.1)))

  ordered : (xs : List X) → Ordered 0 xs
  ordered [] = ([], IsPermutation-refl [], tt)
  ordered (x ∷ xs) =
      let rest = ordered xs in
      let all = put 0 x rest.0 (omega arith) rest.2 in
      (all.0, IsPermutation-trans (x ∷ xs) (x ∷ rest.0) all.0 (IsPermutation-cons x xs rest.0 rest.1) all.1, all.2)

  next_above : (from : ℕ) (xs : List X) (k : ℕ) (d : X) → Rises from xs → suc k < length xs → key (get_or xs k d) ≤ key (get_or xs (suc k) d)
  next_above from [] k d h less = absurd (omega arith)
  next_above from (x ∷ []) k d h less = absurd (omega arith)
  next_above from (x ∷ (y ∷ ys)) zero d h less = h.1.0
  next_above from (x ∷ (y ∷ ys)) (suc k) d h less = next_above (key x) (y ∷ ys) k d h.1 (omega arith)

  -- what rises is in order
  pub in_order : (from : ℕ) (xs : List X) → Rises from xs → IsNonDecreasingBy key xs
  in_order from xs rising =
      let next : (k : ℕ) (d : X) → k + 1 < length xs → key (get_or xs k d) ≤ key (get_or xs (k + 1) d) =
      λ k d less. subst (λ m. key (get_or xs k d) ≤ key (get_or xs m d)) (sym (add-one k)) (next_above from xs k d rising (omega arith)) in
      IsNonDecreasingBy-from_all_adjacent key xs next

  pub has_order : (xs : List X) → (ys : List X) × IsPermutation xs ys × IsNonDecreasingBy key ys
  has_order xs = let all = ordered xs in (all.0, all.1, in_order 0 all.0 all.2)
