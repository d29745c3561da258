-- What is made of each element of a list, where the elements stand in another order.
use Rattle.std.proofs.Common.{◌≡◌, ℕ, zero, suc, ◌<◌, List, [], ◌∷◌, ◌++◌, length, get_or, set, swap, Option, Some, None, refl, sym, ap, subst, arith, append_assoc}
use Rattle.std.specs.List.{filter_map, flat_map, cons_option}
use Rattle.std.specs.List.Sorted.{IsPermutation}
use Rattle.std.specs.Option.{option_to_list}
use Rattle.std.proofs.lemmas.List.Edits.{swap_is}
use Rattle.std.proofs.lemmas.List.Sorted.{IsPermutation-refl, IsPermutation-trans, IsPermutation-keeps, IsPermutation-append_comm, IsPermutation-append_left, IsPermutation-append_right}

-- two lists in front of a third, the other way round
exchanged : {Y : Type 0} (xs ys zs : List Y) → IsPermutation (xs ++ (ys ++ zs)) (ys ++ (xs ++ zs))
exchanged xs ys zs =
    subst (λ l. IsPermutation l (ys ++ (xs ++ zs))) (append_assoc xs ys zs)
    (subst (λ l. IsPermutation ((xs ++ ys) ++ zs) l) (append_assoc ys xs zs)
    (IsPermutation-append_left zs (xs ++ ys) (ys ++ xs) (IsPermutation-append_comm xs ys)))

module _ {X Y : Type 0} (f : X → List Y) where
  -- the first exchanged with one behind it
  front : (x : X) (xs : List X) (k : ℕ) (d : X) → k < length xs → IsPermutation (f x ++ flat_map f xs) (f (get_or xs k d) ++ flat_map f (set xs k x))
  front x [] k d lt = absurd (omega arith)
  front x (z ∷ zs) zero d lt = exchanged (f x) (f z) (flat_map f zs)
  front x (z ∷ zs) (suc k) d lt =
      let y = get_or zs k d in
      let rest = flat_map f (set zs k x) in
      IsPermutation-trans _ _ _ (exchanged (f x) (f z) (flat_map f zs))
      (IsPermutation-trans _ _ _ (IsPermutation-append_right (f z) (f x ++ flat_map f zs) (f y ++ rest) (front x zs k d (omega arith))) (exchanged (f z) (f y) rest))

  -- two exchanged
  two : (xs : List X) (i j : ℕ) (d : X) → i < length xs → j < length xs → IsPermutation (flat_map f xs) (flat_map f (set (set xs i (get_or xs j d)) j (get_or xs i d)))
  two [] i j d lt_i lt_j = absurd (omega arith)
  two (x ∷ xs) zero zero d lt_i lt_j = IsPermutation-refl (flat_map f (x ∷ xs))
  two (x ∷ xs) zero (suc k) d lt_i lt_j = front x xs k d (omega arith)
  two (x ∷ xs) (suc k) zero d lt_i lt_j = front x xs k d (omega arith)
  two (x ∷ xs) (suc i) (suc j) d lt_i lt_j =
      IsPermutation-append_right (f x) (flat_map f xs) (flat_map f (set (set xs i (get_or xs j d)) j (get_or xs i d))) (two xs i j d (omega arith) (omega arith))

  swapped : (xs : List X) (i j : ℕ) → i < length xs → j < length xs → IsPermutation (flat_map f xs) (flat_map f (swap xs i j))
  swapped [] i j lt_i lt_j = absurd (omega arith)
  swapped (x ∷ xs) i j lt_i lt_j = subst (λ l. IsPermutation (flat_map f (x ∷ xs)) (flat_map f l)) (swap_is (x ∷ xs) i j x lt_i lt_j) (two (x ∷ xs) i j x lt_i lt_j)

  pub flat_moved : (xs ys : List X) → IsPermutation xs ys → IsPermutation (flat_map f xs) (flat_map f ys)
  flat_moved xs ys moved =
      IsPermutation-keeps xs (λ l. IsPermutation (flat_map f xs) (flat_map f l)) (IsPermutation-refl (flat_map f xs))
      (λ l i j p q h. IsPermutation-trans (flat_map f xs) (flat_map f l) _ h (swapped l i j p q)) ys moved

module _ {X Y : Type 0} (f : X → Option Y) where
  as_flat : (xs : List X) → filter_map f xs ≡ flat_map (λ (x : X). option_to_list (f x)) xs
  as_flat [] = refl
  as_flat (x ∷ xs) = by (f x) (as_flat xs)
    where
      by : (o : Option Y) → filter_map f xs ≡ flat_map (λ (y : X). option_to_list (f y)) xs → cons_option o (filter_map f xs) ≡ option_to_list o ++ flat_map (λ (y : X). option_to_list (f y)) xs
      by None rest = rest
      by (Some y) rest = ap (λ ys. y ∷ ys) rest

  pub found_moved : (xs ys : List X) → IsPermutation xs ys → IsPermutation (filter_map f xs) (filter_map f ys)
  found_moved xs ys moved =
      subst (λ l. IsPermutation l (filter_map f ys)) (sym (as_flat xs))
      (subst (λ l. IsPermutation (flat_map (λ (x : X). option_to_list (f x)) xs) l) (sym (as_flat ys)) (flat_moved (λ (x : X). option_to_list (f x)) xs ys moved))
