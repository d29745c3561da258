-- The pieces of a list, put one behind another.
use Rattle.std.proofs.Common.{◌≡◌, ◌∙◌, ℕ, ◌+◌, ◌<◌, ◌≤◌, List, [], ◌∷◌, ◌++◌, length, take, get_or, flat_map, sym, ap}
use Rattle.std.proofs.lemmas.List.{flat_map_more, take_more, take_all}

-- one piece more
pub one_more : {X : Type 0} (f : X → List ℕ) (start old new : List ℕ) (xs : List X) (i : ℕ) (x : X) → i < length xs → x ≡ get_or xs i x → old ≡ start ++ flat_map f (take i xs) → new ≡ old ++ f x → new ≡ start ++ flat_map f (take (i + 1) xs)
one_more f start old new xs i x lt is h e =
    e
    ∙ (ap (λ ys. ys ++ f x) h
    ∙ (flat_map_more f start (take i xs) x
    ∙ ap (λ ys. start ++ flat_map f ys) (ap (λ y. take i xs ++ y ∷ []) is ∙ sym (take_more xs i x lt))))

pub all_of : {X : Type 0} (f : X → List ℕ) (start now : List ℕ) (xs : List X) (i : ℕ) → length xs ≤ i → now ≡ start ++ flat_map f (take i xs) → now ≡ start ++ flat_map f xs
all_of f start now xs i over h = h ∙ ap (λ ys. start ++ flat_map f ys) (take_all i xs over)
