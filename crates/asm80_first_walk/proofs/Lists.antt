-- Lists.
use Rattle.std.proofs.Common.{◌≡◌, ℕ, ◌+◌, ◌<◌, ◌≤◌, List, [], ◌∷◌, length, get_or, drop, map, Bool, true, false, ◌||◌, refl, sym, ap, ◌∙◌}
use Rattle.std.specs.Prelude.{cond, find, option_map, Some, None}
use Rattle.std.specs.List.{list_any}
use Rattle.std.proofs.lemmas.List.{at_drop_more, at_drop_all}

-- looking up in a table whose keys are read by a function
pub find_mapped : {X Y Z : Type 0} (f : X → Y) (test : Y → Bool) (value : Y → Z) (xs : List X) → option_map (λ (x : X). value (f x)) (find (λ (x : X). test (f x)) xs) ≡ option_map value (find test (map f xs))
find_mapped {X} f test value [] = refl
find_mapped {X} f test value (x ∷ xs) = elim (test (f x)) as (λ b. option_map (λ (y : X). value (f y)) (cond b (Some x) (find (λ (y : X). test (f y)) xs)) ≡ option_map value (cond b (Some (f x)) (find test (map f xs)))) [
  | true ↦ refl
  | false ↦ find_mapped f test value xs
]

-- in a loop that has found none so far
pub found_here : {X : Type 0} (test : X → Bool) (xs : List X) (i : ℕ) (d : X) → i < length xs → find test (drop i xs) ≡ find test xs → test (get_or xs i d) ≡ true → find test xs ≡ Some (get_or xs i d)
found_here test xs i d lt same e = sym same ∙ at_drop_more (find test) xs i d lt ∙ ap (λ b. cond b (Some (get_or xs i d)) (find test (drop (i + 1) xs))) e

pub found_later : {X : Type 0} (test : X → Bool) (xs : List X) (i : ℕ) (d : X) → i < length xs → find test (drop i xs) ≡ find test xs → test (get_or xs i d) ≡ false → find test (drop (i + 1) xs) ≡ find test xs
found_later test xs i d lt same e = sym (at_drop_more (find test) xs i d lt ∙ ap (λ b. cond b (Some (get_or xs i d)) (find test (drop (i + 1) xs))) e) ∙ same

pub found_nowhere : {X : Type 0} (test : X → Bool) (xs : List X) (i : ℕ) → length xs ≤ i → find test (drop i xs) ≡ find test xs → find test xs ≡ None
found_nowhere test xs i le same = sym same ∙ at_drop_all (find test) xs i le

pub any_here : {X : Type 0} (test : X → Bool) (xs : List X) (i : ℕ) (d : X) → i < length xs → list_any test (drop i xs) ≡ list_any test xs → test (get_or xs i d) ≡ true → true ≡ list_any test xs
any_here test xs i d lt same e = sym (at_drop_more (list_any test) xs i d lt ∙ ap (λ b. b || list_any test (drop (i + 1) xs)) e) ∙ same

pub any_later : {X : Type 0} (test : X → Bool) (xs : List X) (i : ℕ) (d : X) → i < length xs → list_any test (drop i xs) ≡ list_any test xs → test (get_or xs i d) ≡ false → list_any test (drop (i + 1) xs) ≡ list_any test xs
any_later test xs i d lt same e = sym (at_drop_more (list_any test) xs i d lt ∙ ap (λ b. b || list_any test (drop (i + 1) xs)) e) ∙ same

pub any_nowhere : {X : Type 0} (test : X → Bool) (xs : List X) (i : ℕ) → length xs ≤ i → list_any test (drop i xs) ≡ list_any test xs → false ≡ list_any test xs
any_nowhere test xs i le same = sym (at_drop_all (list_any test) xs i le) ∙ same
