-- What holds of each element of a list.
use Rattle.std.proofs.Common.{ℕ, ◌-◌, ◌<◌, List, [], ◌∷◌, ◌++◌, length, map, get_or, arith}
use Rattle.std.proofs.lemmas.List.Elements.{All-from_recursion}
use Rattle.std.specs.List.{flat_map, AllByRecursion}

pub each_append : {A : Type 0} (P : A → Type 0) (xs ys : List A) → AllByRecursion P xs → AllByRecursion P ys → AllByRecursion P (xs ++ ys)
each_append P [] ys h g = g
each_append P (x ∷ xs) ys h g = (h.0, each_append P xs ys h.1 g)

-- one fact follows from another
pub each_by : {A : Type 0} (P Q : A → Type 0) → ((x : A) → P x → Q x) → (xs : List A) → AllByRecursion P xs → AllByRecursion Q xs
each_by P Q f [] h = tt
each_by P Q f (x ∷ xs) h = (f x h.0, each_by P Q f xs h.1)

pub each_map : {A B : Type 0} (P : A → Type 0) (Q : B → Type 0) (g : A → B) → ((x : A) → P x → Q (g x)) → (xs : List A) → AllByRecursion P xs → AllByRecursion Q (map g xs)
each_map P Q g f [] h = tt
each_map P Q g f (x ∷ xs) h = (f x h.0, each_map P Q g f xs h.1)

pub each_flat_map : {A B : Type 0} (P : A → Type 0) (Q : B → Type 0) (g : A → List B) → ((x : A) → P x → AllByRecursion Q (g x)) → (xs : List A) → AllByRecursion P xs → AllByRecursion Q (flat_map g xs)
each_flat_map P Q g f [] h = tt
each_flat_map P Q g f (x ∷ xs) h = each_append Q (g x) (flat_map g xs) (f x h.0) (each_flat_map P Q g f xs h.1)

-- it holds of the last one
pub each_last : (P : ℕ → Type 0) (xs : List ℕ) → 0 < length xs → AllByRecursion P xs → P (get_or xs (length xs - 1) 0)
each_last P xs lt h = All-from_recursion P xs h (length xs - 1) 0 (omega arith)
