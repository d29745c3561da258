-- What each element of a list gives.
use Rattle.std.proofs.Common.{◌≡◌, ℕ, zero, suc, ◌+◌, ◌<◌, List, [], ◌∷◌, ◌++◌, map, take, get_or, length, Option, Some, None, option_map, option_and_then, refl, arith}
use Rattle.std.proofs.lemmas.List.{take_more}
use Rattle.asm86_line_reader.specs.Operands.{each}

abbrev pub both : {Y : Type 0} → Option Y → Option (List Y) → Option (List Y)
both {Y} a b = option_and_then (λ (y : Y). option_map (λ ys. y ∷ ys) b) a

pub each_none : {X Y : Type 0} (f : X → Option Y) → each f [] ≡ Some []
unfolding each
each_none f = refl

pub both_no : {Y : Type 0} (a : Option Y) → both a None ≡ None
both_no None = refl
both_no (Some y) = refl

both_more : {Y : Type 0} (a : Option Y) (b : Option (List Y)) (ys : List Y) (z : Y) → both a b ≡ Some ys → both a (option_map (λ zs. zs ++ z ∷ []) b) ≡ Some (ys ++ z ∷ [])
both_more None b ys z e = absurd cc
both_more (Some y) None ys z e = absurd cc
both_more (Some y) (Some zs) ys z e = let same : y ∷ zs ≡ ys = cc in rw (← same) refl

mapped : {Y : Type 0} (b c : Option (List Y)) (z : Y) → ((ys : List Y) → b ≡ Some ys → c ≡ Some (ys ++ z ∷ [])) → (b ≡ None → ⊥) → c ≡ option_map (λ zs. zs ++ z ∷ []) b
mapped None c z h ne = absurd (ne refl)
mapped (Some ys) c z h ne = h ys refl

some_of : {Y : Type 0} (a : Option Y) (b : Option (List Y)) (ys : List Y) → both a b ≡ Some ys → b ≡ None → ⊥
some_of a b ys e n = absurd (let h = rw (n, both_no a) at e in cc)

-- one more element
pub each_more : {X Y : Type 0} (f : X → Option Y) (xs : List X) (x : X) (ys : List Y) (y : Y) → each f xs ≡ Some ys → f x ≡ Some y → each f (xs ++ x ∷ []) ≡ Some (ys ++ y ∷ [])
unfolding each
each_more f [] x ys y e h = let none : [] ≡ ys = cc in rw (h, ← none) refl
each_more f (a ∷ xs) x ys y e h = rw (mapped (each f xs) (each f (xs ++ x ∷ [])) y (λ zs p. each_more f xs x zs y p h) (some_of (f a) (each f xs) ys e)) (both_more (f a) (each f xs) ys y e)

-- an element that gives nothing
pub each_fails : {X Y : Type 0} (f : X → Option Y) (xs : List X) (i : ℕ) (d : X) → i < length xs → f (get_or xs i d) ≡ None → each f xs ≡ None
unfolding each
each_fails f [] i d lt e = absurd (omega arith)
each_fails f (x ∷ xs) zero d lt e = rw e refl
each_fails f (x ∷ xs) (suc i) d lt e = rw (each_fails f xs i d (omega arith) e) (both_no (f x))

-- a loop's step
pub each_step : {X Y : Type 0} (f : X → Option Y) (xs : List X) (i : ℕ) (d : X) (ys : List Y) (y : Y) → i < length xs → each f (take i xs) ≡ Some ys → f (get_or xs i d) ≡ Some y → each f (take (i + 1) xs) ≡ Some (ys ++ y ∷ [])
each_step f xs i d ys y lt e h = rw (take_more xs i d lt) (each_more f (take i xs) (get_or xs i d) ys y e h)

-- the same of what a function makes of the elements
pub each_map : {X Y Z : Type 0} (f : X → Option Y) (g : Z → X) (zs : List Z) → each (λ z. f (g z)) zs ≡ each f (map g zs)
unfolding each
each_map f g [] = refl
each_map f g (z ∷ zs) = rw (each_map f g zs) refl
