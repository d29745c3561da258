-- What stands in a list: found by a test, and told apart from all else there.
use Rattle.std.proofs.Common.{◌≡◌, ℕ, zero, suc, ◌+◌, ◌<◌, ◌≤◌, List, [], ◌∷◌, length, get_or, drop, map, Bool, true, false, ◌&&◌, ◌||◌, Option, Some, None, refl, sym, ap, ◌∙◌, subst, arith, inl, inr, ◌⊎◌, cond}
use Rattle.std.specs.Prelude.{Contains, find, option_map}
use Rattle.std.specs.List.{list_any, list_all}
use Rattle.std.specs.Str.{bytes_eq}
use Rattle.std.proofs.lemmas.Slice.Eq.{bytes_eq-Decides}
use Rattle.std.proofs.lemmas.List.{at_drop_more, at_drop_all}

abbrev pub Among : {X : Type 0} → List X → X → Type 0
Among [] x = ⊥
Among (y ∷ ys) x = (y ≡ x) ⊎ Among ys x

among_at : {X : Type 0} (xs : List X) (x : X) (k : ℕ) → k < length xs → get_or xs k x ≡ x → Among xs x
among_at [] x k lt e = absurd (omega arith)
among_at (y ∷ ys) x zero lt e = inl e
among_at (y ∷ ys) x (suc k) lt e = inr (among_at ys x k (omega arith) e)

pub among : {X : Type 0} (xs : List X) (x : X) → Contains xs x → Among xs x
among xs x h = among_at xs x h.0 h.1 h.2

pub contained : {X : Type 0} (xs : List X) (x : X) → Among xs x → Contains xs x
contained [] x h = absurd h
contained (y ∷ ys) x (inl e) = (zero, omega arith, e)
contained (y ∷ ys) x (inr h) = let c = contained ys x h in (suc c.0, omega (arith, c.1), c.2)

-- ---- tests

pub two_cases : (b : Bool) → (b ≡ true) ⊎ (b ≡ false)
two_cases true = inl refl
two_cases false = inr refl

pub both : (a b : Bool) → (a && b) ≡ true → (a ≡ true) × (b ≡ true)
both true true e = (refl, refl)
both true false e = absurd cc
both false b e = absurd cc

pub every : (a b : Bool) → a ≡ true → b ≡ true → (a && b) ≡ true
every true b e f = f
every false b e f = absurd cc

pub fails_left : (a b : Bool) → a ≡ false → (a && b) ≡ false
fails_left false b e = refl
fails_left true b e = absurd cc

pub fails_right : (a b : Bool) → b ≡ false → (a && b) ≡ false
fails_right true b e = e
fails_right false b e = refl

pub either : (a b : Bool) → (a || b) ≡ true → (a ≡ true) ⊎ (b ≡ true)
either true b e = inl refl
either false b e = inr e

-- what passes a test of all
pub passes : {X : Type 0} (test : X → Bool) (xs : List X) (x : X) → list_all test xs ≡ true → Among xs x → test x ≡ true
passes test [] x e h = absurd h
passes test (y ∷ ys) x e (inl is) = ap test (sym is) ∙ (both (test y) (list_all test ys) e).0
passes test (y ∷ ys) x e (inr h) = passes test ys x (both (test y) (list_all test ys) e).1 h

-- a test that some name is this one
pub same_name : (a b : List ℕ) → bytes_eq a b ≡ true → a ≡ b
same_name a b e = (bytes_eq-Decides a b).0 e

pub itself : (a : List ℕ) → bytes_eq a a ≡ true
itself a = (bytes_eq-Decides a a).1 refl

pub named : (names : List (List ℕ)) (n : List ℕ) → list_any (λ v. bytes_eq v n) names ≡ true → Among names n
named [] n e = absurd cc
named (v ∷ names) n e = elim (either (bytes_eq v n) (list_any (λ w. bytes_eq w n) names) e) [
  | inl here ↦ inl (same_name v n here)
  | inr later ↦ inr (named names n later)
]

pub is_named : (names : List (List ℕ)) (n : List ℕ) → Among names n → list_any (λ v. bytes_eq v n) names ≡ true
is_named [] n h = absurd h
is_named (v ∷ names) n (inl e) = ap (λ (b : Bool). b || list_any (λ w. bytes_eq w n) names) (ap (λ (w : List ℕ). bytes_eq w n) e ∙ itself n)
is_named (v ∷ names) n (inr h) = elim (two_cases (bytes_eq v n)) [
  | inl e ↦ rw e refl
  | inr e ↦ rw e (is_named names n h)
]

-- ---- finding

pub find_map : {X Y : Type 0} (f : X → Y) (test : Y → Bool) (xs : List X) → find test (map f xs) ≡ option_map f (find (λ (x : X). test (f x)) xs)
find_map f test [] = refl
find_map {X} {Y} f test (x ∷ xs) = elim (test (f x)) as (λ b. cond b (Some (f x)) (find test (map f xs)) ≡ option_map f (cond b (Some x) (find (λ (y : X). test (f y)) xs))) [
  | true ↦ refl
  | false ↦ find_map f test xs
]

some_is : {X : Type 0} (x y : X) → ◌≡◌ {A = Option X} (Some x) (Some y) → x ≡ y
some_is x y e = cc

pub found : {X : Type 0} (test : X → Bool) (xs : List X) (x : X) → find test xs ≡ Some x → Among xs x × (test x ≡ true)
found test [] x e = absurd cc
found {X} test (y ∷ ys) x e = go (test y) refl e (λ k. found test ys x k)
  where
    go : (b : Bool) → test y ≡ b → cond b (Some y) (find test ys) ≡ Some x → (find test ys ≡ Some x → Among ys x × (test x ≡ true)) → Among (y ∷ ys) x × (test x ≡ true)
    go true t e later = let is = some_is y x e in (inl is, ap test (sym is) ∙ t)
    go false t e later = let h = later e in (inr h.0, h.1)

pub not_found : {X : Type 0} (test : X → Bool) (xs : List X) (x : X) → find test xs ≡ None → Among xs x → test x ≡ false
not_found test [] x e h = absurd h
not_found {X} test (y ∷ ys) x e h = go (test y) refl e h (λ k l. not_found test ys x k l)
  where
    go : (b : Bool) → test y ≡ b → ◌≡◌ {A = Option X} (cond b (Some y) (find test ys)) None → (y ≡ x) ⊎ Among ys x → (find test ys ≡ None → Among ys x → test x ≡ false) → test x ≡ false
    go true t e h later = absurd cc
    go false t e (inl is) later = ap test (sym is) ∙ t
    go false t e (inr h) later = later e h

-- in a loop that has found none so far
pub found_here : {X : Type 0} (test : X → Bool) (xs : List X) (i : ℕ) (d : X) → i < length xs → find test (drop i xs) ≡ find test xs → test (get_or xs i d) ≡ true → find test xs ≡ Some (get_or xs i d)
found_here test xs i d lt same e = sym same ∙ at_drop_more (find test) xs i d lt ∙ ap (λ b. cond b (Some (get_or xs i d)) (find test (drop (i + 1) xs))) e

pub found_later : {X : Type 0} (test : X → Bool) (xs : List X) (i : ℕ) (d : X) → i < length xs → find test (drop i xs) ≡ find test xs → test (get_or xs i d) ≡ false → find test (drop (i + 1) xs) ≡ find test xs
found_later test xs i d lt same e = sym (at_drop_more (find test) xs i d lt ∙ ap (λ b. cond b (Some (get_or xs i d)) (find test (drop (i + 1) xs))) e) ∙ same

pub found_nowhere : {X : Type 0} (test : X → Bool) (xs : List X) (i : ℕ) → length xs ≤ i → find test (drop i xs) ≡ find test xs → find test xs ≡ None
found_nowhere test xs i le same = sym same ∙ at_drop_all (find test) xs i le

-- ---- telling apart

-- each two of the elements exclude one another
abbrev pub apart : {X : Type 0} → (X → X → Bool) → List X → Bool
apart excludes [] = true
apart excludes (x ∷ xs) = list_all (excludes x) xs && apart excludes xs

module _ {X : Type 0} (excludes : X → X → Bool) (Fits : X → Type 0) (conflict : (x y : X) → excludes x y ≡ true → Fits x → Fits y → ⊥) where
  -- so at most one of them fits
  pub only_one : (xs : List X) → apart excludes xs ≡ true → (r s : X) → Among xs r → Among xs s → Fits r → Fits s → r ≡ s
  only_one [] e r s h k f g = absurd h
  only_one (x ∷ xs) e r s (inl p) (inl q) f g = sym p ∙ q
  only_one (x ∷ xs) e r s (inl p) (inr k) f g = absurd (conflict x s (passes (excludes x) xs s (both (list_all (excludes x) xs) (apart excludes xs) e).0 k) (subst Fits (sym p) f) g)
  only_one (x ∷ xs) e r s (inr h) (inl q) f g = absurd (conflict x r (passes (excludes x) xs r (both (list_all (excludes x) xs) (apart excludes xs) e).0 h) (subst Fits (sym q) g) f)
  only_one (x ∷ xs) e r s (inr h) (inr k) f g = only_one xs (both (list_all (excludes x) xs) (apart excludes xs) e).1 r s h k f g
