-- The cells of an item, counted from its address.
use Rattle.std.proofs.Common.{◌≡◌, ℕ, zero, suc, ◌+◌, ◌-◌, ◌%◌, ◌==◌, ◌<◌, ◌≤◌, nat_lt, ◌||◌, Bool, true, false, [], ◌∷◌, ◌++◌, length, get_or, refl, sym, ap, ◌∙◌, arith, add-zero, add-one}
use Rattle.std.specs.List.{list_any}
use Rattle.std.proofs.lemmas.Bool.Decides.{nat_tests}
use Rattle.std.proofs.lemmas.List.Folds.{list_any-append, list_any_at}
use mathlib.Core.Bool.{or-true}
use Rattle.asm80_source_def.specs.Layout.{counted_from, is_outside}

pub counted_more : (at k : ℕ) → counted_from at (suc k) ≡ counted_from at k ++ ((at + k) % 0x10000) ∷ []
counted_more at zero = ap (λ n. (n % 0x10000) ∷ []) (sym (add-zero at))
counted_more at (suc k) =
    let e : at + 1 + k ≡ at + suc k = omega arith in
    ap (λ xs. (at % 0x10000) ∷ xs) (counted_more (at + 1) k ∙ ap (λ n. counted_from (at + 1) k ++ (n % 0x10000) ∷ []) e)

pub length-counted : (at n : ℕ) → length (counted_from at n) ≡ n
length-counted at zero = refl
length-counted at (suc n) = ap suc (length-counted (at + 1) n)

pub get_or-counted : (at n k d : ℕ) → k < n → get_or (counted_from at n) k d ≡ (at + k) % 0x10000
get_or-counted at zero k d lt = absurd (omega arith)
get_or-counted at (suc n) zero d lt = ap (λ n. n % 0x10000) (sym (add-zero at))
get_or-counted at (suc n) (suc k) d lt =
    let e : at + 1 + k ≡ at + suc k = omega arith in
    get_or-counted (at + 1) n k d (omega arith) ∙ ap (λ n. n % 0x10000) e

-- one of the cells passes a test
pub cell_passes : (p : ℕ → Bool) (at n k : ℕ) → k < n → p ((at + k) % 0x10000) ≡ true → list_any p (counted_from at n) ≡ true
cell_passes p at n k lt h =
    list_any_at p (counted_from at n) k 0 (omega (arith, length-counted at n)) (ap p (get_or-counted at n k 0 lt) ∙ h)

or-false : (x y : Bool) → (x || (y || false)) ≡ (x || y)
or-false true y = refl
or-false false true = refl
or-false false false = refl

-- a test of one cell more
pub any_more : (p : ℕ → Bool) (at k : ℕ) → list_any p (counted_from at (k + 1)) ≡ (list_any p (counted_from at k) || p ((at + k) % 0x10000))
any_more p at k =
    ap (λ n. list_any p (counted_from at n)) (add-one k) ∙ ap (list_any p) (counted_more at k)
    ∙ list_any-append p (counted_from at k) (((at + k) % 0x10000) ∷ []) ∙ or-false (list_any p (counted_from at k)) (p ((at + k) % 0x10000))

-- no cell so far, and not the next
pub cells_fail : (p : ℕ → Bool) (at k : ℕ) → list_any p (counted_from at k) ≡ false → p ((at + k) % 0x10000) ≡ false → list_any p (counted_from at (k + 1)) ≡ false
cells_fail p at k before h = any_more p at k ∙ ap (λ b. b || p ((at + k) % 0x10000)) before ∙ h

turn : (x y z : Bool) → (x || (y || z)) ≡ ((y || x) || z)
turn true true z = refl
turn true false z = refl
turn false true z = refl
turn false false z = refl

-- a set with one cell more
pub cell_added :
    (at k a : ℕ) (initial old new : Bool) → new ≡ ((((at + k) % 0x10000) == a) || old)
    → old ≡ (list_any (λ b. b == a) (counted_from at k) || initial) → new ≡ (list_any (λ b. b == a) (counted_from at (k + 1)) || initial)
cell_added at k a initial old new added before =
    added ∙ ap (λ o. (((at + k) % 0x10000) == a) || o) before
    ∙ turn (((at + k) % 0x10000) == a) (list_any (λ b. b == a) (counted_from at k)) initial ∙ ap (λ b. b || initial) (sym (any_more (λ b. b == a) at k))

-- ---- the program area

-- all of them are within it
pub inside : (top at n : ℕ) → 0x100 ≤ at → n ≤ (top - 2) - at → top < 0x10000 → list_any (is_outside top) (counted_from at n) ≡ false
inside top at zero low fits small = refl
inside top at (suc n) low fits small =
    let here : at % 0x10000 ≡ at = omega arith in
    let good : is_outside top at ≡ false = grind (arith, nat_tests) in
    rw (here, good) (inside top (at + 1) n (omega arith) (omega arith) small)

-- one of them is not, if not the first then another
or_later :
    (top at n : ℕ) → (at < top - 2 → list_any (is_outside top) (counted_from (at + 1) n) ≡ true) → at < 0x10000
    → (b : Bool) → nat_lt at (top - 2) ≡ b → list_any (is_outside top) (counted_from at (suc n)) ≡ true
or_later top at n later fits true below =
    let under : at < top - 2 = grind (arith, nat_tests) in
    rw (later under) (or-true (is_outside top (at % 0x10000)))
or_later top at n later fits false above =
    let here : at % 0x10000 ≡ at = omega arith in
    let bad : is_outside top at ≡ true = grind (arith, nat_tests) in
    rw (here, bad) refl

pub outside : (top at n : ℕ) → 0 < n → (top - 2) - at < n → at < 0x10000 → top < 0x10000 → list_any (is_outside top) (counted_from at n) ≡ true
outside top at zero some past fits small = absurd (omega arith)
outside top at (suc n) some past fits small =
    or_later top at n (λ under. outside top (at + 1) n (omega arith) (omega arith) (omega arith) small) fits (nat_lt at (top - 2)) refl

pub below_area : (top at n : ℕ) → 0 < n → at < 0x100 → list_any (is_outside top) (counted_from at n) ≡ true
below_area top at zero some low = absurd (omega arith)
below_area top at (suc n) some low =
    let here : at % 0x10000 ≡ at = omega arith in
    let bad : is_outside top at ≡ true = grind (arith, nat_tests) in
    rw (here, bad) refl
