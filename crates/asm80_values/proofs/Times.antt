-- How often an address is a cell of instructions and of data.
use Rattle.std.proofs.Common.{◌≡◌, ℕ, zero, suc, ◌+◌, ◌%◌, ◌<◌, ◌≤◌, ◌==◌, nat_le, nat_lt, ◌&&◌, ◌||◌, Bool, true, false, List, [], ◌∷◌, ◌++◌, length, get_or, refl, sym, ap, ◌∙◌, arith}
use Rattle.std.specs.List.{sum_by}
use Rattle.std.specs.List.Sorted.{IsPermutation}
use Rattle.std.proofs.lemmas.Bool.Decides.{nat_tests}
use Rattle.std.proofs.lemmas.List.Sums.{sum_by-cons}
use Rattle.std.proofs.lemmas.List.Sorted.{sum_by-IsPermutation}
use Rattle.cells.specs.declared.Cell.{Cell}
use Rattle.asm80_types.specs.declared.program.Placed.{Placed}
use Rattle.asm80_types.specs.Program.{covers, is_covered}
use Rattle.asm80_source_def.specs.Items.{laid_from}
use Rattle.asm80_source_def.specs.Layout.{counted_from, is_filled}

abbrev pub one : Bool → ℕ
one true = 1
one false = 0

abbrev pub covered_times : ℕ → List Placed → ℕ
covered_times a [] = 0
covered_times a (x ∷ xs) = one (covers x a) + covered_times a xs

abbrev pub held_times : ℕ → List (ℕ × Cell) → ℕ
held_times a [] = 0
held_times a (c ∷ cs) = one (c.0 == a) + held_times a cs

-- ---- in another order

covered_sum : (a : ℕ) (xs : List Placed) → covered_times a xs ≡ sum_by (λ (x : Placed). one (covers x a)) xs
covered_sum a [] = refl
covered_sum a (x ∷ xs) = ap (λ n. one (covers x a) + n) (covered_sum a xs) ∙ sym (sum_by-cons (λ (x : Placed). one (covers x a)) x xs)

held_sum : (a : ℕ) (cs : List (ℕ × Cell)) → held_times a cs ≡ sum_by (λ (c : ℕ × Cell). one (c.0 == a)) cs
held_sum a [] = refl
held_sum a (c ∷ cs) = ap (λ n. one (c.0 == a) + n) (held_sum a cs) ∙ sym (sum_by-cons (λ (c : ℕ × Cell). one (c.0 == a)) c cs)

pub covered_moved : (a : ℕ) (xs ys : List Placed) → IsPermutation xs ys → covered_times a ys ≡ covered_times a xs
covered_moved a xs ys h = covered_sum a ys ∙ sum_by-IsPermutation (λ (x : Placed). one (covers x a)) xs ys h ∙ sym (covered_sum a xs)

pub held_moved : (a : ℕ) (xs ys : List (ℕ × Cell)) → IsPermutation xs ys → held_times a ys ≡ held_times a xs
held_moved a xs ys h = held_sum a ys ∙ sum_by-IsPermutation (λ (c : ℕ × Cell). one (c.0 == a)) xs ys h ∙ sym (held_sum a xs)

pub held_append : (a : ℕ) (xs ys : List (ℕ × Cell)) → held_times a (xs ++ ys) ≡ held_times a xs + held_times a ys
held_append a [] ys = omega arith
held_append a (c ∷ cs) ys = omega (arith, held_append a cs ys)

-- ---- one of them

pub covered_least : (a : ℕ) (xs : List Placed) (k : ℕ) (d : Placed) → k < length xs → one (covers (get_or xs k d) a) ≤ covered_times a xs
covered_least a [] k d lt = absurd (omega arith)
covered_least a (x ∷ xs) zero d lt = omega arith
covered_least a (x ∷ xs) (suc k) d lt = omega (arith, covered_least a xs k d (omega arith))

pub held_least : (a : ℕ) (cs : List (ℕ × Cell)) (k : ℕ) (d : ℕ × Cell) → k < length cs → one ((get_or cs k d).0 == a) ≤ held_times a cs
held_least a [] k d lt = absurd (omega arith)
held_least a (c ∷ cs) zero d lt = omega arith
held_least a (c ∷ cs) (suc k) d lt = omega (arith, held_least a cs k d (omega arith))

covered_by : (x : Placed) (xs : List Placed) (a : ℕ) → (covered_times a xs ≡ 0 → is_covered xs a ≡ false) → (b : Bool) → one b + covered_times a xs ≡ 0 → (b || is_covered xs a) ≡ false
covered_by x xs a rest true h = absurd (omega arith)
covered_by x xs a rest false h = rest (omega arith)

pub not_covered : (a : ℕ) (xs : List Placed) → covered_times a xs ≡ 0 → is_covered xs a ≡ false
not_covered a [] h = refl
not_covered a (x ∷ xs) h = covered_by x xs a (not_covered a xs) (covers x a) h

-- ---- cells one after the other

abbrev pub between : ℕ → ℕ → ℕ → Bool
between at n a = nat_le at a && nat_lt a (at + n)

pub filled_counted : (at n a : ℕ) → at + n ≤ 0x10000 → is_filled (counted_from at n) a ≡ between at n a
filled_counted at zero a fits = grind (arith, nat_tests)
filled_counted at (suc n) a fits =
    let here : at % 0x10000 ≡ at = omega arith in
    let rest : is_filled (counted_from (at + 1) n) a ≡ between (at + 1) n a = filled_counted (at + 1) n a (omega arith) in
    let more : ((at == a) || between (at + 1) n a) ≡ between at (suc n) a = grind (arith, nat_tests) in
    rw (here, rest) more

one_more : (at n a : ℕ) (b : Bool) → (at == a) ≡ b → one b + one (between (at + 1) n a) ≡ one (between at (suc n) a)
one_more at n a true h =
    let past : between (at + 1) n a ≡ false = grind (arith, nat_tests) in
    let here : between at (suc n) a ≡ true = grind (arith, nat_tests) in
    rw (past, here) refl
one_more at n a false h =
    let same : between (at + 1) n a ≡ between at (suc n) a = grind (arith, nat_tests) in
    rw same (omega arith)

pub held_laid : (at : ℕ) (cs : List Cell) (a : ℕ) → at + length cs ≤ 0x10000 → held_times a (laid_from at cs) ≡ one (between at (length cs) a)
held_laid at [] a fits =
    let none : between at 0 a ≡ false = grind (arith, nat_tests) in
    rw none refl
held_laid at (c ∷ cs) a fits =
    let here : at % 0x10000 ≡ at = omega arith in
    let rest : held_times a (laid_from (at + 1) cs) ≡ one (between (at + 1) (length cs) a) = held_laid (at + 1) cs a (omega arith) in
    rw (here, rest) (one_more at (length cs) a (at == a) refl)
