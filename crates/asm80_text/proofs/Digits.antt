-- The number that digits spell, counted with a cap.
use Rattle.std.proofs.Common.{◌≡◌, ℕ, ◌+◌, ◌*◌, ◌<◌, ◌≤◌, min, List, [], ◌∷◌, ◌++◌, true, false, ◌&&◌, Some, None, refl, ap, ◌∙◌, arith, inl, inr, ltb}
use Rattle.std.specs.List.{list_all}
use Rattle.std.proofs.lemmas.Bool.{cases_lt, le-ltb, lt-ltb, le-leb, lt-leb}
use Rattle.std.proofs.lemmas.List.Sums.{fold-append}
use Rattle.std.proofs.lemmas.List.Folds.{list_all-append}
use Rattle.std.proofs.Math.Nat.{mul-le-mul_right}
use Rattle.std.proofs.Math.Bool.{and-false}
use Rattle.asm80_text.specs.Numbers.{digit_of, total, value_in}

pub cap_step : (t c b d : ℕ) → 0 < b → c ≡ min t 65536 → min (c * b + d) 65536 ≡ min (t * b + d) 65536
cap_step t c b d pos e =
    elim (cases_lt t 65536) [
      | inl lt ↦ let same : c ≡ t = omega arith in rw same refl
      | inr le ↦
          let full : c ≡ 65536 = omega arith in
          let large : 65536 * b ≤ t * b = mul-le-mul_right b le in
          rw full (omega (arith, large))
    ]

-- one more digit
pub total_and_one : (base : ℕ) (cs : List ℕ) (c : ℕ) → total base (cs ++ c ∷ []) ≡ total base cs * base + digit_of c
unfolding total
total_and_one base cs c = fold-append (λ n d. n * base + digit_of d) 0 cs (c ∷ [])

pub total_none : (base : ℕ) → total base [] ≡ 0
unfolding total
total_none base = refl

-- no number, where something is no digit
pub no_value_at : (base : ℕ) (cs : List ℕ) (c : ℕ) (rest : List ℕ) → base ≤ digit_of c → value_in base ((cs ++ c ∷ []) ++ rest) ≡ None
unfolding value_in
no_value_at base cs c rest le =
    let digits = λ (d : ℕ). ltb (digit_of d) base in
    let wrong : list_all digits ((cs ++ c ∷ []) ++ rest) ≡ false = list_all-append digits (cs ++ c ∷ []) rest ∙ ap (λ b. b && list_all digits rest) (list_all-append digits cs (c ∷ []) ∙ ap (λ b. list_all digits cs && (b && true)) (le-ltb _ _ le) ∙ and-false (list_all digits cs)) in
    rw wrong refl

pub too_large : (base : ℕ) (cs : List ℕ) (n : ℕ) → n ≡ min (total base cs) 65536 → 65535 < n → value_in base cs ≡ None
unfolding value_in
too_large base cs n e lt =
    let above : 65535 < total base cs = omega arith in
    rw (lt-leb (total base cs) 65535 above, and-false) refl

pub has_value : (base : ℕ) (cs : List ℕ) (n : ℕ) → list_all (λ c. ltb (digit_of c) base) cs ≡ true → n ≡ min (total base cs) 65536 → n ≤ 65535 → value_in base cs ≡ Some n
unfolding value_in
has_value base cs n all e le =
    let same : total base cs ≡ n = omega arith in
    rw (all, same, le-leb n 65535 le) refl

pub digits_and_one : (base : ℕ) (cs : List ℕ) (c : ℕ) → digit_of c < base → list_all (λ d. ltb (digit_of d) base) cs ≡ true → list_all (λ d. ltb (digit_of d) base) (cs ++ c ∷ []) ≡ true
digits_and_one base cs c lt all = rw (list_all-append (λ d. ltb (digit_of d) base) cs (c ∷ []), all, lt-ltb _ _ lt) refl
