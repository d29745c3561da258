-- Numerals, and the texts that std reads as numbers.
use Rattle.std.proofs.Common.{◌≡◌, ◌≢◌, ℕ, zero, suc, ◌<◌, ◌≤◌, ◌^◌, List, [], ◌∷◌, true, false, ltb, Some, None, Result, Ok, Err, length, refl, ap, arith, get_or, inl, inr}
use Rattle.std.specs.List.{list_all}
use Rattle.std.specs.Char.{digit_value}
use Rattle.std.specs.Result.{OkIff}
use Rattle.std.specs.Str.{IsUtf8}
use Rattle.std.specs.Str.Parse.{AllDigits, IsNumeral, digits_value, ParsesUnsigned}
use Rattle.std.proofs.lemmas.Bool.{ltb-true, lt-ltb, le-ltb, cases_lt}
use Rattle.std.proofs.lemmas.Bool.Decides.{nat_tests}
use Rattle.std.proofs.lemmas.Str.{IsUtf8-from_ascii}
use Rattle.std.proofs.lemmas.Str.Parse.{without_leading_plus_none}
use Rattle.asm86_line_reader.specs.Numbers.{value_in}
use Rattle.std.proofs.lemmas.Bool.{and_parts}

low_digit : (base c : ℕ) → base ≤ 36 → ltb (digit_value c) base ≡ true → (c < 128) × (c ≢ 43)
low_digit base c le h = (grind (arith, nat_tests), λ e. grind (arith, nat_tests))

digits : (base : ℕ) (ds : List ℕ) → list_all (λ c. ltb (digit_value c) base) ds ≡ true → AllDigits base ds
digits base [] h = tt
digits base (c ∷ cs) h = (ltb-true _ _ (and_parts _ _ h).0, digits base cs (and_parts _ _ h).1)

at_each : (base : ℕ) (ds : List ℕ) → base ≤ 36 → list_all (λ c. ltb (digit_value c) base) ds ≡ true → (i : ℕ) → (get_or ds i 0 < 128) × (get_or ds i 0 ≢ 43)
at_each base [] le h i = (omega arith, λ e. absurd cc)
at_each base (c ∷ cs) le h zero = low_digit base c le (and_parts _ _ h).0
at_each base (c ∷ cs) le h (suc i) = at_each base cs le (and_parts _ _ h).1 i

pub is_utf8 : (base : ℕ) (ds : List ℕ) → base ≤ 36 → list_all (λ c. ltb (digit_value c) base) ds ≡ true → IsUtf8 ds
is_utf8 base ds le h = IsUtf8-from_ascii ds (λ i. (at_each base ds le h i).0)

pub no_digits : (base : ℕ) (ds : List ℕ) → list_all (λ c. ltb (digit_value c) base) ds ≡ false → None ≡ value_in base ds
unfolding value_in
no_digits base ds h = rw h refl

-- what std reads of digits
plain : {E : Type 0} (base : ℕ) (ds : List ℕ) (r : Result ℕ E) → base ≤ 36 → list_all (λ c. ltb (digit_value c) base) ds ≡ true → ParsesUnsigned 16 base ds r → OkIff r (IsNumeral base ds × (digits_value base ds < 2 ^ 16)) (digits_value base ds)
plain base ds r le h p = rw (without_leading_plus_none ds (at_each base ds le h 0).1) at p

pub parsed : {E : Type 0} (base : ℕ) (ds : List ℕ) (n : ℕ) (r : Result ℕ E) → base ≤ 36 → list_all (λ c. ltb (digit_value c) base) ds ≡ true → ParsesUnsigned 16 base ds r → r ≡ Ok n → Some n ≡ value_in base ds
unfolding value_in
parsed base ds n r le h p e =
    let q = rw e at (plain base ds r le h p) in
    let some : ltb 0 (length ds) ≡ true = lt-ltb _ _ q.0.0.0 in
    let small : ltb (digits_value base ds) 65536 ≡ true = lt-ltb _ _ q.0.1 in
    rw (h, some, small) (ap (λ k. Some k) q.1)

pub refused : {E : Type 0} (base : ℕ) (ds : List ℕ) (r : Result ℕ E) (f : E) → base ≤ 36 → list_all (λ c. ltb (digit_value c) base) ds ≡ true → ParsesUnsigned 16 base ds r → r ≡ Err f → None ≡ value_in base ds
unfolding value_in
refused base ds r f le h p e =
    let q = rw e at (plain base ds r le h p) in
    elim (cases_lt 0 (length ds)) [
      | inr none ↦ rw (h, le-ltb _ _ none) refl
      | inl some ↦ elim (cases_lt (digits_value base ds) 65536) [
        | inr large ↦ rw (h, lt-ltb _ _ some, le-ltb _ _ large) refl
        | inl small ↦ absurd (q ((some, digits base ds h), small))
      ]
    ]
