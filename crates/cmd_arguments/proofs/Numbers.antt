-- What `from_str_radix` reads is the number that digits of the base write.
use Rattle.std.proofs.Common.{◌≡◌, ◌≢◌, ℕ, ◌^◌, ◌<◌, ◌≤◌, List, [], ◌∷◌, Bool, true, false, Some, None, Result, Ok, Err, length, get_or, refl, ap, arith, cond}
use Rattle.std.specs.Char.{digit_value, is_digit}
use Rattle.std.specs.List.{list_all}
use Rattle.std.specs.Result.{result_ok}
use Rattle.std.specs.Str.Parse.{AllDigits, digits_value, ParsesUnsigned}
use Rattle.std.proofs.lemmas.Bool.{lt-ltb, le-leb, ltb-true, and_parts}
use Rattle.std.proofs.lemmas.Int.Digits.{digits_value-lt}
use Rattle.std.proofs.lemmas.Str.Parse.{without_leading_plus_none}
use Rattle.std.proofs.Math.Nat.{pow-le-pow_left, pow-le-pow_right}
use Rattle.cmd_arguments.specs.Values.{number_in}

-- the test of each digit
test_from_digits : (base : ℕ) (bs : List ℕ) → AllDigits base bs → list_all (λ b. is_digit b base) bs ≡ true
test_from_digits base [] h = refl
test_from_digits base (b ∷ bs) h = rw (lt-ltb (digit_value b) base h.0) (test_from_digits base bs h.1)

digits_from_test : (base : ℕ) (bs : List ℕ) → list_all (λ b. is_digit b base) bs ≡ true → AllDigits base bs
digits_from_test base [] h = tt
digits_from_test base (b ∷ bs) h =
    let parts = and_parts (is_digit b base) (list_all (λ c. is_digit c base) bs) h in
    (ltb-true (digit_value b) base parts.0, digits_from_test base bs parts.1)

-- up to 32 digits of a base up to 16 fit
digits_fit : (base : ℕ) (bs : List ℕ) → 0 < base → base ≤ 16 → length bs ≤ 32 → AllDigits base bs → digits_value base bs < 2 ^ 128
digits_fit base bs pos small few digits =
    let below = digits_value-lt base bs digits in
    let smaller : base ^ length bs ≤ 16 ^ length bs = pow-le-pow_left small (length bs) in
    let fewer : 16 ^ length bs ≤ 16 ^ 32 = pow-le-pow_right (omega arith) few in
    let most : 16 ^ 32 ≡ 2 ^ 128 = refl in
    omega arith

none_unless : (t : Bool) (n : ℕ) → (t ≡ true → ⊥) → None ≡ cond t (Some n) None
none_unless true n h = absurd (h refl)
none_unless false n h = refl

-- a number that `from_str_radix` reads from a text that begins with no `+`
pub number_from_parse : {E : Type 0} (base most : ℕ) (bs : List ℕ) (r : Result ℕ E) → 0 < base → base ≤ 16 → most ≤ 32 → length bs ≤ most → get_or bs 0 0 ≢ 43 → ParsesUnsigned 128 base bs r → result_ok r ≡ number_in base most bs
number_from_parse base most bs (Ok n) pos small fits few plain h =
    let own = rw (without_leading_plus_none bs plain) at h in
    rw (lt-ltb 0 (length bs) own.0.0.0, le-leb (length bs) most few, test_from_digits base bs own.0.0.1) (ap Some own.1)
number_from_parse base most bs (Err e) pos small fits few plain h =
    let own = rw (without_leading_plus_none bs plain) at h in
    none_unless _ _ (λ t.
    let outer = and_parts _ _ t in
    let inner = and_parts _ _ outer.0 in
    let digits = digits_from_test base bs outer.1 in
    own ((ltb-true 0 (length bs) inner.0, digits), digits_fit base bs pos small (omega arith) digits))
