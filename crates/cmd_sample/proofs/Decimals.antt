-- What `decimal` writes: digits, whose number by the assembler's count is the number.
use Rattle.std.proofs.Common.{◌≡◌, ℕ, ◌+◌, ◌-◌, ◌*◌, ◌^◌, ◌<◌, ◌≤◌, List, length, refl, ap, arith, le-leb}
use Rattle.std.specs.List.{fold, AllByRecursion}
use Rattle.std.specs.Fmt.{decimal}
use Rattle.std.proofs.lemmas.Fmt.{digits_decimal, digits_value-decimal, decimal_nonempty, length-decimal-le}
use Rattle.std.proofs.lemmas.Str.Parse.{IsDigitsTest, FoldsDigits, IsNumeralModel, numerals_by_fold}
use Rattle.asm80_text.specs.Numbers.{digit_of, total}

abbrev pub IsDigit : ℕ → Type 0
IsDigit c = (48 ≤ c) × (c ≤ 57)

abbrev AreDigits : List ℕ → Type 0
AreDigits ds = AllByRecursion IsDigit ds

abbrev total_after : ℕ → List ℕ → ℕ
total_after n cs = fold (λ m c. m * 10 + digit_of c) n cs

tells : IsDigitsTest AreDigits
tells = record { empty = tt; parts = λ c cs h. (h.0, h.1); more = λ c cs h hs. (h, hs) }

folds : FoldsDigits total_after
folds = record {
  empty = λ n. refl;
  more = λ n c cs h. ap (λ (d : ℕ). total_after (n * 10 + d) cs) (digit_is c h);
}
  where
    digit_is : (c : ℕ) → IsDigit c → digit_of c ≡ c - 48
    digit_is c h = rw (le-leb 48 c h.0, le-leb c 57 h.1) refl

model : IsNumeralModel AreDigits (total_after 0)
model = numerals_by_fold AreDigits tells total_after folds

small : (n : ℕ) → n < 65536 → n < 2 ^ 64
small n lt = omega arith

pub decimal_digits : (n : ℕ) → n < 65536 → AllByRecursion IsDigit (decimal n)
decimal_digits n lt = digits_decimal model n (small n lt)

pub decimal_some : (n : ℕ) → n < 65536 → 0 < length (decimal n)
decimal_some n lt = decimal_nonempty n (small n lt)

pub decimal_short : (n : ℕ) → n < 65536 → length (decimal n) ≤ 5
decimal_short n lt = length-decimal-le 5 n (omega arith) (omega arith) (small n lt)

pub decimal_total : (n : ℕ) → n < 65536 → total 10 (decimal n) ≡ n
unfolding total
decimal_total n lt = digits_value-decimal model n (small n lt)
