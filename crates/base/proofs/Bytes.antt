-- Bits, bytes, and the sums of words by their halves.
use Rattle.std.proofs.Common.{◌≡◌, ℕ, ◌+◌, ◌-◌, ◌*◌, ◌/◌, ◌%◌, ◌<◌, ◌==◌, Bool, true, false, not, refl, ap, ◌∙◌, arith}
use Rattle.std.specs.Prelude.{bit_xor, nat_lt}
use Rattle.std.specs.Int.Bits.{xor_add_and}
use Rattle.std.proofs.lemmas.Nat.{and_le_l, and_mask, or_of_8, xor_of_8}
use Rattle.cells.specs.Bits.{has_bit}
use Rattle.i80.specs.declared.Op.{Op}
use Rattle.i80.specs.declared.Op.TheVariants.{Add, Adc, Sub, Sbb, Ana, Xra, Ora, Cmp}
use Rattle.base.specs.Arithmetic.{as_bit, carry8}
use Rattle.base.specs.Operations.{result_of}

-- a bit is 0 or 1
pub bit_small : (b : Bool) → as_bit b < 2
bit_small true = omega arith
bit_small false = omega arith

pub turned_round : (b : Bool) → bit_xor (as_bit b) 1 ≡ as_bit (not b)
turned_round true = refl
turned_round false = refl

-- a bit of 0 or 1 that is tested
pub tested : (m : ℕ) (b : Bool) → m ≡ as_bit b → (m == 1) ≡ b
tested m true h = ap (λ k. k == 1) h
tested m false h = ap (λ k. k == 1) h

-- a byte that is put together of five flags, and of any bits between them, has these in its bits 7, 6, 4, 2 and 0
module _ (n : ℕ) where
  by_numbers : (s z c2 a c1 p c0 k : ℕ) → s < 2 → z < 2 → c2 < 2 → a < 2 → c1 < 2 → p < 2 → c0 < 2 → k < 2 → n ≡ 128 * s + 64 * z + 32 * c2 + 16 * a + 8 * c1 + 4 * p + 2 * c0 + k → (n < 256) × ((n / 128) % 2 ≡ s) × ((n / 64) % 2 ≡ z) × ((n / 16) % 2 ≡ a) × ((n / 4) % 2 ≡ p) × ((n / 1) % 2 ≡ k)
  by_numbers s z c2 a c1 p c0 k hs hz h2 ha h1 hp h0 hk e =
      let whole : n / 1 ≡ n = omega arith in
      let last : n % 2 ≡ k = omega (arith, e) in
      (omega (arith, e), omega (arith, e), omega (arith, e), omega (arith, e), omega (arith, e), ap (λ j. j % 2) whole ∙ last)

  pub flag_bits : (s z c2 a c1 p c0 k : Bool) → n ≡ 128 * as_bit s + 64 * as_bit z + 32 * as_bit c2 + 16 * as_bit a + 8 * as_bit c1 + 4 * as_bit p + 2 * as_bit c0 + as_bit k → (n < 256) × (has_bit n 7 ≡ s) × (has_bit n 6 ≡ z) × (has_bit n 4 ≡ a) × (has_bit n 2 ≡ p) × (has_bit n 0 ≡ k)
  flag_bits s z c2 a c1 p c0 k e =
      let b = by_numbers (as_bit s) (as_bit z) (as_bit c2) (as_bit a) (as_bit c1) (as_bit p) (as_bit c0) (as_bit k) (bit_small s) (bit_small z) (bit_small c2) (bit_small a) (bit_small c1) (bit_small p) (bit_small c0) (bit_small k) e in
      (b.0, tested ((n / 128) % 2) s b.1, tested ((n / 64) % 2) z b.2, tested ((n / 16) % 2) a b.3, tested ((n / 4) % 2) p b.4, tested ((n / 1) % 2) k b.5)

-- results are bytes
pub result_small : (op : Op) (x y c : ℕ) → x < 256 → y < 256 → result_of op x y c < 256
result_small Add x y c hx hy = omega arith
result_small Adc x y c hx hy = omega arith
result_small Sub x y c hx hy = omega arith
result_small Sbb x y c hx hy = omega arith
result_small Ana x y c hx hy = omega (arith, and_le_l x y, hx)
result_small Xra x y c hx hy = xor_of_8 x y hx hy
result_small Ora x y c hx hy = or_of_8 x y hx hy
result_small Cmp x y c hx hy = omega arith

-- the carry out of the sum of two words is that of the halves
pub carry_is : (x y : ℕ) → carry8 (x / 256) (y / 256) (as_bit (carry8 (x % 256) (y % 256) 0)) ≡ nat_lt 0xFFFF (x + y)
carry_is x y = by_low (carry8 (x % 256) (y % 256) 0) refl
  where
    by_low : (b : Bool) → carry8 (x % 256) (y % 256) 0 ≡ b → carry8 (x / 256) (y / 256) (as_bit b) ≡ nat_lt 0xFFFF (x + y)
    by_low true h = grind (arith, h)
    by_low false h = grind (arith, h)

-- 255 less a byte is its complement
pub inverted_is : (n : ℕ) → n < 256 → bit_xor n 255 ≡ 255 - n
inverted_is n lt = let s = xor_add_and n 255 in let m = and_mask n 8 in omega (arith, s, m, lt)
