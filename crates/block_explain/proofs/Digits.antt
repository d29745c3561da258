-- Two bytes in hexadecimal digits are the four digits of a written label.
use Rattle.std.proofs.Common.{◌≡◌, ◌∙◌, ◌<◌, ◌==◌, ℕ, ◌/◌, ◌%◌, true, [], ◌∷◌, slice_index, ap, refl, arith}
use Rattle.std.proofs.lemmas.Bool.{eqb-true, agree_below_at}
use Rattle.hex.specs.Hex.{upper_digits, encode_with, encode_upper}
use Rattle.asm86_line_types.specs.Written.{digit, four_digits}

digit_is : (n : ℕ) → n < 16 → slice_index upper_digits n ≡ digit n
digit_is n h =
    eqb-true (slice_index upper_digits n) (digit n) (agree_below_at (λ k. slice_index upper_digits k == digit k) (λ k. true) 16 n refl h)

pub upper_is : (w : ℕ) → w < 0x10000 → encode_upper (w / 256 ∷ (w % 256 ∷ [])) ≡ four_digits w
unfolding encode_with
upper_is w h =
    let a : slice_index upper_digits (w / 256 / 16) ≡ digit (w / 4096) = digit_is (w / 256 / 16) (omega arith) ∙ ap digit (omega arith) in
    let b : slice_index upper_digits (w / 256 % 16) ≡ digit (w / 256 % 16) = digit_is (w / 256 % 16) (omega arith) in
    let c : slice_index upper_digits (w % 256 / 16) ≡ digit (w / 16 % 16) = digit_is (w % 256 / 16) (omega arith) ∙ ap digit (omega arith) in
    let d : slice_index upper_digits (w % 256 % 16) ≡ digit (w % 16) = digit_is (w % 256 % 16) (omega arith) ∙ ap digit (omega arith) in
    λ i. a i ∷ (b i ∷ (c i ∷ (d i ∷ [])))
