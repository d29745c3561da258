-- The words of written lines, and what they mean.
use Rattle.std.proofs.Common.{◌≡◌, ℕ, ◌+◌, ◌*◌, ◌/◌, ◌%◌, ◌<◌, ◌≤◌, List, [], ◌∷◌, length, true, ltb, Some, option_map, refl, ap, arith, inl, inr}
use Rattle.std.specs.List.{list_all}
use Rattle.std.specs.Char.{digit_value}
use Rattle.std.specs.Str.Parse.{digits_value}
use Rattle.std.proofs.Math.Bool.{and-false}
use Rattle.std.proofs.lemmas.Bool.{ltb-true, lt-ltb, le-ltb, cases_lt}
use Rattle.std.proofs.lemmas.Bool.Decides.{nat_tests}
use Rattle.i86.specs.declared.Reg8.{Reg8}
use Rattle.i86.specs.declared.Reg8.TheVariants.{Al}
use Rattle.i86.specs.declared.Reg16.{Reg16}
use Rattle.i86.specs.declared.Reg16.TheVariants.{Ax}
use Rattle.i86.specs.declared.AluOp.{AluOp}
use Rattle.i86.specs.declared.AluOp.TheVariants.{Add}
use Rattle.i86.specs.declared.Count.{Count}
use Rattle.i86.specs.declared.Count.TheVariants.{Inc}
use Rattle.i86.specs.declared.Rotate.{Rotate}
use Rattle.i86.specs.declared.Rotate.TheVariants.{Rol}
use Rattle.i86.specs.declared.Jump.{Jump}
use Rattle.i86.specs.declared.Jump.TheVariants.{Jb}
use Rattle.asm86_line_types.specs.declared.line.Label.{Label}
use Rattle.asm86_line_types.specs.declared.line.Label.TheVariants.{At, Skip, User, Sys, End}
use Rattle.asm86_line_types.specs.Written.{digit, byte_text, word_text, reg8_text, reg16_text, alu_text, count_text, rotate_text, jump_text, label_text}
use Rattle.asm86_line_reader.specs.declared.token.Operation.TheVariants as op
use Rattle.asm86_line_reader.specs.declared.token.Token.{Token}
use Rattle.asm86_line_reader.specs.declared.token.Token.TheVariants as tokens
use Rattle.asm86_line_reader.specs.Letters.{is_inside}
use Rattle.asm86_line_reader.specs.Numbers.{value_in, number_of_word}
use Rattle.asm86_line_reader.specs.Words.{word_token, name_token, instruction_words, others}
use Rattle.asm86_line_reader.specs.ReadBack.{label_fits}
use Rattle.asm86_line_reader.proofs.Pieces.{IsWord}

pub known : (w : List ℕ) (t : Token) → list_all is_inside w ≡ true → ltb 0 (length w) ≡ true → ltb (length w) 7 ≡ true → word_token w ≡ Some t → IsWord w t
known w t i s l m = record { inside = i; some = ltb-true _ _ s; short = let k = ltb-true (length w) 7 l in omega arith; means = m }

pub reg8 : (r : Reg8) → IsWord (reg8_text r) (tokens.Reg8 r)
unfolding name_token instruction_words others
reg8 Al = known (reg8_text Al) (tokens.Reg8 Al) refl refl refl refl
reg8 r = known (reg8_text r) (tokens.Reg8 r) refl refl refl refl

pub reg16 : (r : Reg16) → IsWord (reg16_text r) (tokens.Reg16 r)
unfolding name_token instruction_words others
reg16 Ax = known (reg16_text Ax) (tokens.Reg16 Ax) refl refl refl refl
reg16 r = known (reg16_text r) (tokens.Reg16 r) refl refl refl refl

pub alu : (o : AluOp) → IsWord (alu_text o) (tokens.Operation (op.Alu o))
unfolding name_token instruction_words others
alu Add = known (alu_text Add) (tokens.Operation (op.Alu Add)) refl refl refl refl
alu o = known (alu_text o) (tokens.Operation (op.Alu o)) refl refl refl refl

pub count : (c : Count) → IsWord (count_text c) (tokens.Operation (op.Count c))
unfolding name_token instruction_words others
count Inc = known (count_text Inc) (tokens.Operation (op.Count Inc)) refl refl refl refl
count c = known (count_text c) (tokens.Operation (op.Count c)) refl refl refl refl

pub rotate : (k : Rotate) → IsWord (rotate_text k) (tokens.Operation (op.Rotate k))
unfolding name_token instruction_words others
rotate Rol = known (rotate_text Rol) (tokens.Operation (op.Rotate Rol)) refl refl refl refl
rotate k = known (rotate_text k) (tokens.Operation (op.Rotate k)) refl refl refl refl

pub jump : (j : Jump) → IsWord (jump_text j) (tokens.Operation (op.Jcc j))
unfolding name_token instruction_words others
jump Jb = known (jump_text Jb) (tokens.Operation (op.Jcc Jb)) refl refl refl refl
jump j = known (jump_text j) (tokens.Operation (op.Jcc j)) refl refl refl refl

-- ---- digits

record IsHex (c x : ℕ) : Type 0 where
  inside : is_inside c ≡ true
  value : digit_value c ≡ x
  below : ltb x 16 ≡ true

low_digit : (k : ℕ) → k < 10 → (is_inside (0x30 + k) ≡ true) × (digit_value (0x30 + k) ≡ k)
low_digit k h = (grind (arith, nat_tests), grind (arith, nat_tests))

high_digit : (k : ℕ) → 10 ≤ k → k < 16 → (is_inside (0x37 + k) ≡ true) × (digit_value (0x37 + k) ≡ k)
high_digit k g h = (grind (arith, nat_tests), grind (arith, nat_tests))

hex : (k : ℕ) → k < 16 → IsHex (digit k) k
hex k h = elim (cases_lt k 10) [
  | inl a ↦ let e = low_digit k a in rw (lt-ltb k 10 a) (record { inside = e.0; value = e.1; below = lt-ltb k 16 h })
  | inr a ↦ let e = high_digit k a h in rw (le-ltb k 10 a) (record { inside = e.0; value = e.1; below = lt-ltb k 16 h })
]

value_is : (ds : List ℕ) (n : ℕ) → list_all (λ c. ltb (digit_value c) 16) ds ≡ true → ltb 0 (length ds) ≡ true → digits_value 16 ds ≡ n → n < 65536 → value_in 16 ds ≡ Some n
unfolding value_in
value_is ds n a s e lt = rw (a, s, e, lt-ltb n 65536 lt) refl

two_digits : (c d x y n : ℕ) → IsHex c x → IsHex d y → 16 * x + y ≡ n → n < 65536 → IsWord (0x30 ∷ (c ∷ (d ∷ (0x48 ∷ [])))) (tokens.Number n)
unfolding number_of_word
two_digits c d x y n a b e lt = known (0x30 ∷ (c ∷ (d ∷ (0x48 ∷ [])))) (tokens.Number n)
    (rw (a.inside, b.inside) refl) refl refl
    (ap (λ v. option_map tokens.Number v) (value_is (0x30 ∷ (c ∷ (d ∷ []))) n (rw (a.value, b.value, a.below, b.below) refl) refl (rw (a.value, b.value) (omega arith)) lt))

four_value : (a b c d w x y z n : ℕ) → IsHex a w → IsHex b x → IsHex c y → IsHex d z → 16 * (16 * (16 * w + x) + y) + z ≡ n → n < 65536 → value_in 16 (a ∷ (b ∷ (c ∷ (d ∷ [])))) ≡ Some n
four_value a b c d w x y z n p q r s e lt = value_is (a ∷ (b ∷ (c ∷ (d ∷ [])))) n (rw (p.value, q.value, r.value, s.value, p.below, q.below, r.below, s.below) refl) refl (rw (p.value, q.value, r.value, s.value) (omega arith)) lt

five_value : (a b c d w x y z n : ℕ) → IsHex a w → IsHex b x → IsHex c y → IsHex d z → 16 * (16 * (16 * w + x) + y) + z ≡ n → n < 65536 → value_in 16 (0x30 ∷ (a ∷ (b ∷ (c ∷ (d ∷ []))))) ≡ Some n
five_value a b c d w x y z n p q r s e lt = value_is (0x30 ∷ (a ∷ (b ∷ (c ∷ (d ∷ []))))) n (rw (p.value, q.value, r.value, s.value, p.below, q.below, r.below, s.below) refl) refl (rw (p.value, q.value, r.value, s.value) (omega arith)) lt

four_digits : (a b c d w x y z n : ℕ) → IsHex a w → IsHex b x → IsHex c y → IsHex d z → 16 * (16 * (16 * w + x) + y) + z ≡ n → n < 65536 → IsWord (0x30 ∷ (a ∷ (b ∷ (c ∷ (d ∷ (0x48 ∷ [])))))) (tokens.Number n)
unfolding number_of_word
four_digits a b c d w x y z n p q r s e lt = known (0x30 ∷ (a ∷ (b ∷ (c ∷ (d ∷ (0x48 ∷ [])))))) (tokens.Number n)
    (rw (p.inside, q.inside, r.inside, s.inside) refl) refl refl
    (ap (λ v. option_map tokens.Number v) (five_value a b c d w x y z n p q r s e lt))

sum_of : (w : ℕ) → 16 * (16 * (16 * (w / 4096) + w / 256 % 16) + w / 16 % 16) + w % 16 ≡ w
sum_of w = omega arith

pub byte : (n : ℕ) → n < 256 → IsWord (byte_text n) (tokens.Number n)
byte n h = two_digits (digit (n / 16)) (digit (n % 16)) (n / 16) (n % 16) n (hex (n / 16) (omega arith)) (hex (n % 16) (omega arith)) (omega arith) (omega arith)

pub word : (w : ℕ) → w < 65536 → IsWord (word_text w) (tokens.Number w)
word w h = four_digits (digit (w / 4096)) (digit (w / 256 % 16)) (digit (w / 16 % 16)) (digit (w % 16)) _ _ _ _ w (hex (w / 4096) (omega arith)) (hex (w / 256 % 16) (omega arith)) (hex (w / 16 % 16) (omega arith)) (hex (w % 16) (omega arith)) (sum_of w) h

-- ---- labels

numbered_word : (letter a b c d w x y z n : ℕ) (l : Label) → IsHex a w → IsHex b x → IsHex c y → IsHex d z → is_inside letter ≡ true → word_token (letter ∷ (a ∷ (b ∷ (c ∷ (d ∷ []))))) ≡ Some (tokens.Label l) → IsWord (letter ∷ (a ∷ (b ∷ (c ∷ (d ∷ []))))) (tokens.Label l)
numbered_word letter a b c d w x y z n l p q r s i m = known (letter ∷ (a ∷ (b ∷ (c ∷ (d ∷ []))))) (tokens.Label l) (rw (i, p.inside, q.inside, r.inside, s.inside) refl) refl refl m

at_means : (a b c d n : ℕ) → value_in 16 (a ∷ (b ∷ (c ∷ (d ∷ [])))) ≡ Some n → word_token (0x4C ∷ (a ∷ (b ∷ (c ∷ (d ∷ []))))) ≡ Some (tokens.Label (At n))
unfolding name_token instruction_words others
at_means a b c d n v = simp (and-false, v)

skip_means : (a b c d n : ℕ) → value_in 16 (a ∷ (b ∷ (c ∷ (d ∷ [])))) ≡ Some n → word_token (0x4B ∷ (a ∷ (b ∷ (c ∷ (d ∷ []))))) ≡ Some (tokens.Label (Skip n))
unfolding name_token instruction_words others
skip_means a b c d n v = rw v refl

user_means : (a b c d n : ℕ) → value_in 16 (a ∷ (b ∷ (c ∷ (d ∷ [])))) ≡ Some n → word_token (0x55 ∷ (a ∷ (b ∷ (c ∷ (d ∷ []))))) ≡ Some (tokens.Label (User n))
unfolding name_token instruction_words others
user_means a b c d n v = rw v refl

value_of : (w : ℕ) → w < 65536 → value_in 16 (digit (w / 4096) ∷ (digit (w / 256 % 16) ∷ (digit (w / 16 % 16) ∷ (digit (w % 16) ∷ [])))) ≡ Some w
value_of w h = four_value (digit (w / 4096)) (digit (w / 256 % 16)) (digit (w / 16 % 16)) (digit (w % 16)) _ _ _ _ w (hex (w / 4096) (omega arith)) (hex (w / 256 % 16) (omega arith)) (hex (w / 16 % 16) (omega arith)) (hex (w % 16) (omega arith)) (sum_of w) h

numbered : (letter w : ℕ) (l : Label) → w < 65536 → is_inside letter ≡ true → word_token (letter ∷ (digit (w / 4096) ∷ (digit (w / 256 % 16) ∷ (digit (w / 16 % 16) ∷ (digit (w % 16) ∷ []))))) ≡ Some (tokens.Label l) → IsWord (letter ∷ (digit (w / 4096) ∷ (digit (w / 256 % 16) ∷ (digit (w / 16 % 16) ∷ (digit (w % 16) ∷ []))))) (tokens.Label l)
numbered letter w l h i m = numbered_word letter (digit (w / 4096)) (digit (w / 256 % 16)) (digit (w / 16 % 16)) (digit (w % 16)) _ _ _ _ w l (hex (w / 4096) (omega arith)) (hex (w / 256 % 16) (omega arith)) (hex (w / 16 % 16) (omega arith)) (hex (w % 16) (omega arith)) i m

pub label : (l : Label) → label_fits l ≡ true → IsWord (label_text l) (tokens.Label l)
unfolding name_token instruction_words others
label (At w) h = let lt = ltb-true w 65536 h in numbered 0x4C w (At w) lt refl (at_means _ _ _ _ w (value_of w lt))
label (Skip w) h = let lt = ltb-true w 65536 h in numbered 0x4B w (Skip w) lt refl (skip_means _ _ _ _ w (value_of w lt))
label (User w) h = let lt = ltb-true w 65536 h in numbered 0x55 w (User w) lt refl (user_means _ _ _ _ w (value_of w lt))
label Sys h = known (label_text Sys) (tokens.Label Sys) refl refl refl refl
label End h = known (label_text End) (tokens.Label End) refl refl refl refl
