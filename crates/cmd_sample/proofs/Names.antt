-- A name with a digit in it is no reserved word.
use Rattle.std.proofs.Common.{◌≡◌, ℕ, List, [], ◌∷◌, Bool, true, false, ◌||◌, refl, sym, ap, ◌∙◌, le-leb, length, arith, ◌<◌, inl, inr}
use Rattle.std.specs.Prelude.{codes}
use Rattle.std.specs.List.{list_any, AllByRecursion}
use Rattle.std.specs.Str.{bytes_eq}
use Rattle.std.proofs.lemmas.Slice.Eq.{bytes_eq-Decides}
use Rattle.std.proofs.Math.Bool.{true≢false}
use Rattle.std.proofs.lemmas.Bool.{cases_Bool}
use Rattle.asm80_text.specs.declared.token.Token.TheVariants.{Word}
use Rattle.asm80_text.specs.Letters.{is_digit}
use Rattle.asm80_types.specs.Words.{operations, registers}
use Rattle.asm80_text.specs.Words.{word_token}
use Rattle.asm80_text.specs.Intel.{intel_spelling}
use Rattle.cmd_sample.proofs.Decimals.{IsDigit}

abbrev has_digit : List ℕ → Bool
has_digit name = list_any is_digit name

differs : (word name : List ℕ) → has_digit word ≡ false → has_digit name ≡ true → bytes_eq word name ≡ false
differs word name lacks has = elim (cases_Bool (bytes_eq word name)) [
  | inl e ↦ absurd (true≢false (sym has ∙ sym (ap has_digit ((bytes_eq-Decides word name).0 e)) ∙ lacks))
  | inr e ↦ e
]

none_of : (words : List (List ℕ)) (name : List ℕ) → list_any has_digit words ≡ false → has_digit name ≡ true → list_any (λ word. bytes_eq word name) words ≡ false
none_of [] name h d = refl
none_of (w ∷ words) name h d = elim (cases_Bool (has_digit w)) [
  | inl e ↦ absurd (true≢false (rw e at h))
  | inr e ↦ rw (differs w name e d) (none_of words name (rw e at h) d)
]

no_operation_has : list_any has_digit operations ≡ false
unfolding operations
no_operation_has = refl

no_register_has : list_any has_digit registers ≡ false
unfolding registers
no_register_has = refl

-- none of the operators that are words
no_operator : (name : List ℕ) → has_digit name ≡ true → (word : List ℕ) → has_digit word ≡ false → bytes_eq name word ≡ false
no_operator name d word h = elim (cases_Bool (bytes_eq name word)) [
  | inl e ↦ absurd (true≢false (sym d ∙ ap has_digit ((bytes_eq-Decides name word).0 e) ∙ h))
  | inr e ↦ e
]

pub word_with_digit : (name : List ℕ) → has_digit name ≡ true → word_token intel_spelling name ≡ Word name
unfolding word_token
word_with_digit name d =
    let no_word = no_operator name d in
    rw (
      no_word (codes "MOD") refl,
      no_word (codes "SHL") refl,
      no_word (codes "SHR") refl,
      no_word (codes "AND") refl,
      no_word (codes "OR") refl,
      no_word (codes "XOR") refl,
      no_word (codes "NOT") refl,
      none_of operations name no_operation_has d,
      none_of registers name no_register_has d,
    ) refl

-- a letter and then digits
pub letter_and_digits : (b : ℕ) (ds : List ℕ) → AllByRecursion IsDigit ds → 0 < length ds → has_digit (b ∷ ds) ≡ true
letter_and_digits b [] h some = absurd (omega arith)
letter_and_digits b (c ∷ ds) h some = rw (le-leb 48 c h.0.0, le-leb c 57 h.0.1) (or_true (is_digit b) (has_digit ds))
  where
    or_true : (x y : Bool) → (x || (true || y)) ≡ true
    or_true true y = refl
    or_true false y = refl
