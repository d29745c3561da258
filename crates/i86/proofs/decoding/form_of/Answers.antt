-- A byte stands for the form of its row of opcodes, or in one of the three gaps between these for one form.
use Rattle.std.proofs.Common.{◌≡◌, ◌∙◌, ℕ, ◌<◌, ◌≤◌, ◌/◌, ◌%◌, true, false, ◌⊎◌, inl, inr, sym, ap, arith}
use Rattle.std.proofs.lemmas.Bool.{cond-true, cond-false}
use Rattle.std.specs.Prelude.{option_map}
use Rattle.std.proofs.lemmas.Bool.Decides.{nat_tests}
use Rattle.i86.specs.declared.decoding.Form.TheVariants.{Byte, Word}
use Rattle.i86.specs.declared.decoding.ByteForm.TheVariants.{MovNum8, Jcc}
use Rattle.i86.specs.declared.decoding.WordForm.TheVariants.{MovNum16}
use Rattle.i86.specs.Decoder.{entry_under, regs8, regs16, jumps, singles, is_from, on_word, form_of}
use Rattle.i86.proofs.decoding.form_of.Goals.{in_default-via-then-this-lt112, in_default-via-else-this-lt112+else-this-lt128+then-this-lt176, in_default-via-else-this-lt112+else-this-lt128+else-this-lt176+else-this-lt184+else-this-lt192}
use Rattle.i86.proofs.decoding.form_of.Goals as goal

outside : (low high n : ℕ) → (n < low) ⊎ (high < n) → is_from low high n ≡ false
outside low high n (inl h) = grind (arith, nat_tests)
outside low high n (inr h) = grind (arith, nat_tests)

inside : (low high n : ℕ) → low ≤ n → n ≤ high → is_from low high n ≡ true
inside low high n h k = grind (arith, nat_tests)

alone : (n : ℕ) → 96 ≤ n → (n < 0x70) ⊎ (0x7F < n) → (n < 0xB0) ⊎ (0xB7 < n) → (n < 0xB8) ⊎ (0xBF < n) → entry_under singles n ≡ form_of n
alone n h conditions bytes words =
    sym (cond-false _ _ _ (outside 0x00 0x3F n (inr (omega arith)))
    ∙ cond-false _ _ _ (outside 0x40 0x5F n (inr (omega arith)))
    ∙ cond-false _ _ _ (outside 0x70 0x7F n conditions)
    ∙ cond-false _ _ _ (outside 0xB0 0xB7 n bytes)
    ∙ cond-false _ _ _ (outside 0xB8 0xBF n words))

below_jumps : (n : ℕ) → 96 ≤ n → n < 112 → entry_under singles n ≡ form_of n
below_jumps n h k = alone n h (inl k) (inl (omega arith)) (inl (omega arith))

below_numbers : (n : ℕ) → 128 ≤ n → n < 176 → entry_under singles n ≡ form_of n
below_numbers n h k = alone n (omega arith) (inr h) (inl k) (inl (omega arith))

above_numbers : (n : ℕ) → 192 ≤ n → entry_under singles n ≡ form_of n
above_numbers n h = alone n (omega arith) (inr (omega arith)) (inr (omega arith)) (inr h)

words : (n : ℕ) → 64 ≤ n → n < 96 → on_word (n / 8) (n % 8) ≡ form_of n
words n h k =
    sym (cond-false _ _ _ (outside 0x00 0x3F n (inr (omega arith)))
    ∙ cond-true _ _ _ (inside 0x40 0x5F n h (omega arith)))

conditions : (n : ℕ) → 112 ≤ n → n < 128 → option_map (λ j. Byte (Jcc j)) (entry_under jumps (n % 16)) ≡ form_of n
conditions n h k =
    sym (cond-false _ _ _ (outside 0x00 0x3F n (inr (omega arith)))
    ∙ cond-false _ _ _ (outside 0x40 0x5F n (inr (omega arith)))
    ∙ cond-true _ _ _ (inside 0x70 0x7F n h (omega arith)))

byte_numbers : (n : ℕ) → 176 ≤ n → n < 184 → option_map (λ r. Byte (MovNum8 r)) (entry_under regs8 (n % 8)) ≡ form_of n
byte_numbers n h k =
    sym (cond-false _ _ _ (outside 0x00 0x3F n (inr (omega arith)))
    ∙ cond-false _ _ _ (outside 0x40 0x5F n (inr (omega arith)))
    ∙ cond-false _ _ _ (outside 0x70 0x7F n (inr (omega arith)))
    ∙ cond-true _ _ _ (inside 0xB0 0xB7 n h (omega arith)))

word_numbers : (n : ℕ) → 184 ≤ n → n < 192 → option_map (λ r. Word (MovNum16 r)) (entry_under regs16 (n % 8)) ≡ form_of n
word_numbers n h k =
    sym (cond-false _ _ _ (outside 0x00 0x3F n (inr (omega arith)))
    ∙ cond-false _ _ _ (outside 0x40 0x5F n (inr (omega arith)))
    ∙ cond-false _ _ _ (outside 0x70 0x7F n (inr (omega arith)))
    ∙ cond-false _ _ _ (outside 0xB0 0xB7 n (inr (omega arith)))
    ∙ cond-true _ _ _ (inside 0xB8 0xBF n h (omega arith)))

pub returns-in-64-to-95 : goal.returns-in-64-to-95
returns-in-64-to-95 c = c.on_word.ensures ∙ words c.args.first (omega arith) (omega arith)

pub returns-in_default : goal.returns-in_default
returns-in_default c =
    c.single.ensures
    ∙ elim c.in_default.branch [
      | in_default-via-then-this-lt112 w ↦ below_jumps c.args.first (omega arith) (omega arith)
      | in_default-via-else-this-lt112+else-this-lt128+then-this-lt176 w ↦ below_numbers c.args.first (omega arith) (omega arith)
      | in_default-via-else-this-lt112+else-this-lt128+else-this-lt176+else-this-lt184+else-this-lt192 w ↦ above_numbers c.args.first (omega arith)
    ]

pub returns-in_err-jump-in-112-to-127 : goal.returns-in_err-jump-in-112-to-127
returns-in_err-jump-in-112-to-127 c =
    c.from_residual.ensures
    ∙ ap (option_map (λ j. Byte (Jcc j))) (sym c.in_err-jump-in-112-to-127.was ∙ c.jump.ensures)
    ∙ conditions c.args.first (omega arith) (omega arith)

pub returns-in_ok-jump-in-112-to-127 : goal.returns-in_ok-jump-in-112-to-127
returns-in_ok-jump-in-112-to-127 c =
    ap (option_map (λ j. Byte (Jcc j))) (sym c.in_ok-jump-in-112-to-127.was ∙ c.jump.ensures) ∙ conditions c.args.first (omega arith) (omega arith)

pub returns-in_err-reg8-in-176-to-183 : goal.returns-in_err-reg8-in-176-to-183
returns-in_err-reg8-in-176-to-183 c =
    c.from_residual-in_err-reg8-in-176-to-183.ensures
    ∙ ap (option_map (λ r. Byte (MovNum8 r))) (sym c.in_err-reg8-in-176-to-183.was ∙ c.reg8.ensures)
    ∙ byte_numbers c.args.first (omega arith) (omega arith)

pub returns-in_ok-reg8-in-176-to-183 : goal.returns-in_ok-reg8-in-176-to-183
returns-in_ok-reg8-in-176-to-183 c =
    ap (option_map (λ r. Byte (MovNum8 r))) (sym c.in_ok-reg8-in-176-to-183.was ∙ c.reg8.ensures) ∙ byte_numbers c.args.first (omega arith) (omega arith)

pub returns-in_err-reg16-in-184-to-191 : goal.returns-in_err-reg16-in-184-to-191
returns-in_err-reg16-in-184-to-191 c =
    c.from_residual-in_err-reg16-in-184-to-191.ensures
    ∙ ap (option_map (λ r. Word (MovNum16 r))) (sym c.in_err-reg16-in-184-to-191.was ∙ c.reg16.ensures)
    ∙ word_numbers c.args.first (omega arith) (omega arith)

pub returns-in_ok-reg16-in-184-to-191 : goal.returns-in_ok-reg16-in-184-to-191
returns-in_ok-reg16-in-184-to-191 c =
    ap (option_map (λ r. Word (MovNum16 r))) (sym c.in_ok-reg16-in-184-to-191.was ∙ c.reg16.ensures) ∙ word_numbers c.args.first (omega arith) (omega arith)
