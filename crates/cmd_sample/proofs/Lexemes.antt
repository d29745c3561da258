-- A name, a number or a sign as it stands in a line, and its token.
use Rattle.std.proofs.Common.{◌≡◌, ◌≢◌, ℕ, ◌-◌, ◌<◌, ◌≤◌, List, [], ◌∷◌, ◌++◌, true, false, Some, None, length, nat_lt, take, drop, get_or, refl, ap, subst, ◌∙◌, arith, inl, inr, le-leb}
use Rattle.std.specs.List.{list_all, AllByRecursion}
use Rattle.std.proofs.lemmas.Bool.{le-ltb, lt-ltb, ne_eqb}
use Rattle.std.proofs.lemmas.Bool.Decides.{nat_tests}
use Rattle.std.proofs.Math.Seq.{take-append_seam, drop-append_seam}
use Rattle.asm80_types.specs.Name.{IsNameByte}
use Rattle.asm80_text.specs.declared.token.Token.{Token}
use Rattle.asm80_text.specs.declared.token.Token.TheVariants.{Digits}
use Rattle.asm80_text.specs.Letters.{is_digit, is_inside, is_blank, upper, significant, inside_len}
use Rattle.asm80_text.specs.Numbers.{base_named, digit_of, total, value_in, number_of}
use Rattle.asm80_text.specs.Words.{word_token}
use Rattle.asm80_text.specs.Intel.{intel_spelling}
use Rattle.asm80_text.specs.Tokens.{Got, number_token, number_at, word_at, token_at, Lexes, token}
use Rattle.cmd_sample.proofs.Each.{each_last, each_by}
use Rattle.cmd_sample.proofs.Decimals.{IsDigit}

-- where a name or a number ends: nothing follows, or a byte that none goes on with
abbrev pub IsParted : List ℕ → Type 0
IsParted [] = Unit {0}
IsParted (b ∷ bytes) = is_inside b ≡ false

-- a byte that ends no line and no text, and makes no comment
pub record IsInk (b : ℕ) : Type 0 where
  pub no_line_feed : b ≢ 10
  pub no_return : b ≢ 13
  pub no_end : b ≢ 26
  pub no_star : b ≢ 42

-- a text that is one token, whatever follows it apart
pub record Lexeme (text : List ℕ) (t : Token) : Type 0 where
  pub lexes : (rest : List ℕ) (ts : List Token) → IsParted rest → Lexes intel_spelling rest ts None → Lexes intel_spelling (text ++ rest) (t ∷ ts) None
  pub ink : AllByRecursion IsInk text
  pub short : length text ≤ 16

-- ---- how long a name or a number is

inside_is : (b : ℕ) → IsNameByte b → is_inside b ≡ true
inside_is b h = grind (arith, nat_tests)

upper_is : (b : ℕ) → IsNameByte b → upper b ≡ b
upper_is b h = grind (arith, nat_tests)

no_dollar : (b : ℕ) → IsNameByte b → (b ≡ 36) → ⊥
no_dollar b (inl h) e = omega arith
no_dollar b (inr h) e = omega arith

pub ink_of_name : (b : ℕ) → IsNameByte b → IsInk b
ink_of_name b (inl h) = record { no_line_feed = λ e. omega arith; no_return = λ e. omega arith; no_end = λ e. omega arith; no_star = λ e. omega arith }
ink_of_name b (inr h) = record { no_line_feed = λ e. omega arith; no_return = λ e. omega arith; no_end = λ e. omega arith; no_star = λ e. omega arith }

pub name_of_digit : (b : ℕ) → IsDigit b → IsNameByte b
name_of_digit b h = inl h

whole_text : (w rest : List ℕ) → AllByRecursion IsNameByte w → IsParted rest → inside_len (w ++ rest) ≡ length w
whole_text [] [] h p = refl
whole_text [] (b ∷ rest) h p = rw p refl
whole_text (b ∷ w) rest h p = rw (inside_is b h.0) (omega (arith, whole_text w rest h.1 p))

all_significant : (w : List ℕ) → AllByRecursion IsNameByte w → significant w ≡ w
unfolding significant
all_significant [] h = refl
all_significant (b ∷ w) h = rw (ne_eqb b 36 (no_dollar b h.0), upper_is b h.0) (ap (λ (t : List ℕ). b ∷ t) (all_significant w h.1))

taken : (w rest : List ℕ) → AllByRecursion IsNameByte w → IsParted rest → significant (take (inside_len (w ++ rest)) (w ++ rest)) ≡ w
taken w rest h p = rw (whole_text w rest h p, take-append_seam w rest) (all_significant w h)

left : (w rest : List ℕ) → AllByRecursion IsNameByte w → IsParted rest → drop (inside_len (w ++ rest)) (w ++ rest) ≡ rest
left w rest h p = rw (whole_text w rest h p) (drop-append_seam w rest)

-- ---- names

word_is : (w rest : List ℕ) → AllByRecursion IsNameByte w → length w ≤ 16 → IsParted rest → word_at intel_spelling (w ++ rest) ≡ Got (word_token intel_spelling w) rest
unfolding word_at
word_is w rest h le p = rw (taken w rest h p, left w rest h p, le-ltb 16 (length w) le) refl

-- a capital letter
abbrev pub IsCapital : ℕ → Type 0
IsCapital b = (65 ≤ b) × (b ≤ 90)

begins_word : (b : ℕ) (bytes : List ℕ) → IsCapital b → token_at intel_spelling b bytes ≡ word_at intel_spelling (b ∷ bytes)
unfolding token_at
begins_word b bytes h =
    let high : is_digit b ≡ false = grind (arith, nat_tests) in
    rw (ne_eqb b 39 (λ e. omega arith), high, le-leb 65 b h.0, le-leb b 90 h.1) refl

no_blank : (b : ℕ) → IsNameByte b → is_blank b ≡ false
no_blank b h = grind (arith, nat_tests)

no_comment : (b : ℕ) → IsNameByte b → b ≢ 59
no_comment b (inl h) e = omega arith
no_comment b (inr h) e = omega arith

pub name_lexeme : (b : ℕ) (w : List ℕ) → IsCapital b → AllByRecursion IsNameByte w → length w ≤ 15 → Lexeme (b ∷ w) (word_token intel_spelling (b ∷ w))
name_lexeme b w h hs le =
    let all : AllByRecursion IsNameByte (b ∷ w) = (inr h, hs) in
    record {
      lexes = λ rest ts p x. token (no_blank b (inr h)) (no_comment b (inr h)) (begins_word b (w ++ rest) h ∙ word_is (b ∷ w) rest all (omega arith) p) x;
      ink = each_by IsNameByte IsInk ink_of_name (b ∷ w) all;
      short = omega arith;
    }

-- ---- numbers

each_below : (cs : List ℕ) → AllByRecursion IsDigit cs → list_all (λ c. nat_lt (digit_of c) 10) cs ≡ true
each_below [] h = refl
each_below (c ∷ cs) h = rw (le-leb 48 c h.0.0, le-leb c 57 h.0.1, lt-ltb (c - 48) 10 (omega arith)) (each_below cs h.1)

each_digit : (cs : List ℕ) → AllByRecursion IsDigit cs → list_all is_digit cs ≡ true
each_digit [] h = refl
each_digit (c ∷ cs) h = rw (le-leb 48 c h.0.0, le-leb c 57 h.0.1) (each_digit cs h.1)

no_base : (c : ℕ) → IsDigit c → base_named c ≡ None
no_base c h = rw (ne_eqb c 66 (λ e. omega arith), ne_eqb c 79 (λ e. omega arith), ne_eqb c 81 (λ e. omega arith), ne_eqb c 68 (λ e. omega arith), ne_eqb c 72 (λ e. omega arith)) refl

value_is : (cs : List ℕ) (n : ℕ) → AllByRecursion IsDigit cs → total 10 cs ≡ n → n < 65536 → value_in 10 cs ≡ Some n
unfolding value_in
value_is cs n h e lt = rw (each_below cs h, e, le-leb n 65535 (omega arith)) refl

number_is : (cs : List ℕ) (n : ℕ) → AllByRecursion IsDigit cs → 0 < length cs → total 10 cs ≡ n → n < 65536 → number_of cs ≡ Some n
unfolding number_of
number_is cs n h some e lt = rw (no_base (get_or cs (length cs - 1) 0) (each_last IsDigit cs some h)) (value_is cs n h e lt)

number_found_at : (cs rest : List ℕ) (n : ℕ) → AllByRecursion IsNameByte cs → number_of cs ≡ Some n → IsParted rest → number_at (cs ++ rest) ≡ Got (number_token cs n) rest
unfolding number_at
number_found_at cs rest n h e p = rw (taken cs rest h p, left cs rest h p, e) refl

begins_number : (b : ℕ) (bytes : List ℕ) → IsDigit b → token_at intel_spelling b bytes ≡ number_at (b ∷ bytes)
unfolding token_at
begins_number b bytes h = rw (ne_eqb b 39 (λ e. omega arith), le-leb 48 b h.0, le-leb b 57 h.1) refl

-- a number, in whatever base
pub number_lexeme : (b : ℕ) (cs : List ℕ) (n : ℕ) → IsDigit b → AllByRecursion IsNameByte cs → length cs ≤ 15 → number_of (b ∷ cs) ≡ Some n → Lexeme (b ∷ cs) (number_token (b ∷ cs) n)
number_lexeme b cs n h hs le e =
    let all : AllByRecursion IsNameByte (b ∷ cs) = (inl h, hs) in
    record {
      lexes = λ rest ts p x. token (no_blank b (inl h)) (no_comment b (inl h)) (begins_number b (cs ++ rest) h ∙ number_found_at (b ∷ cs) rest n all e p) x;
      ink = each_by IsNameByte IsInk ink_of_name (b ∷ cs) all;
      short = omega arith;
    }

-- a number of digits alone
pub digits_lexeme : (cs : List ℕ) (n : ℕ) → AllByRecursion IsDigit cs → 0 < length cs → length cs ≤ 16 → total 10 cs ≡ n → n < 65536 → Lexeme cs (Digits n)
digits_lexeme [] n h some le e lt = absurd (omega arith)
digits_lexeme (b ∷ cs) n h some le e lt =
    let is : number_token (b ∷ cs) n ≡ Digits n = rw (each_digit (b ∷ cs) h) refl in
    subst (Lexeme (b ∷ cs)) is (number_lexeme b cs n h.0 (each_by IsDigit IsNameByte name_of_digit cs h.1) (omega arith) (number_is (b ∷ cs) n h some e lt))
