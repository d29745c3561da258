-- Each line has tokens up to its end or its first fault.
use Rattle.std.proofs.Common.{◌≡◌, ◌≢◌, ℕ, suc, ◌≤◌, ◌<◌, ◌+◌, zero, ◌||◌, List, [], ◌∷◌, length, take, drop, Bool, true, false, Option, Some, None, refl, arith, inl, inr, ◌==◌, nat_lt, if◌then◌else◌}
use Rattle.std.specs.List.{list_all, prefix_len}
use Rattle.std.proofs.lemmas.Bool.{cases_Bool, cases_eq}
use Rattle.std.proofs.lemmas.List.{length-drop}
use Rattle.asm80_types.specs.declared.fault.LineRule.{LineRule}
use Rattle.asm80_text.specs.declared.token.Token.{Token}
use Rattle.asm80_text.specs.Letters.{is_digit, is_upper, is_lower, is_inside, is_printable, is_blank, inside_len, comment_len, significant}
use Rattle.asm80_text.specs.Numbers.{number_of}
use Rattle.asm80_text.specs.Strings.{with_char, quoted}
use Rattle.asm80_text.specs.Tokens.{Scanned, Got, Bad, number_found, number_at, word_at, string_found, string_at, token_at, Lexes, ends, blank, comment, token, faulty}
use Rattle.asm80_text.specs.Spelling.{Spelling}

-- ---- a token and the bytes behind it

-- what stands at the front leaves fewer bytes than this
abbrev Leaves : ℕ → Scanned → Type 0
Leaves n (Got t rest) = length rest < n
Leaves n (Bad r) = Unit {0}

leaves_choice : (n : ℕ) (b : Bool) (x y : Scanned) → Leaves n x → Leaves n y → Leaves n (if b then x else y)
leaves_choice n true x y h k = h
leaves_choice n false x y h k = k

number_leaves : (n : ℕ) (cs rest : List ℕ) (o : Option ℕ) → length rest < n → Leaves n (number_found cs rest o)
number_leaves n cs rest None h = tt
number_leaves n cs rest (Some k) h = h

-- the rest behind a string's closing quote
abbrev IsWithin : ℕ → Option (List ℕ × List ℕ) → Type 0
IsWithin n None = Unit {0}
IsWithin n (Some p) = length p.1 ≤ n

within_char : (n : ℕ) (b : ℕ) (o : Option (List ℕ × List ℕ)) → IsWithin n o → IsWithin (suc n) (with_char b o)
within_char n b None h = tt
within_char n b (Some p) h = omega (arith, h)

within_choice : (n : ℕ) (b : Bool) (x y : Option (List ℕ × List ℕ)) → IsWithin n x → IsWithin n y → IsWithin n (if b then x else y)
within_choice n true x y h k = h
within_choice n false x y h k = k

within_more : (n : ℕ) (o : Option (List ℕ × List ℕ)) → IsWithin n o → IsWithin (suc n) o
within_more n None h = tt
within_more n (Some p) h = omega (arith, h)

string_within : (bytes : List ℕ) → IsWithin (length bytes) (quoted bytes)
unfolding quoted
string_within [] = tt
string_within (b ∷ []) = within_choice 1 (b == 39) (Some ([], [])) None (omega arith) tt
string_within (b ∷ c ∷ bytes) =
    within_choice (length (b ∷ c ∷ bytes)) (b == 39) _ _
    (within_choice (length (b ∷ c ∷ bytes)) (c == 39) _ _ (within_more _ _ (within_char (length bytes) 39 (quoted bytes) (string_within bytes))) (omega arith))
    (within_char (length (c ∷ bytes)) b (quoted (c ∷ bytes)) (string_within (c ∷ bytes)))

string_leaves : (n : ℕ) (o : Option (List ℕ × List ℕ)) → IsWithin n o → Leaves (suc n) (string_found o)
string_leaves n None h = tt
string_leaves n (Some p) h = leaves_choice (suc n) (length p.0 == 0 || nat_lt 64 (length p.0)) _ _ tt (leaves_choice (suc n) (list_all is_printable p.0) _ _ (omega (arith, h)) tt)

-- a first byte that belongs to a name or a number is not left
inside_leaves : (b : ℕ) (bytes : List ℕ) → is_inside b ≡ true → length (drop (inside_len (b ∷ bytes)) (b ∷ bytes)) < length (b ∷ bytes)
inside_leaves b bytes e =
    let h : length (drop (1 + prefix_len is_inside bytes) (b ∷ bytes)) < length (b ∷ bytes) = omega (arith, length-drop (1 + prefix_len is_inside bytes) (b ∷ bytes)) in
    rw e h

digit_inside : (d u l s : Bool) → d ≡ true → ((d || u) || (l || s)) ≡ true
digit_inside true u l s e = refl
digit_inside false u l s e = absurd cc

letter_inside : (d u l s : Bool) → (u || l) ≡ true → ((d || u) || (l || s)) ≡ true
letter_inside true u l s e = refl
letter_inside false true l s e = refl
letter_inside false false true s e = refl
letter_inside false false false s e = absurd cc

-- by what the byte is
leaves_where : (n : ℕ) (t : Bool) (x y : Scanned) → (t ≡ true → Leaves n x) → (t ≡ false → Leaves n y) → Leaves n (if t then x else y)
leaves_where n true x y h k = h refl
leaves_where n false x y h k = k refl

module _ (spelling : Spelling) where
  module _ (b : ℕ) (bytes : List ℕ) where
    number_at_leaves : is_digit b ≡ true → Leaves (length (b ∷ bytes)) (number_at (b ∷ bytes))
    unfolding number_at
    number_at_leaves e =
        number_leaves (length (b ∷ bytes)) (significant (take (inside_len (b ∷ bytes)) (b ∷ bytes))) (drop (inside_len (b ∷ bytes)) (b ∷ bytes)) (number_of (significant (take (inside_len (b ∷ bytes)) (b ∷ bytes)))) (inside_leaves b bytes (digit_inside (is_digit b) (is_upper b) (is_lower b) (b == 36) e))

    word_at_leaves : (is_upper b || is_lower b) ≡ true → Leaves (length (b ∷ bytes)) (word_at spelling (b ∷ bytes))
    unfolding word_at
    word_at_leaves e =
        leaves_choice (length (b ∷ bytes)) (nat_lt 16 (length (significant (take (inside_len (b ∷ bytes)) (b ∷ bytes))))) _ _ tt (inside_leaves b bytes (letter_inside (is_digit b) (is_upper b) (is_lower b) (b == 36) e))

    string_at_leaves : Leaves (length (b ∷ bytes)) (string_at bytes)
    unfolding string_at
    string_at_leaves = string_leaves (length bytes) (quoted bytes) (string_within bytes)

    token_leaves : Leaves (length (b ∷ bytes)) (token_at spelling b bytes)
    unfolding token_at
    token_leaves =
        leaves_where _ (b == 39) _ _ (λ _. string_at_leaves)
        (λ _. leaves_where _ (is_digit b) _ _ number_at_leaves
        (λ _. leaves_where _ (is_upper b || is_lower b) _ _ word_at_leaves
        (λ _. leaves_choice _ (is_printable b) _ _ (omega arith) tt)))

  -- ---- the tokens of a line

  pub record Lexed (bytes : List ℕ) : Type 0 where
    pub tokens : List Token
    pub fault : Option LineRule
    pub lexes : Lexes spelling bytes tokens fault

  -- a line that begins with a token or a fault, where every shorter line has its tokens
  front_lexed : (b : ℕ) (bytes : List ℕ) → is_blank b ≡ false → b ≢ 59 → ((rest : List ℕ) → length rest ≤ length bytes → Lexed rest) → (x : Scanned) → token_at spelling b bytes ≡ x → Leaves (length (b ∷ bytes)) x → Lexed (b ∷ bytes)
  front_lexed b bytes e ne shorter (Got t rest) is h =
      let l = shorter rest (omega (arith, h)) in record { tokens = t ∷ l.tokens; fault = l.fault; lexes = token e ne is l.lexes }
  front_lexed b bytes e ne shorter (Bad r) is h = record { tokens = []; fault = Some r; lexes = faulty e ne is }

  lexed_to : (n : ℕ) (bytes : List ℕ) → length bytes ≤ n → Lexed bytes
  lexed_to n [] le = record { tokens = []; fault = None; lexes = ends }
  lexed_to zero (b ∷ bytes) le = absurd (omega (arith, le))
  lexed_to (suc n) (b ∷ bytes) le = elim (cases_Bool (is_blank b)) [
    | inl e ↦ let l = lexed_to n bytes (omega (arith, le)) in record { tokens = l.tokens; fault = l.fault; lexes = blank e l.lexes }
    | inr e ↦ elim (cases_eq b 59) [
      | inl q ↦
          let l = lexed_to n (drop (comment_len bytes) bytes) (omega (arith, le, length-drop (comment_len bytes) bytes)) in
          rw q (record { tokens = l.tokens; fault = l.fault; lexes = comment l.lexes })
      | inr ne ↦ front_lexed b bytes e ne (λ rest k. lexed_to n rest (omega (arith, le, k))) (token_at spelling b bytes) refl (token_leaves b bytes)
    ]
  ]

  pub lexed : (bytes : List ℕ) → Lexed bytes
  lexed bytes = lexed_to (length bytes) bytes (omega arith)
