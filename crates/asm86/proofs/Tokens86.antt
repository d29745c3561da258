-- Each line of an ASM-86 text has tokens up to its end or the first place that has none.
use Rattle.std.proofs.Common.{◌≡◌, ◌≢◌, ℕ, suc, zero, ◌+◌, ◌≤◌, ◌<◌, List, [], ◌∷◌, length, take, drop, Bool, true, false, cond, Option, Some, None, refl, arith, inl, inr}
use Rattle.std.specs.List.{prefix_len}
use Rattle.std.proofs.lemmas.Bool.{cases_Bool, cases_eq}
use Rattle.std.proofs.lemmas.List.{length-drop}
use Rattle.asm86_line_reader.specs.declared.token.Token.{Token}
use Rattle.asm86_line_reader.specs.Letters.{is_blank, is_inside, sign_of, inside_len}
use Rattle.asm86_line_reader.specs.Words.{word_token}
use Rattle.asm86_line_reader.specs.Tokens.{found_before, token_at, Lexes, ends, comment, blank, token, faulty}

-- a token leaves fewer bytes than this
abbrev Leaves : ℕ → Option (Token × List ℕ) → Type 0
Leaves n None = Unit {0}
Leaves n (Some p) = length p.1 < n

found_leaves : (n : ℕ) (rest : List ℕ) (t : Option Token) → length rest < n → Leaves n (found_before rest t)
found_leaves n rest None h = tt
found_leaves n rest (Some t) h = h

leaves_where : (n : ℕ) (b : Bool) (x y : Option (Token × List ℕ)) → (b ≡ true → Leaves n x) → Leaves n y → Leaves n (cond b x y)
leaves_where n true x y h k = h refl
leaves_where n false x y h k = k

-- a first byte that belongs to a word is not left
inside_leaves : (b : ℕ) (bytes : List ℕ) → is_inside b ≡ true → length (drop (inside_len (b ∷ bytes)) (b ∷ bytes)) < length (b ∷ bytes)
inside_leaves b bytes e =
    let h : length (drop (1 + prefix_len is_inside bytes) (b ∷ bytes)) < length (b ∷ bytes) = omega (arith, length-drop (1 + prefix_len is_inside bytes) (b ∷ bytes)) in
    rw e h

token_leaves : (b : ℕ) (bytes : List ℕ) → Leaves (length (b ∷ bytes)) (token_at (b ∷ bytes))
unfolding token_at
token_leaves b bytes =
    leaves_where _ (is_inside b) _ _
    (λ e. found_leaves _ _ (word_token (take (inside_len (b ∷ bytes)) (b ∷ bytes))) (inside_leaves b bytes e))
    (found_leaves _ bytes (sign_of b) (omega arith))

pub record Lexed (bytes : List ℕ) : Type 0 where
  pub tokens : List Token
  pub sound : Bool
  pub lexes : Lexes bytes tokens sound

-- a line that begins with a token or with none, where every shorter line has its tokens
front_lexed : (b : ℕ) (bytes : List ℕ) → is_blank b ≡ false → b ≢ 0x3B → ((rest : List ℕ) → length rest ≤ length bytes → Lexed rest) → (x : Option (Token × List ℕ)) → token_at (b ∷ bytes) ≡ x → Leaves (length (b ∷ bytes)) x → Lexed (b ∷ bytes)
front_lexed b bytes e ne shorter (Some p) is h =
    let l = shorter p.1 (omega (arith, h)) in record { tokens = p.0 ∷ l.tokens; sound = l.sound; lexes = token e ne is l.lexes }
front_lexed b bytes e ne shorter None is h = record { tokens = []; sound = false; lexes = faulty e ne is }

lexed_to : (n : ℕ) (bytes : List ℕ) → length bytes ≤ n → Lexed bytes
lexed_to n [] le = record { tokens = []; sound = true; lexes = ends }
lexed_to zero (b ∷ bytes) le = absurd (omega (arith, le))
lexed_to (suc n) (b ∷ bytes) le = elim (cases_Bool (is_blank b)) [
  | inl e ↦ let l = lexed_to n bytes (omega (arith, le)) in record { tokens = l.tokens; sound = l.sound; lexes = blank e l.lexes }
  | inr e ↦ elim (cases_eq b 0x3B) [
    | inl q ↦ rw q (record { tokens = []; sound = true; lexes = comment })
    | inr ne ↦ front_lexed b bytes e ne (λ rest k. lexed_to n rest (omega (arith, le, k))) (token_at (b ∷ bytes)) refl (token_leaves b bytes)
  ]
]

pub lexed : (bytes : List ℕ) → Lexed bytes
lexed bytes = lexed_to (length bytes) bytes (omega arith)
