-- The tokens of a line in capitals (CP/M-86 Programmer's Guide, "Tokens and Separators").
use Rattle.std.specs.Prelude.{◌≡◌, ◌≢◌, ℕ, cond, List, [], ◌∷◌, Bool, true, false, Option, Some, None, take, drop}
use Rattle.asm86_line_reader.specs.declared.token.Token.{Token}
use Rattle.asm86_line_reader.specs.Letters.{is_blank, is_inside, sign_of, inside_len}
use Rattle.asm86_line_reader.specs.Words.{word_token}

-- a token and the bytes behind it, where there is one
abbrev pub found_before : List ℕ → Option Token → Option (Token × List ℕ)
found_before rest None = None
found_before rest (Some t) = Some (t, rest)

-- What stands at the front of bytes that begin with no blank and no comment: the longest word, or a sign, and what is
-- behind it. There is none where a byte may not stand there, or where a word that begins with a digit is no number.
unfoldable pub token_at : List ℕ → Option (Token × List ℕ)
token_at [] = None
token_at (b ∷ bytes) =
    cond (is_inside b)
    (found_before (drop (inside_len (b ∷ bytes)) (b ∷ bytes)) (word_token (take (inside_len (b ∷ bytes)) (b ∷ bytes))))
    (found_before bytes (sign_of b))

-- Lexes bytes tokens sound: the tokens of bytes up to their end, a comment, or the first place where there is no token;
-- they are sound where there is no such place. A comment begins with `;`, goes to the end of the line, and may hold any bytes.
pub data Lexes : List ℕ → List Token → Bool → Type 0 where
  ends : Lexes [] [] true
  comment : {bytes : List ℕ} → Lexes (0x3B ∷ bytes) [] true
  blank : {b : ℕ} {bytes : List ℕ} {ts : List Token} {sound : Bool} → is_blank b ≡ true → Lexes bytes ts sound → Lexes (b ∷ bytes) ts sound
  token : {b : ℕ} {bytes rest : List ℕ} {t : Token} {ts : List Token} {sound : Bool} → is_blank b ≡ false → b ≢ 0x3B → token_at (b ∷ bytes) ≡ Some (t, rest) → Lexes rest ts sound → Lexes (b ∷ bytes) (t ∷ ts) sound
  faulty : {b : ℕ} {bytes : List ℕ} → is_blank b ≡ false → b ≢ 0x3B → token_at (b ∷ bytes) ≡ None → Lexes (b ∷ bytes) [] false
