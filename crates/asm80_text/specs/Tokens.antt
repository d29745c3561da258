-- The tokens of a line.
use Rattle.std.specs.Prelude.{◌≤◌, ◌≡◌, ◌≢◌, ℕ, List, [], ◌∷◌, true, false, Option, Some, None, nat_lt, ◌==◌, ◌||◌, if◌then◌else◌, length, take, drop, slice_index}
use Rattle.std.specs.List.{list_all}
use Rattle.asm80_types.specs.declared.fault.LineRule.{LineRule}
use Rattle.asm80_types.specs.declared.fault.LineRule.TheVariants as rules
use Rattle.asm80_types.specs.declared.expr.Two.TheVariants.{Mul, Div, Add, Sub}
use Rattle.asm80_text.specs.declared.token.Token.{Token}
use Rattle.asm80_text.specs.declared.token.Token.TheVariants.{Digits, Num, Here, Word, Register, Operation, Text, Op, Open, Close, Comma, Colon, Bang, Stray}
use Rattle.asm80_text.specs.Letters.{is_digit, is_upper, is_lower, is_printable, is_blank, significant, inside_len, comment_len}
use Rattle.asm80_text.specs.Spelling.{Spelling}
use Rattle.asm80_text.specs.Words.{word_token}
use Rattle.asm80_text.specs.Numbers.{number_of}
use Rattle.asm80_text.specs.Strings.{quoted}

-- what stands at the front: a token and the bytes behind it, or a fault
pub data Scanned : Type 0 where
  Got : Token → List ℕ → Scanned
  Bad : LineRule → Scanned

-- a number of digits alone may be a line number, and no other may
abbrev pub number_token : List ℕ → ℕ → Token
number_token cs n = if list_all is_digit cs then Digits n else Num n

abbrev pub number_found : List ℕ → List ℕ → Option ℕ → Scanned
number_found cs rest (Some n) = Got (number_token cs n) rest
number_found cs rest None = Bad rules.L2

-- the number that begins with a digit
unfoldable pub number_at : List ℕ → Scanned
number_at bytes =
    let cs = significant (take (inside_len bytes) bytes) in
    number_found cs (drop (inside_len bytes) bytes) (number_of cs)

-- the name that begins with a letter
unfoldable pub word_at : Spelling → List ℕ → Scanned
word_at s bytes =
    let name = significant (take (inside_len bytes) bytes) in
    let rest = drop (inside_len bytes) bytes in
    if nat_lt 16 (length name) then Bad rules.L4 else Got (word_token s name) rest

-- a string of one character is a number
abbrev pub text_token : List ℕ → Token
text_token text = if length text == 1 then Num (slice_index text 0) else Text text

abbrev pub string_found : Option (List ℕ × List ℕ) → Scanned
string_found None = Bad rules.L3
string_found (Some p) =
    if length p.0 == 0 || nat_lt 64 (length p.0) then Bad rules.L3
    else (if list_all is_printable p.0 then Got (text_token p.0) p.1 else Bad rules.L1)

-- the string whose opening quote stands before the bytes
unfoldable pub string_at : List ℕ → Scanned
string_at bytes = string_found (quoted bytes)

-- the token that a byte is which begins no name, number or string
abbrev pub sign_token : ℕ → Token
sign_token b =
    if b == 43 then Op Add else (if b == 45 then Op Sub else (if b == 42 then Op Mul else (if b == 47 then Op Div
    else (if b == 40 then Open else (if b == 41 then Close else (if b == 44 then Comma else (if b == 58 then Colon else (if b == 36 then Here else (if b == 33 then Bang else Stray)))))))))

-- the token that begins with the byte b before the bytes
unfoldable pub token_at : Spelling → ℕ → List ℕ → Scanned
token_at s b bytes =
    if b == 39 then string_at bytes
    else (if is_digit b then number_at (b ∷ bytes)
    else (if is_upper b || is_lower b then word_at s (b ∷ bytes)
    else (if is_printable b then Got (sign_token b) bytes else Bad rules.L1)))

-- Lexes spelling bytes tokens fault: these are the tokens of the bytes up to the first fault, and which fault it is.
-- Blanks and tabs part tokens. From a ; on, up to the next !, nothing is looked at.
pub data Lexes (s : Spelling) : List ℕ → List Token → Option LineRule → Type 0 where
  ends : Lexes s [] [] None
  blank : {b : ℕ} {bytes : List ℕ} {ts : List Token} {f : Option LineRule} → is_blank b ≡ true → Lexes s bytes ts f → Lexes s (b ∷ bytes) ts f
  comment : {bytes : List ℕ} {ts : List Token} {f : Option LineRule} → Lexes s (drop (comment_len bytes) bytes) ts f → Lexes s (59 ∷ bytes) ts f
  token : {b : ℕ} {bytes rest : List ℕ} {t : Token} {ts : List Token} {f : Option LineRule} → is_blank b ≡ false → b ≢ 59 → token_at s b bytes ≡ Got t rest → Lexes s rest ts f → Lexes s (b ∷ bytes) (t ∷ ts) f
  faulty : {b : ℕ} {bytes : List ℕ} {r : LineRule} → is_blank b ≡ false → b ≢ 59 → token_at s b bytes ≡ Bad r → Lexes s (b ∷ bytes) [] (Some r)

-- what each token that is read is like which is no word
abbrev pub IsLawfulSymbol : Token → Type 0
IsLawfulSymbol (Text bytes) = (2 ≤ length bytes) × (length bytes ≤ 64)
IsLawfulSymbol (Operation name) = ⊥
IsLawfulSymbol (Register name) = ⊥
IsLawfulSymbol (Word name) = ⊥
IsLawfulSymbol _ = Unit {0}

-- what each token that is read is like
abbrev pub IsLawful : Spelling → Token → Type 0
IsLawful s (Operation name) = s.is_operation name ≡ true
IsLawful s (Register name) = Unit {0}
IsLawful s (Word name) = s.is_register name ≡ false
IsLawful s t = IsLawfulSymbol t
