-- The tokens of a line are in range: their numbers are words, and the characters of their strings bytes.
use Rattle.std.proofs.Common.{◌≡◌, ℕ, ◌-◌, ◌<◌, ◌==◌, nat_le, nat_lt, ◌&&◌, ◌||◌, if◌then◌else◌, Bool, true, false, List, [], ◌∷◌, length, take, drop, slice_index, codes, Option, Some, None, refl, arith}
use Rattle.std.specs.List.{list_all}
use Rattle.std.specs.Str.{bytes_eq}
use Rattle.std.proofs.lemmas.Bool.{and_parts, leb-true}
use Rattle.asm80_text.specs.declared.token.Token.{Token}
use Rattle.asm80_text.specs.declared.token.Token.TheVariants.{Digits, Num, Here, Word, Register, Operation, Text, Op, Not, Open, Close, Comma, Colon, Bang, Stray}
use Rattle.asm80_types.specs.declared.expr.Two.TheVariants.{Mul, Div, Mod, Shl, Shr, Add, Sub, And, Or, Xor}
use Rattle.asm80_types.specs.declared.fault.LineRule.TheVariants as rules
use Rattle.asm80_text.specs.Letters.{is_digit, is_upper, is_lower, is_printable, significant, inside_len}
use Rattle.asm80_text.specs.Numbers.{base_named, digit_of, total, value_in, value_with, number_of}
use Rattle.asm80_text.specs.Spelling.{Spelling}
use Rattle.asm80_text.specs.Words.{name_token, word_token}
use Rattle.asm80_text.specs.Strings.{quoted}
use Rattle.asm80_text.specs.Tokens.{Scanned, Got, Bad, number_found, number_at, word_at, text_token, string_found, string_at, sign_token, token_at}
use Rattle.asm80_text.specs.Small.{IsSmall}
use Rattle.asm80_types.specs.Ranges.{AreBytes}

-- ---- tokens

abbrev pub GotSmall : Scanned → Type 0
GotSmall (Got t rest) = IsSmall t
GotSmall (Bad r) = Unit {0}

chosen : (b : Bool) (x y : Scanned) → GotSmall x → GotSmall y → GotSmall (if b then x else y)
chosen true x y h k = h
chosen false x y h k = k

chosen_token : (b : Bool) (x y : Token) → IsSmall x → IsSmall y → IsSmall (if b then x else y)
chosen_token true x y h k = h
chosen_token false x y h k = k

-- a number
abbrev SmallOption : Option ℕ → Type 0
SmallOption None = Unit {0}
SmallOption (Some n) = n < 0x10000

value_small : (base : ℕ) (cs : List ℕ) → SmallOption (value_in base cs)
unfolding value_in
value_small base cs = by (list_all (λ c. nat_lt (digit_of c) base) cs) (nat_le (total base cs) 65535) refl
  where
    by : (x y : Bool) → nat_le (total base cs) 65535 ≡ y → SmallOption (if x && y then Some (total base cs) else None)
    by true true e = omega (arith, leb-true (total base cs) 65535 e)
    by true false e = tt
    by false y e = tt

value_with_small : (cs : List ℕ) (o : Option ℕ) → SmallOption (value_with cs o)
value_with_small cs None = value_small 10 cs
value_with_small cs (Some base) = value_small base (take (length cs - 1) cs)

number_small : (cs : List ℕ) → SmallOption (number_of cs)
unfolding number_of
number_small cs = value_with_small cs (base_named (slice_index cs (length cs - 1)))

number_found_small : (cs rest : List ℕ) (o : Option ℕ) → SmallOption o → GotSmall (number_found cs rest o)
number_found_small cs rest None h = tt
number_found_small cs rest (Some n) h = chosen_token (list_all is_digit cs) (Digits n) (Num n) h h

number_at_small : (bytes : List ℕ) → GotSmall (number_at bytes)
unfolding number_at
number_at_small bytes =
    let cs = significant (take (inside_len bytes) bytes) in
    number_found_small cs (drop (inside_len bytes) bytes) (number_of cs) (number_small cs)

-- a word
word_small : (s : Spelling) (name : List ℕ) → IsSmall (word_token s name)
unfolding word_token
word_small s name =
    chosen_token (bytes_eq name (codes "MOD")) (Op Mod) _ tt
    (chosen_token (bytes_eq name (codes "SHL")) (Op Shl) _ tt
    (chosen_token (bytes_eq name (codes "SHR")) (Op Shr) _ tt
    (chosen_token (bytes_eq name (codes "AND")) (Op And) _ tt
    (chosen_token (bytes_eq name (codes "OR")) (Op Or) _ tt
    (chosen_token (bytes_eq name (codes "XOR")) (Op Xor) _ tt
    (chosen_token (bytes_eq name (codes "NOT")) Not (name_token s name) tt
    (chosen_token (s.is_operation name) (Operation name) _ tt
    (chosen_token (s.is_register name) (Register name) (Word name) tt tt))))))))

word_at_small : (s : Spelling) (bytes : List ℕ) → GotSmall (word_at s bytes)
unfolding word_at
word_at_small s bytes =
    let name = significant (take (inside_len bytes) bytes) in
    chosen (nat_lt 16 (length name)) (Bad rules.L4) (Got (word_token s name) (drop (inside_len bytes) bytes)) tt (word_small s name)

-- a string
printable_bytes : (bytes : List ℕ) → list_all is_printable bytes ≡ true → AreBytes bytes
printable_bytes [] h = tt
printable_bytes (b ∷ bytes) h =
    let split = and_parts (is_printable b) (list_all is_printable bytes) h in
    let low = and_parts (nat_le 32 b) (nat_le b 126) split.0 in
    (omega (arith, leb-true b 126 low.1), printable_bytes bytes split.1)

first_byte : (bytes : List ℕ) → AreBytes bytes → slice_index bytes 0 < 0x10000
first_byte [] h = omega arith
first_byte (b ∷ bytes) h = omega (arith, h.0)

string_found_small : (o : Option (List ℕ × List ℕ)) → GotSmall (string_found o)
string_found_small None = tt
string_found_small (Some p) = by (length p.0 == 0 || nat_lt 64 (length p.0)) (list_all is_printable p.0) refl
  where
    by : (x y : Bool) → list_all is_printable p.0 ≡ y → GotSmall (if x then Bad rules.L3 else (if y then Got (text_token p.0) p.1 else Bad rules.L1))
    by true y e = tt
    by false false e = tt
    by false true e =
        let small = printable_bytes p.0 e in
        chosen_token (length p.0 == 1) (Num (slice_index p.0 0)) (Text p.0) (first_byte p.0 small) small

string_small : (bytes : List ℕ) → GotSmall (string_at bytes)
unfolding string_at
string_small bytes = string_found_small (quoted bytes)

sign_small : (b : ℕ) → IsSmall (sign_token b)
sign_small b =
    chosen_token (b == 43) (Op Add) _ tt
    (chosen_token (b == 45) (Op Sub) _ tt
    (chosen_token (b == 42) (Op Mul) _ tt
    (chosen_token (b == 47) (Op Div) _ tt
    (chosen_token (b == 40) Open _ tt
    (chosen_token (b == 41) Close _ tt
    (chosen_token (b == 44) Comma _ tt
    (chosen_token (b == 58) Colon _ tt
    (chosen_token (b == 36) Here _ tt
    (chosen_token (b == 33) Bang Stray tt tt)))))))))

pub token_small : (s : Spelling) (b : ℕ) (bytes : List ℕ) → GotSmall (token_at s b bytes)
unfolding token_at
token_small s b bytes =
    chosen (b == 39) _ _ (string_small bytes)
    (chosen (is_digit b) _ _ (number_at_small (b ∷ bytes))
    (chosen (is_upper b || is_lower b) _ _ (word_at_small s (b ∷ bytes))
    (chosen (is_printable b) (Got (sign_token b) bytes) (Bad rules.L1) (sign_small b) tt)))
