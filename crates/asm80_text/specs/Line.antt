-- What a line gives: its statements, or the rule that it breaks.
use Rattle.std.specs.Prelude.{◌≡◌, ℕ, ◌+◌, ◌-◌, ◌<◌, ◌≤◌, max, List, [], ◌∷◌, Bool, true, false, Option, Some, None, is_some, Result, Ok, Err, length, nat_lt, if◌then◌else◌}
use Rattle.std.specs.List.{slice_split, list_any}
use Rattle.asm80_types.specs.declared.expr.Two.{Two}
use Rattle.asm80_types.specs.declared.expr.Two.TheVariants.{Mul, Div, Add, Sub}
use Rattle.asm80_types.specs.declared.fault.LineRule.{LineRule}
use Rattle.asm80_types.specs.declared.fault.LineRule.TheVariants as rules
use Rattle.asm80_text.specs.declared.token.Token.{Token}
use Rattle.asm80_text.specs.declared.token.Token.TheVariants.{Digits, Register, Operation, Op, Not, Open, Close, Colon, Bang}
use Rattle.asm80_types.specs.Tree.{Statement}
use Rattle.asm80_text.specs.Spelling.{Spelling}
use Rattle.asm80_text.specs.Words.{as_operation}
use Rattle.asm80_text.specs.Tokens.{Lexes}
use Rattle.asm80_text.specs.Statement.{AreStatements}

-- ---- the statements of a line

abbrev pub is_bang : Token → Bool
is_bang Bang = true
is_bang _ = false

-- the tokens between the ! of a line, of one statement each
abbrev pub parts_of : List Token → List (List Token)
parts_of ts = slice_split is_bang ts

-- ---- L4: a reserved name as a label

-- whether an operator is a name, as MOD is
abbrev pub is_name : Two → Bool
is_name Mul = false
is_name Div = false
is_name Add = false
is_name Sub = false
is_name _ = true

abbrev pub begins_with_colon : List Token → Bool
begins_with_colon (Colon ∷ ts) = true
begins_with_colon _ = false

-- whether a token is a reserved name: an operation, an operator, a register or the like
abbrev pub is_reserved : Token → Bool
is_reserved (Register name) = true
is_reserved (Operation name) = true
is_reserved (Op o) = is_name o
is_reserved Not = true
is_reserved _ = false

-- The first name of a statement is its label, unless it is an operation that no colon follows.
abbrev pub begins_with_reserved : Spelling → List Token → Bool
begins_with_reserved s [] = false
begins_with_reserved s (t ∷ ts) = if is_some (as_operation s t) then begins_with_colon ts else is_reserved t

-- a label stands first, or behind a line number
abbrev pub has_reserved_label : Spelling → List Token → Bool
has_reserved_label s (Digits n ∷ ts) = begins_with_reserved s ts
has_reserved_label s ts = begins_with_reserved s ts

-- ---- L6: parentheses

-- how many are open after one more token; a closing one with none open closes none
abbrev pub open_after : ℕ → Token → ℕ
open_after n Open = n + 1
open_after n Close = n - 1
open_after n _ = n

-- the most that are open at one point of the tokens, of which n are open before them
unfoldable pub most_open : ℕ → List Token → ℕ
most_open n [] = n
most_open n (t ∷ ts) = max n (most_open (open_after n t) ts)

abbrev pub is_deep : List Token → Bool
is_deep ts = nat_lt 16 (most_open 0 ts)

-- ---- the order of the rules

-- what statements without a fault of L1 to L4 give: L6 comes before L5
pub data PartsGive (s : Spelling) : ℕ → List (List Token) → Result (List Statement) LineRule → Type 0 where
  deep : {n : ℕ} {parts : List (List Token)} → list_any is_deep parts ≡ true → PartsGive s n parts (Err rules.L6)
  malformed : {n : ℕ} {parts : List (List Token)} → list_any is_deep parts ≡ false → ((ss : List Statement) → AreStatements s n parts ss → ⊥) → PartsGive s n parts (Err rules.L5)
  formed : {n : ℕ} {parts : List (List Token)} {ss : List Statement} → list_any is_deep parts ≡ false → AreStatements s n parts ss → PartsGive s n parts (Ok ss)

-- What statements up to the first token with a fault, and that fault, give: of L1 to L4 the first place in the line
-- decides, so a reserved label before that token comes first.
pub data TextGives (s : Spelling) : ℕ → List (List Token) → Option LineRule → Result (List Statement) LineRule → Type 0 where
  reserved : {n : ℕ} {parts : List (List Token)} {f : Option LineRule} → list_any (has_reserved_label s) parts ≡ true → TextGives s n parts f (Err rules.L4)
  faulty : {n : ℕ} {parts : List (List Token)} {r : LineRule} → list_any (has_reserved_label s) parts ≡ false → TextGives s n parts (Some r) (Err r)
  sound : {n : ℕ} {parts : List (List Token)} {r : Result (List Statement) LineRule} → list_any (has_reserved_label s) parts ≡ false → PartsGive s n parts r → TextGives s n parts None r

-- a comment line
abbrev pub IsRemark : List ℕ → Type 0
IsRemark [] = ⊥
IsRemark (b ∷ bytes) = b ≡ 42

-- what the line of a number gives
pub data LineGives (s : Spelling) : ℕ → List ℕ → Result (List Statement) LineRule → Type 0 where
  late : {n : ℕ} {line : List ℕ} → 32768 < n → LineGives s n line (Err rules.L8)
  long : {n : ℕ} {line : List ℕ} → n ≤ 32768 → 255 < length line → LineGives s n line (Err rules.L7)
  remark : {n : ℕ} {line : List ℕ} → n ≤ 32768 → length line ≤ 255 → IsRemark line → LineGives s n line (Ok [])
  told : {n : ℕ} {line : List ℕ} {ts : List Token} {f : Option LineRule} {r : Result (List Statement) LineRule} → n ≤ 32768 → length line ≤ 255 → (IsRemark line → ⊥) → Lexes s line ts f → TextGives s n (parts_of ts) f r → LineGives s n line r
