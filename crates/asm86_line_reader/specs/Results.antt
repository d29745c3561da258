-- What the functions return, by the definitions.
use Rattle.std.specs.Prelude.{ℕ, cond, List, Option, Some, None, true, false, Result, Ok, Err, nat_le}
use Rattle.std.specs.List.{list_all}
use Rattle.std.specs.Global.{Vec}
use Rattle.asm86_line_reader.specs.declared.token.Token.{Token}
use Rattle.asm86_line_reader.specs.Tokens.{Lexes}
use Rattle.asm86_line_types.specs.declared.line.Stmt86.{Stmt86}
use Rattle.asm86_line_types.specs.declared.line.TextRule.{TextRule}
use Rattle.asm86_line_types.specs.declared.line.TextRule.TheVariants as rules
use Rattle.asm86_line_reader.specs.declared.fault.LineFault.{LineFault}
use Rattle.asm86_line_reader.specs.declared.fault.LineFault.TheVariants.{Rule, Memory}
use Rattle.asm86_line_reader.specs.declared.items.Size.{Size}
use Rattle.asm86_line_reader.specs.declared.items.Size.TheVariants.{Byte, Word}
use Rattle.asm86_line_reader.specs.declared.token.Operand.{Operand}
use Rattle.asm86_line_reader.specs.Forms.{is_small, byte_item, word_item}

-- the tokens of bytes, or that there is a place without one
abbrev pub LexesTo : List ℕ → Option (Vec Token) → Type 0
LexesTo bytes (Some v) = Lexes bytes v.items true
LexesTo bytes None = (ts : List Token) × Lexes bytes ts false

-- a byte, unless the number is above 255
abbrev pub byte_or_m1 : ℕ → Result ℕ TextRule
byte_or_m1 n = cond (nat_le n 255) (Ok n) (Err rules.M1)

-- what is there, or M2
abbrev pub or_m2 : {X : Type 0} → Option X → Result X TextRule
or_m2 None = Err rules.M2
or_m2 (Some x) = Ok x

-- a statement with its bytes looked at
abbrev pub checked : Option Stmt86 → Result Stmt86 TextRule
checked None = Err rules.M2
checked (Some s) = cond (is_small s) (Ok s) (Err rules.M1)

-- the same of some statements
abbrev pub all_checked : Option (List Stmt86) → Result (List Stmt86) TextRule
all_checked None = Err rules.M2
all_checked (Some ss) = cond (list_all is_small ss) (Ok ss) (Err rules.M1)

-- what was read, unless memory ran out
abbrev pub AnswersLine : (Result (List Stmt86) TextRule → Type 0) → Result (Vec Stmt86) LineFault → Type 0
AnswersLine gives (Ok v) = gives (Ok v.items)
AnswersLine gives (Err Memory) = Unit {0}
AnswersLine gives (Err (Rule rule)) = gives (Err rule)

-- the item of a size
abbrev pub item_of : Size → Operand → Option Stmt86
item_of Byte o = byte_item o
item_of Word o = word_item o
