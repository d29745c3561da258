-- The grammar of statements (CP/M 2.2 Operating System Manual, the assembler, "Program format"; the rules on which
-- words are a label, and on what an operand is, are this project's). Which words are operations, and what an operation's tokens
-- are, is a matter of the spelling.
use Rattle.std.specs.Prelude.{◌≡◌, ℕ, List, [], ◌∷◌, ◌++◌, Option, Some, None}
use Rattle.asm80_types.specs.Tree.{Tree, Operand, String, Whole, Statement}
use Rattle.asm80_text.specs.declared.token.Token.{Token}
use Rattle.asm80_text.specs.declared.token.Token.TheVariants.{Digits, Word, Text, Comma, Colon}
use Rattle.asm80_text.specs.Spelling.{Spelling}
use Rattle.asm80_text.specs.Words.{as_operation}
use Rattle.asm80_text.specs.Grammar.{Spells}

-- an operand at the front of the tokens, and the tokens behind it: a string of two or more characters, or an expression
pub data IsOperand : List Token → Operand → List Token → Type 0 where
  text : {bytes : List ℕ} {rest : List Token} → IsOperand (Text bytes ∷ rest) (String bytes) rest
  value : {ts rest : List Token} {e : Tree} → Spells 5 ts e rest → IsOperand ts (Whole e) rest

-- the tokens are operands with commas between them
pub data AreOperands : List Token → List Operand → Type 0 where
  last : {ts : List Token} {a : Operand} → IsOperand ts a [] → AreOperands ts (a ∷ [])
  more : {ts rest : List Token} {a : Operand} {others : List Operand} → IsOperand ts a (Comma ∷ rest) → AreOperands rest others → AreOperands ts (a ∷ others)

-- the tokens are a list of operands, which may have none
pub data HasOperands : List Token → List Operand → Type 0 where
  bare : HasOperands [] []
  full : {ts : List Token} {args : List Operand} → AreOperands ts args → HasOperands ts args

-- an operation with its operands, or nothing
pub data IsBody (s : Spelling) : List Token → Option (List ℕ) → List Operand → Type 0 where
  nothing : IsBody s [] None []
  operated : {t : Token} {ts : List Token} {word op : List ℕ} {args : List Operand} → as_operation s t ≡ Some word → s.forms word ts op args → IsBody s (t ∷ ts) (Some op) args

-- a label, if there is one, and what follows it; the colon behind a label is optional
pub data IsLabeled (s : Spelling) : List Token → Option (List ℕ) → Option (List ℕ) → List Operand → Type 0 where
  unlabeled : {ts : List Token} {op : Option (List ℕ)} {args : List Operand} → IsBody s ts op args → IsLabeled s ts None op args
  labeled : {name : List ℕ} {ts : List Token} {op : Option (List ℕ)} {args : List Operand} → IsBody s ts op args → IsLabeled s (Word name ∷ ts) (Some name) op args
  with_colon : {name : List ℕ} {ts : List Token} {op : Option (List ℕ)} {args : List Operand} → IsBody s ts op args → IsLabeled s (Word name ∷ Colon ∷ ts) (Some name) op args

-- IsStatement spelling tokens label operation operands: all of the tokens are this statement.
-- A line number is a number of digits alone, and has no effect.
pub data IsStatement (s : Spelling) : List Token → Option (List ℕ) → Option (List ℕ) → List Operand → Type 0 where
  unnumbered : {ts : List Token} {label op : Option (List ℕ)} {args : List Operand} → IsLabeled s ts label op args → IsStatement s ts label op args
  numbered : {n : ℕ} {ts : List Token} {label op : Option (List ℕ)} {args : List Operand} → IsLabeled s ts label op args → IsStatement s (Digits n ∷ ts) label op args

-- the same, of the line of a number
pub record IsStatementOf (spelling : Spelling) (line : ℕ) (ts : List Token) (s : Statement) : Type 0 where
  pub numbers : s.line ≡ line
  pub words : IsStatement spelling ts s.label s.op s.args

abbrev pub kept_by : Statement → Option (List ℕ) → Option (List ℕ) → List Statement
kept_by s None None = []
kept_by s None (Some op) = s ∷ []
kept_by s (Some label) op = s ∷ []

-- an empty statement, with neither label nor operation, is left out
abbrev pub kept : Statement → List Statement
kept s = kept_by s s.label s.op

-- these lists of tokens are, each for itself, the statements of the line of a number, without the empty ones
pub data AreStatements (spelling : Spelling) : ℕ → List (List Token) → List Statement → Type 0 where
  none_left : {line : ℕ} → AreStatements spelling line [] []
  next : {line : ℕ} {ts : List Token} {parts : List (List Token)} {s : Statement} {others : List Statement} → IsStatementOf spelling line ts s → AreStatements spelling line parts others → AreStatements spelling line (ts ∷ parts) (kept s ++ others)
