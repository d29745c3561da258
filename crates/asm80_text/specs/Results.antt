-- What the functions on statements and lines return, by the definitions.
use Rattle.std.specs.Prelude.{◌≡◌, ℕ, List, ◌∷◌, ◌++◌, map, Option, Some, None, Result, Ok, Err}
use Rattle.std.specs.Borrow.{Bor}
use Rattle.std.specs.Global.{Vec}
use Rattle.asm80_types.specs.declared.arg.Arg.{Arg}
use Rattle.asm80_types.specs.declared.stmt.Stmt80.{Stmt80}
use Rattle.asm80_text.specs.declared.token.Token.{Token}
use Rattle.asm80_text.specs.declared.token.Token.TheVariants.{Digits, Word, Colon}
use Rattle.asm80_types.specs.declared.fault.LineRule.{LineRule}
use Rattle.asm80_text.specs.declared.fault.ParseFault.{ParseFault}
use Rattle.asm80_text.specs.declared.fault.ParseFault.TheVariants as parse
use Rattle.asm80_types.specs.declared.fault.ReadFault.{ReadFault}
use Rattle.asm80_types.specs.declared.fault.ReadFault.TheVariants as read
use Rattle.asm80_types.specs.Tree.{Operand, operand_of, Statement, statement_of}
use Rattle.asm80_text.specs.Spelling.{Spelling}
use Rattle.asm80_text.specs.Grammar.{Ends}
use Rattle.asm80_text.specs.Statement.{IsOperand, AreOperands, HasOperands, IsBody, IsStatementOf, kept, AreStatements}
use Rattle.asm80_text.specs.Line.{TextGives, LineGives}

-- an operand and its rest, and no other up to where an expression cannot go on
pub record SureOperand (ts : List Token) (a : Operand) (rest : List Token) : Type 0 where
  pub holds : IsOperand ts a rest
  pub only : (b : Operand) (r : List Token) → IsOperand ts b r → Ends 5 r → (a ≡ b) × (rest ≡ r)

abbrev pub GivesOperand : List Token → Result (Arg × Bor (List Token)) ParseFault → Type 0
GivesOperand ts (Ok x) = SureOperand ts (operand_of x.0) x.1.now
GivesOperand ts (Err parse.Memory) = Unit {0}
GivesOperand ts (Err parse.Malformed) = (b : Operand) (r : List Token) → IsOperand ts b r → Ends 5 r → ⊥

abbrev pub GivesOperands : List Token → Result (Vec Arg) ParseFault → Type 0
GivesOperands ts (Ok v) = AreOperands ts (map operand_of v.items)
GivesOperands ts (Err parse.Memory) = Unit {0}
GivesOperands ts (Err parse.Malformed) = (args : List Operand) → AreOperands ts args → ⊥

abbrev pub GivesOperandList : List Token → Result (Vec Arg) ParseFault → Type 0
GivesOperandList ts (Ok v) = HasOperands ts (map operand_of v.items)
GivesOperandList ts (Err parse.Memory) = Unit {0}
GivesOperandList ts (Err parse.Malformed) = (args : List Operand) → HasOperands ts args → ⊥

abbrev pub GivesBody : Spelling → List Token → Result (Option (List ℕ) × Vec Arg) ParseFault → Type 0
GivesBody s ts (Ok x) = IsBody s ts x.0 (map operand_of x.1.items)
GivesBody s ts (Err parse.Memory) = Unit {0}
GivesBody s ts (Err parse.Malformed) = (op : Option (List ℕ)) (args : List Operand) → IsBody s ts op args → ⊥

abbrev pub GivesStatement : Spelling → ℕ → List Token → Result Stmt80 ParseFault → Type 0
GivesStatement spelling n ts (Ok s) = IsStatementOf spelling n ts (statement_of s)
GivesStatement spelling n ts (Err parse.Memory) = Unit {0}
GivesStatement spelling n ts (Err parse.Malformed) = (s : Statement) → IsStatementOf spelling n ts s → ⊥

-- a statement was added to others, unless it is empty
abbrev pub AddsStatement : Spelling → ℕ → List Token → List Stmt80 → List Stmt80 → Result (Unit {0}) ParseFault → Type 0
AddsStatement spelling n ts old new (Ok u) = (s : Statement) × IsStatementOf spelling n ts s × ((more : List Stmt80) × (new ≡ old ++ more) × (map statement_of more ≡ kept s))
AddsStatement spelling n ts old new (Err parse.Memory) = Unit {0}
AddsStatement spelling n ts old new (Err parse.Malformed) = (new ≡ old) × ((s : Statement) → IsStatementOf spelling n ts s → ⊥)

-- the statements of parts were added to others
abbrev pub GivesStatements : Spelling → ℕ → List (List Token) → List Stmt80 → List Stmt80 → Result (Unit {0}) ParseFault → Type 0
GivesStatements s n parts old new (Ok u) = (ss : List Stmt80) × (new ≡ old ++ ss) × AreStatements s n parts (map statement_of ss)
GivesStatements s n parts old new (Err parse.Memory) = Unit {0}
GivesStatements s n parts old new (Err parse.Malformed) = (new ≡ old) × ((ss : List Statement) → AreStatements s n parts ss → ⊥)

-- the tokens without a line number at the front
abbrev pub past_number : List Token → List Token
past_number (Digits n ∷ ts) = ts
past_number ts = ts

-- the tokens without a colon at the front
abbrev pub past_colon : List Token → List Token
past_colon (Colon ∷ ts) = ts
past_colon ts = ts

-- the label at the front of the tokens, if there is one
abbrev pub label_of : List Token → Option (List ℕ)
label_of (Word name ∷ ts) = Some name
label_of ts = None

-- the tokens without a label and its colon at the front
abbrev pub past_label : List Token → List Token
past_label (Word name ∷ ts) = past_colon ts
past_label ts = ts

-- what was read of the statements of a line, which were added to others
abbrev pub ReadsText : Spelling → ℕ → List (List Token) → Option LineRule → List Stmt80 → List Stmt80 → Result (Unit {0}) ReadFault → Type 0
ReadsText s n parts f old new (Ok u) = (ss : List Stmt80) × (new ≡ old ++ ss) × TextGives s n parts f (Ok (map statement_of ss))
ReadsText s n parts f old new (Err read.Memory) = Unit {0}
ReadsText s n parts f old new (Err (read.Syntax m r)) = (m ≡ n) × (new ≡ old) × TextGives s n parts f (Err r)

-- what was read of a line, whose statements were added to others
abbrev pub ReadsLine : Spelling → ℕ → List ℕ → List Stmt80 → List Stmt80 → Result (Unit {0}) ReadFault → Type 0
ReadsLine s n line old new (Ok u) = (ss : List Stmt80) × (new ≡ old ++ ss) × LineGives s n line (Ok (map statement_of ss))
ReadsLine s n line old new (Err read.Memory) = Unit {0}
ReadsLine s n line old new (Err (read.Syntax m r)) = (m ≡ n) × (new ≡ old) × LineGives s n line (Err r)
