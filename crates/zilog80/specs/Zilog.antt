-- Sources in Zilog's spelling: lines, labels, numbers, strings, expressions, directives and the rules of lines are those of the
-- assembler in the CP/M 2.2 Operating System Manual; the instructions are those of the table, and a statement is given in Intel's
-- spelling.
use Rattle.std.specs.Prelude.{◌≡◌, ℕ, List, [], ◌∷◌, ◌++◌, Bool, true, false, Some, Contains}
use Rattle.std.specs.List.{slice_split}
use Rattle.asm80_types.specs.Tree.{Operand}
use Rattle.asm80_types.specs.Reading.{Reading}
use Rattle.asm80_text.specs.declared.token.Token.{Token}
use Rattle.asm80_text.specs.declared.token.Token.TheVariants.{Comma}
use Rattle.asm80_text.specs.Spelling.{Spelling}
use Rattle.asm80_text.specs.Statement.{HasOperands}
use Rattle.asm80_text.specs.Stream.{StreamGives}
use Rattle.zilog80.specs.Operands.{Class, Spelt, IsSpelt, operands}
use Rattle.zilog80.specs.Table.{bare_rows, unary_rows, binary_rows}
use Rattle.zilog80.specs.Words.{is_directive, is_operation, is_register}

abbrev pub is_comma : Token → Bool
is_comma Comma = true
is_comma t = false

-- the tokens between the commas; no tokens are no operands
abbrev pub operand_parts : List Token → List (List Token)
operand_parts [] = []
operand_parts (t ∷ ts) = slice_split is_comma (t ∷ ts)

-- IsInstruction word parts operation operands: the word and its operands stand in a row of the table, which gives this operation and
-- these operands in Intel's spelling
pub data IsInstruction (word : List ℕ) : List (List Token) → List ℕ → List Operand → Type 0 where
  bare : {op : List ℕ} → Contains bare_rows (word, op) → IsInstruction word [] op []
  unary : {op : List ℕ} {ts : List Token} {args : List Operand} (c : Class) (a : Spelt) → Contains unary_rows (word, c, op) → IsSpelt ts a → operands c a ≡ Some args → IsInstruction word (ts ∷ []) op args
  binary : {op : List ℕ} {ts us : List Token} {args others : List Operand} (c d : Class) (a b : Spelt) → Contains binary_rows (word, c, d, op) → IsSpelt ts a → IsSpelt us b → operands c a ≡ Some args → operands d b ≡ Some others → IsInstruction word (ts ∷ us ∷ []) op (args ++ others)

-- a directive with its operands, or an instruction
pub data IsZilogForm (word : List ℕ) (ts : List Token) : List ℕ → List Operand → Type 0 where
  directive : {args : List Operand} → is_directive word ≡ true → HasOperands ts args → IsZilogForm word ts word args
  instruction : {op : List ℕ} {args : List Operand} → IsInstruction word (operand_parts ts) op args → IsZilogForm word ts op args

abbrev pub zilog_spelling : Spelling
zilog_spelling = record { is_operation = is_operation; is_register = is_register; forms = IsZilogForm }

-- the statements of a stream in Zilog's spelling, given in Intel's
abbrev pub zilog_reading : Reading
zilog_reading = StreamGives zilog_spelling
