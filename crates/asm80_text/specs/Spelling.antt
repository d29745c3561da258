-- How a source is spelt: its reserved words, and the form of its statements. Lines, labels, numbers, strings, expressions and the
-- rules of lines are the same in each spelling, and so are the operators MOD, SHL, SHR, AND, OR, XOR and NOT; a word may be both
-- an operator within an operand and an operation where a statement has its operation.
use Rattle.std.specs.Prelude.{ℕ, List, Bool}
use Rattle.asm80_types.specs.Tree.{Operand}
use Rattle.asm80_text.specs.declared.token.Token.{Token}

pub record Spelling : Type 1 where
  -- whether a word is an operation where a statement has its operation
  pub is_operation : List ℕ → Bool
  -- whether a word is reserved that is neither an operation nor an operator, as the name of a register is
  pub is_register : List ℕ → Bool
  -- forms word tokens operation operands: that word as the operation, with those tokens after it, is this operation of a statement
  -- with these operands
  pub forms : List ℕ → List Token → List ℕ → List Operand → Type 0
