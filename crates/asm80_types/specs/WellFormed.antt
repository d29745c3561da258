-- What each statement that is read is like, so that it can be assembled.
use Rattle.std.specs.Prelude.{◌≡◌, ◌≤◌, List, [], length, true, false, IfSome, IfNone, All}
use Rattle.asm80_types.specs.declared.stmt.Stmt80.{Stmt80}
use Rattle.asm80_types.specs.Tree.{Operand, String, Whole, Statement, statement_of}
use Rattle.asm80_types.specs.Words.{is_operation, is_register}

-- a string that stands alone has 2 to 64 bytes
abbrev pub IsLawfulOperand : Operand → Type 0
IsLawfulOperand (String bytes) = (2 ≤ length bytes) × (length bytes ≤ 64)
IsLawfulOperand (Whole e) = Unit {0}

pub record IsWellFormed (s : Statement) : Type 0 where
  -- the operation is a reserved one
  pub operation : IfSome s.op (λ name. is_operation name ≡ true)
  -- without an operation there are no operands
  pub bare : IfNone s.op (s.args ≡ [])
  -- the label is no register's name
  pub label : IfSome s.label (λ name. is_register name ≡ false)
  pub operands : All IsLawfulOperand s.args

-- each of these statements is
abbrev pub AreWellFormed : List Stmt80 → Type 0
AreWellFormed statements = All (λ s. IsWellFormed (statement_of s)) statements
