-- Expressions, operands and statements, without where they lie in memory.
use Rattle.std.specs.Prelude.{ℕ, List, Option, map}
use Rattle.asm80_types.specs.declared.expr.Expr.{Expr}
use Rattle.asm80_types.specs.declared.expr.Expr.TheVariants.{Num, Here, Name, Not', Neg', Two'}
use Rattle.asm80_types.specs.declared.expr.Two.{Two}
use Rattle.asm80_types.specs.declared.arg.Arg.{Arg}
use Rattle.asm80_types.specs.declared.arg.Arg.TheVariants.{Text, Value}
use Rattle.asm80_types.specs.declared.stmt.Stmt80.{Stmt80}

pub data Tree : Type 0 where
  Number : ℕ → Tree
  Place : Tree
  Named : List ℕ → Tree
  Inverted : Tree → Tree
  Negated : Tree → Tree
  Binary : Two → Tree → Tree → Tree

abbrev pub tree_of : Expr → Tree
tree_of (Num n) = Number n
tree_of Here = Place
tree_of (Name name) = Named name
tree_of (Not' p e) = Inverted (tree_of e)
tree_of (Neg' p e) = Negated (tree_of e)
tree_of (Two' op p a q b) = Binary op (tree_of a) (tree_of b)

pub data Operand : Type 0 where
  String : List ℕ → Operand
  Whole : Tree → Operand

abbrev pub operand_of : Arg → Operand
operand_of (Text bytes) = String bytes
operand_of (Value e) = Whole (tree_of e)

pub record Statement : Type 0 where
  pub line : ℕ
  pub label : Option (List ℕ)
  pub op : Option (List ℕ)
  pub args : List Operand

abbrev pub statement_of : Stmt80 → Statement
statement_of s = record { line = s.line; label = s.label; op = s.op; args = map operand_of s.args }
