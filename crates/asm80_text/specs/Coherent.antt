-- What a spelling is like by which statements are read that can be assembled, and in one way.
use Rattle.std.specs.Prelude.{◌≡◌, ℕ, List, true, false, All}
use Rattle.std.specs.List.{AllByRecursion}
use Rattle.asm80_types.specs.Tree.{Operand}
use Rattle.asm80_types.specs.Words.{is_operation, is_register}
use Rattle.asm80_types.specs.WellFormed.{IsLawfulOperand}
use Rattle.asm80_types.specs.Ranges.{IsInRange}
use Rattle.asm80_text.specs.declared.token.Token.{Token}
use Rattle.asm80_text.specs.Spelling.{Spelling}
use Rattle.asm80_text.specs.Tokens.{IsLawful}
use Rattle.asm80_text.specs.Small.{AreSmall}

pub record IsCoherent (s : Spelling) : Type 0 where
  -- what may be a label is no register of statements
  pub labels : (name : List ℕ) → s.is_register name ≡ false → is_register name ≡ false
  -- what has a form is an operation of statements, with operands that they may have
  pub lawful : (word op : List ℕ) (ts : List Token) (args : List Operand) → s.is_operation word ≡ true → All (IsLawful s) ts → s.forms word ts op args → (is_operation op ≡ true) × All IsLawfulOperand args
  -- and whose numbers are words and whose strings have bytes, where those of the tokens are
  pub ranged : (word op : List ℕ) (ts : List Token) (args : List Operand) → AreSmall ts → s.forms word ts op args → AllByRecursion IsInRange args
  -- a word and the tokens after it have one form
  pub one : (word : List ℕ) (ts : List Token) (op other : List ℕ) (args others : List Operand) → s.forms word ts op args → s.forms word ts other others → (op ≡ other) × (args ≡ others)
