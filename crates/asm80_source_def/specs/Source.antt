-- A source: bytes that are a program for a top of the program area, or are refused at a line for a rule. Which statements the
-- bytes have is a reading, whatever it is; which program statements are, or for which rule they are none, knows no bytes.
use Rattle.std.specs.Prelude.{ℕ, List, Some, None}
use Rattle.asm80_types.specs.declared.fault.LineRule.{LineRule}
use Rattle.asm80_types.specs.declared.fault.ReadFault.TheVariants.{Syntax}
use Rattle.asm80_types.specs.Tree.{Statement}
use Rattle.asm80_types.specs.Reading.{Reading}
use Rattle.asm80_types.specs.Program.{Program}
use Rattle.asm80_source_def.specs.declared.rule.AsmRule.{AsmRule}
use Rattle.asm80_source_def.specs.Assembly.{IsAssembled, IsRefused}

-- the bytes are the source of a program
pub record IsSource (reading : Reading) (bytes : List ℕ) (top : ℕ) (p : Program) : Type 0 where
  pub statements : List Statement
  pub lines : reading bytes statements None
  pub program : IsAssembled statements top p

-- a rule of lines, or of names, values and layout
pub data SourceRule : Type 0 where
  OfLine : LineRule → SourceRule
  OfProgram : AsmRule → SourceRule

-- the bytes are no source, by a line and a rule
pub data IsNoSource (reading : Reading) (bytes : List ℕ) (top line : ℕ) : SourceRule → Type 0 where
  faulty : {statements : List Statement} {rule : LineRule} → reading bytes statements (Some (Syntax line rule)) → IsNoSource reading bytes top line (OfLine rule)
  refused : {statements : List Statement} {rule : AsmRule} → reading bytes statements None → IsRefused statements top line rule → IsNoSource reading bytes top line (OfProgram rule)
