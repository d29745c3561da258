-- What the file of a source is to a command.
use Rattle.std.specs.Prelude.{◌≡◌, ℕ, codes, Bool, true, false, List, Result, Ok, Err}
use Rattle.host.specs.Host.{HostState}
use Rattle.asm80_types.specs.declared.fault.LineRule.{LineRule}
use Rattle.asm80_types.specs.Tree.{Statement}
use Rattle.asm80_types.specs.Reading.{Reading}
use Rattle.asm80_text.specs.Intel.{intel_reading}
use Rattle.zilog80.specs.Zilog.{zilog_reading}
use Rattle.asm80_types.specs.Program.{Program}
use Rattle.asm80_source_def.specs.declared.rule.AsmRule.{AsmRule}
use Rattle.asm80_source_def.specs.Assembly.{IsAssembled, IsRefused}
use Rattle.asm80_source_def.specs.Source.{IsSource, IsNoSource, SourceRule, OfLine, OfProgram}
use Rattle.cmd_common.specs.declared.stop.Stop.{Stop}
use Rattle.cmd_common.specs.declared.stop.Stop.TheVariants.{SourceLine, SourceProgram}
use Rattle.cmd_common.specs.Lines.{rule_line, line_rule, asm_rule}
use Rattle.cmd_common.specs.Files.{IsWholeFile, input_limit}

-- the reading of sources that the words of a command ask for: in Zilog's spelling, or in Intel's
abbrev pub reading_of : Bool → Reading
reading_of true = zilog_reading
reading_of false = intel_reading

-- what is known of sources by a reading: bytes are the source of one program at most, are refused at one line for one rule at most, and
-- never both
pub record SourceLaw (reading : Reading) : Type 0 where
  pub program : (bytes : List ℕ) (top : ℕ) (p q : Program) → IsSource reading bytes top p → IsSource reading bytes top q → p ≡ q
  pub refusal : (bytes : List ℕ) (top m n : ℕ) (r s : SourceRule) → IsNoSource reading bytes top m r → IsNoSource reading bytes top n s → (m ≡ n) × (r ≡ s)
  pub apart : (bytes : List ℕ) (top n : ℕ) (p : Program) (r : SourceRule) → IsSource reading bytes top p → IsNoSource reading bytes top n r → ⊥

-- why the bytes give no program: they are no source, by this line and rule
pub data SourceStops (reading : Reading) (bytes : List ℕ) (top : ℕ) : Stop → Type 0 where
  of_line : {line : ℕ} {rule : LineRule} → IsNoSource reading bytes top line (OfLine rule) → SourceStops reading bytes top (SourceLine line rule)
  of_program : {line : ℕ} {rule : AsmRule} → IsNoSource reading bytes top line (OfProgram rule) → SourceStops reading bytes top (SourceProgram line rule)

-- the stop of a line and a rule, and its line, which names no file
abbrev pub stop_of_rule : ℕ → SourceRule → Stop
stop_of_rule line (OfLine rule) = SourceLine line rule
stop_of_rule line (OfProgram rule) = SourceProgram line rule

abbrev pub refusal_line : ℕ → SourceRule → List ℕ
refusal_line line (OfLine rule) = rule_line (codes "source line ") line (line_rule rule)
refusal_line line (OfProgram rule) = rule_line (codes "source line ") line (asm_rule rule)

-- what bytes are by a reading: the source of a program, or none
abbrev pub SourceGives : Reading → List ℕ → ℕ → Result Program Stop → Type 0
SourceGives reading bytes top (Ok p) = IsSource reading bytes top p
SourceGives reading bytes top (Err stop) = SourceStops reading bytes top stop

-- a whole file, and what its bytes are
pub record ReadsSource (reading : Reading) (old : HostState) (name : List ℕ) (top : ℕ) (outcome : Result Program Stop) : Type 0 where
  pub bytes : List ℕ
  pub file : IsWholeFile old name input_limit bytes
  pub gives : SourceGives reading bytes top outcome

-- what statements are: a program, or none by a rule of names, values or layout
pub data StatementsStop (statements : List Statement) (top : ℕ) : Stop → Type 0 where
  breaks : {line : ℕ} {rule : AsmRule} → IsRefused statements top line rule → StatementsStop statements top (SourceProgram line rule)

abbrev pub StatementsGive : List Statement → ℕ → Result Program Stop → Type 0
StatementsGive statements top (Ok p) = IsAssembled statements top p
StatementsGive statements top (Err stop) = StatementsStop statements top stop
