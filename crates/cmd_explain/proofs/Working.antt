-- From what the work comes to, to what the command gives.
use Rattle.std.proofs.Common.{◌∙◌, ℕ, List}
use Rattle.host.specs.Host.{HostState, SameFiles}
use Rattle.asm80_types.specs.Program.{Program}
use Rattle.asm86_line_types.specs.declared.line.Line86.{Line86}
use Rattle.xlt_core.specs.Names.{Finding, Shown, NotShown}
use Rattle.cmd_arguments.specs.Words.{Check}
use Rattle.cmd_common.specs.Names.{FileNames, two_names}
use Rattle.cmd_common.specs.declared.stop.Stop.TheVariants.{NotShown as IsNotShownStop}
use Rattle.cmd_common.proofs.Told.{done_files}
use Rattle.cmd_check.specs.Checks.{Loads}
use Rattle.cmd_explain.specs.Explains.{ExplainGives, shown, explained}
use Rattle.cmd_explain.specs.Worked.{SaysFound, IsMadeOf, IsWorked, ComesTo}
use Rattle.cmd_explain.proofs.Saying.{before_files}

module _ (c : Check) (old new : HostState) (p : Program) (lines : List Line86) (loads : Loads c old new p lines) where
  is_worked : (f : Finding) (text line : List ℕ) → IsMadeOf p lines f text line → IsWorked c old new f text line
  is_worked (Shown blocks) text line m = record { program = p; lines = lines; blocks = blocks; loads = loads; shown = record { finding = m.found; same = m.same }; is = m.is }
  is_worked (NotShown at reason) text line m = record { program = p; lines = lines; loads = loads; unlike = record { finding = m.found; explained = m.explained } }

  pub comes_to : (f : Finding) (text line : List ℕ) → IsMadeOf p lines f text line → ComesTo c old new f text line
  comes_to f text line m = record { worked = is_worked f text line m; is = m.is }

module _ (c : Check) (old mid new : HostState) (status : ℕ) where
  abbrev names : FileNames
  names = two_names c.source c.text

  pub gives_by : (f : Finding) (text line : List ℕ) → IsWorked c old mid f text line → SaysFound names f text line mid new status → ExplainGives c old new status
  gives_by (Shown blocks) text line h s = shown mid line h s
  gives_by (NotShown at reason) text line h s = explained mid h.program h.lines text h.loads h.unlike s

  pub files_by : (f : Finding) (text line : List ℕ) → IsWorked c old mid f text line → SaysFound names f text line mid new status → SameFiles old new
  files_by (Shown blocks) text line h s = λ name. done_files line mid new status s name ∙ h.loads.reads.only.files name
  files_by (NotShown at reason) text line h s = λ name. before_files names text (IsNotShownStop at reason) mid new status s name ∙ h.loads.reads.only.files name
