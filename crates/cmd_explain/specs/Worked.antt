-- What the work of `explain` comes to before anything is said, and what is said of it.
use Rattle.std.specs.Prelude.{◌≡◌, ℕ, List}
use Rattle.host.specs.Host.{HostState}
use Rattle.asm80_types.specs.Program.{Program}
use Rattle.asm86_line_types.specs.declared.line.Line86.{Line86}
use Rattle.asm86_line_types.specs.Image.{image_of}
use Rattle.sym_block_def.specs.declared.reason.Reason.{Reason}
use Rattle.xlt_core.specs.Names.{Same, Finding, Shown, NotShown, IsFinding, IfShown}
use Rattle.cmd_arguments.specs.Words.{Check}
use Rattle.cmd_common.specs.declared.stop.Stop.TheVariants.{NotShown as IsNotShownStop}
use Rattle.cmd_common.specs.Names.{FileNames}
use Rattle.cmd_common.specs.Lines.{shown_line, not_shown_line, reason_name}
use Rattle.cmd_common.specs.Said.{IsDone}
use Rattle.cmd_check.specs.Checks.{Loads, Shows}
use Rattle.cmd_explain.specs.Explained.{Explained}
use Rattle.cmd_explain.specs.Explains.{IsNotShown, SaysBefore}

-- the last line by what is found
abbrev pub last_line : Finding → List ℕ
last_line (Shown blocks) = shown_line blocks
last_line (NotShown at reason) = not_shown_line at (reason_name reason)

-- the last line alone is said of a text that is shown, and of any other why it is not before it
abbrev pub SaysFound : FileNames → Finding → List ℕ → List ℕ → HostState → HostState → ℕ → Type 0
SaysFound names (Shown blocks) text line old new status = IsDone line old new status
SaysFound names (NotShown at reason) text line old new status = SaysBefore names text (IsNotShownStop at reason) old new status

-- what the work of a program and of lines comes to: what is found, with why, and the last line
pub record IsMadeOf (p : Program) (lines : List Line86) (finding : Finding) (text line : List ℕ) : Type 0 where
  pub found : IsFinding p lines finding
  pub same : IfShown finding (Same p (image_of lines))
  pub explained : Explained p lines (image_of lines) text
  pub is : line ≡ last_line finding

module _ (c : Check) (old new : HostState) where
  -- a loaded text that is not shown, and why
  pub record LoadsUnlike (at : ℕ) (reason : Reason) (text : List ℕ) : Type 0 where
    pub program : Program
    pub lines : List Line86
    pub loads : Loads c old new program lines
    pub unlike : IsNotShown program lines at reason text

  abbrev pub IsWorked : Finding → List ℕ → List ℕ → Type 0
  IsWorked (Shown blocks) text line = Shows c old new line
  IsWorked (NotShown at reason) text line = LoadsUnlike at reason text

  pub record ComesTo (finding : Finding) (text line : List ℕ) : Type 0 where
    pub worked : IsWorked finding text line
    pub is : line ≡ last_line finding
