-- What `explain` gives, by its status: what `check` gives, and before the last line of a text that is not shown why it is not.
use Rattle.std.specs.Prelude.{ℕ, List}
use Rattle.host.specs.declared.HostFault.TheVariants.{Failed, Memory}
use Rattle.host.specs.Host.{HostState, Says, SameFaults, OnlySays}
use Rattle.asm80_types.specs.Program.{Program}
use Rattle.asm86_line_types.specs.declared.line.Line86.{Line86}
use Rattle.asm86_line_types.specs.Image.{image_of}
use Rattle.sym_block_def.specs.declared.reason.Reason.{Reason}
use Rattle.xlt_core.specs.Names.{NotShown as IsFoundNot, IsFinding}
use Rattle.cmd_arguments.specs.Words.{Check}
use Rattle.cmd_common.specs.Names.{FileNames, two_names}
use Rattle.cmd_common.specs.declared.stop.Stop.{Stop}
use Rattle.cmd_common.specs.declared.stop.Stop.TheVariants.{NotShown}
use Rattle.cmd_common.specs.Said.{IsDone, Closes, LosesLine}
use Rattle.cmd_check.specs.Checks.{Loads, LoadStops, Shows}
use Rattle.cmd_explain.specs.Explained.{Explained}

-- the lines of a program and of a text are not shown, and this says why
pub record IsNotShown (p : Program) (lines : List Line86) (at : ℕ) (reason : Reason) (text : List ℕ) : Type 0 where
  pub finding : IsFinding p lines (IsFoundNot at reason)
  pub explained : Explained p lines (image_of lines) text

-- lines are said whole, and then the last line, that of the stop; or a fault of the host cuts them off, and is the status
pub data SaysBefore (names : FileNames) (text : List ℕ) (stop : Stop) (old new : HostState) : ℕ → Type 0 where
  whole : {status : ℕ} (mid : HostState) → OnlySays old mid → Says old mid text → SameFaults old mid → Closes names stop mid new status → SaysBefore names text stop old new status
  failed : LosesLine text Failed old new → SaysBefore names text stop old new 4
  no_memory : LosesLine text Memory old new → SaysBefore names text stop old new 5

module _ (c : Check) (old new : HostState) where
  -- what the command gives: the text is shown, and its line is said; there is nothing to be explained, and the line of the stop is said;
  -- or the text is not shown, and why is said before the last line
  pub data ExplainGives : ℕ → Type 0 where
    shown : {status : ℕ} (mid : HostState) (line : List ℕ) → Shows c old mid line → IsDone line mid new status → ExplainGives status
    stopped : {status : ℕ} (mid : HostState) (stop : Stop) → LoadStops c old mid stop → Closes (two_names c.source c.text) stop mid new status → ExplainGives status
    explained : {status : ℕ} {at : ℕ} {reason : Reason} (mid : HostState) (p : Program) (lines : List Line86) (text : List ℕ) → Loads c old mid p lines → IsNotShown p lines at reason text → SaysBefore (two_names c.source c.text) text (NotShown at reason) mid new status → ExplainGives status
