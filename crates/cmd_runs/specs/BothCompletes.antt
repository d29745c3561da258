-- The one thing that `both` comes to by the whole bytes of its source and its devices' files, where no call of the host fails.
use Rattle.std.specs.Prelude.{ℕ, List, Result, Err}
use Rattle.asm80_types.specs.Program.{Program}
use Rattle.cmd_common.specs.Sources.{reading_of}
use Rattle.asm80_source_def.specs.Source.{IsSource}
use Rattle.asm86_line_types.specs.declared.line.Line86.{Line86}
use Rattle.host.specs.Host.{HostState}
use Rattle.bdos_small.specs.Supply.{Supply}
use Rattle.cmd_arguments.specs.Words.{Both}
use Rattle.cmd_common.specs.declared.stop.Stop.{Stop}
use Rattle.cmd_common.specs.declared.stop.Stop.TheVariants.{CodeTooLarge}
use Rattle.cmd_common.specs.Files.{input_limit, NoneFailed, FileIsTold}
use Rattle.cmd_common.specs.OneEnd.{HasStatus}
use Rattle.cmd_runs.specs.Supplies.{Given, SupplyIsTold, HasDisk}
use Rattle.cmd_runs.specs.Outcomes.{FilesComeTo}
use Rattle.cmd_runs.specs.Runs80.{kind80}
use Rattle.templates.specs.declared.translation.Mode.TheVariants.{Lean}
use Rattle.templates.specs.Translation.{IsText, CodeFits, IsTooLarge}
use Rattle.cmd_runs.specs.BothLoads.{source_of}

-- where there is a program to run, over devices with a disk, the code of its lean text fits
abbrev pub LeanFits : Both → List ℕ → Given → Type 0
LeanFits c bytes given =
    (program : Program) (supply : Supply) (lines : List Line86) → IsSource (reading_of c.zilog) bytes c.top program → HasDisk given supply → IsText Lean program lines → CodeFits lines

-- what `run80` comes to, where the code of the lean text fits; and else that it has so many bytes
pub data BothComeTo (c : Both) (bytes : List ℕ) (given : Given) : Result ℕ Stop → Type 0 where
  as_run80 : {r : Result ℕ Stop} → LeanFits c bytes given → FilesComeTo (kind80 (source_of c)) bytes given r → BothComeTo c bytes given r
  too_large : (program : Program) (supply : Supply) (size : ℕ) → IsSource (reading_of c.zilog) bytes c.top program → HasDisk given supply → IsTooLarge Lean program size → BothComeTo c bytes given (Err (CodeTooLarge size))

-- where every file is told and within its limit, the status is that of the one thing that the command comes to: so it is 0 exactly
-- where that of `run80` is and the code fits, want of memory aside
abbrev pub BothComplete : Both → HostState → HostState → ℕ → Type 0
BothComplete c old new status =
    NoneFailed old new → (bytes : List ℕ) (given : Given) → FileIsTold old c.source input_limit bytes → SupplyIsTold c.run old given → HasStatus (BothComeTo c bytes given) status
