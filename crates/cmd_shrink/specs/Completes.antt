-- The one thing that `shrink` comes to by the whole bytes of its files, where no call of the host fails.
use Rattle.std.specs.Prelude.{◌≡◌, ℕ, ◌-◌, ◌<◌, ◌≤◌, List, length, Result, Ok, Err}
use Rattle.host.specs.Host.{HostState}
use Rattle.asm86_line_types.specs.declared.line.Line86.{Line86}
use Rattle.asm80_types.specs.Program.{Program}
use Rattle.sym_block_def.specs.declared.reason.Reason.{Reason}
use Rattle.xlt_core.specs.Names.{Shown, NotShown as NotFound, IsFinding}
use Rattle.shrink.specs.Shrunk.{IsShrunk}
use Rattle.cmd_arguments.specs.Words.{Shrink}
use Rattle.cmd_common.specs.declared.stop.Stop.{Stop}
use Rattle.cmd_common.specs.declared.stop.Stop.TheVariants.{NotShown, TooManyStatements}
use Rattle.cmd_common.specs.Files.{NoneFailed, FileIsTold, input_limit, text_limit}
use Rattle.cmd_common.specs.OneEnd.{HasStatus}
use Rattle.cmd_check.specs.Completes.{FilesComeTo}
use Rattle.cmd_shrink.specs.Shrinks.{check_of_text, most_statements}

-- a text with an image has too many statements; or it is not shown; or it is, and so many lines are left out of it
pub data LeavesOut (p : Program) (lines : List Line86) : Result ℕ Stop → Type 0 where
  too_many : {r : Result ℕ Stop} → most_statements < length lines → r ≡ Err (TooManyStatements (length lines)) → LeavesOut p lines r
  not_shown : {r : Result ℕ Stop} (at : ℕ) (reason : Reason) → length lines ≤ most_statements → IsFinding p lines (NotFound at reason) → r ≡ Err (NotShown at reason) → LeavesOut p lines r
  shrunk : {r : Result ℕ Stop} (blocks : ℕ) (left : List Line86) → length lines ≤ most_statements → IsFinding p lines (Shown blocks) → IsShrunk p lines left → r ≡ Ok (length lines - length left) → LeavesOut p lines r

-- where both files are told and within their limits, the status is that of the one thing, want of memory aside
abbrev pub ShrinkCompletes : Shrink → HostState → HostState → ℕ → Type 0
ShrinkCompletes c old new status =
    NoneFailed old new → (source text : List ℕ) → FileIsTold old c.source input_limit source → FileIsTold old c.text text_limit text → HasStatus (FilesComeTo (check_of_text c) LeavesOut source text) status
