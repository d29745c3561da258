-- What is said last of runs that were made.
use Rattle.std.specs.Prelude.{◌≡◌, ℕ, List, Option, Some, None, Result, Ok, Err}
use Rattle.std.specs.String.{string_bytes}
use Rattle.host.specs.Host.{HostState}
use Rattle.cmd_common.specs.Names.{FileNames}
use Rattle.cmd_common.specs.declared.stop.Stop.{Stop}
use Rattle.cmd_common.specs.Lines.{ended_line, both_line, line_of_stop}
use Rattle.cmd_common.specs.Said.{IsDone, Closes}
use Rattle.cmd_runs.specs.declared.last.Last.{Last}

-- the line of a run that ended after so many instructions; with those of a second machine, if one ran after it
abbrev pub steps_line : Option ℕ → ℕ → List ℕ
steps_line None steps = ended_line steps
steps_line (Some more) steps = both_line steps more

-- the line of what the run by which the status goes came to: the number of instructions that ran, or a stop
abbrev pub closing_line : FileNames → Option ℕ → Result ℕ Stop → List ℕ
closing_line names second (Ok steps) = steps_line second steps
closing_line names second (Err stop) = line_of_stop names stop

-- it names no file: it is the same whatever names the command's files have
abbrev pub NamesNoFile : Option ℕ → Result ℕ Stop → Type 0
NamesNoFile second came = (names others : FileNames) → closing_line names second came ≡ closing_line others second came

abbrev pub IsLastMade : Last → Type 0
IsLastMade last = (names : FileNames) → string_bytes last.line ≡ closing_line names last.second last.came

-- the line is said, with its status
abbrev pub SaysEnd : FileNames → Option ℕ → Result ℕ Stop → HostState → HostState → ℕ → Type 0
SaysEnd names second (Ok steps) old new status = IsDone (steps_line second steps) old new status
SaysEnd names second (Err stop) old new status = Closes names stop old new status
