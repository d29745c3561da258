-- What is left to do of a command's work once its runs are made, and how it closes.
use Rattle.std.specs.Prelude.{◌≡◌, ℕ, List, Option, Result, Ok, Err}
use Rattle.host.specs.Host.{HostState}
use Rattle.bdos_small.specs.Stored.{Stored}
use Rattle.cmd_common.specs.Names.{FileNames}
use Rattle.cmd_common.specs.declared.stop.Stop.{Stop}
use Rattle.cmd_common.specs.declared.stop.Stop.TheVariants.{OutOfMemory}
use Rattle.cmd_common.specs.Said.{Closes}
use Rattle.cmd_runs.specs.declared.halt.Halt.{Halt}
use Rattle.cmd_runs.specs.declared.halt.Halt.TheVariants.{By, Unsaid}
use Rattle.cmd_runs.specs.declared.last.Last.{Last}
use Rattle.cmd_runs.specs.Ends.{unsaid_status}
use Rattle.cmd_runs.specs.Keeping.{KeepsDisk, DiskKeepStops}
use Rattle.cmd_runs.specs.Lasts.{SaysEnd}

-- this is to be said last, and the disk was written, if there is a name
pub record RunsAreLeft (came : Result ℕ Stop) (second : Option ℕ) (name : Option (List ℕ)) (disk : List Stored) (old new : HostState) (last : Last) : Type 0 where
  pub came_is : last.came ≡ came
  pub second_is : last.second ≡ second
  pub keeps : KeepsDisk name disk old new

-- or there was no memory for the line, and nothing was done; or the disk was not written
pub data LeaveStops (name : Option (List ℕ)) (disk : List Stored) (old new : HostState) : Stop → Type 0 where
  no_line : new ≡ old → LeaveStops name disk old new OutOfMemory
  unkept : {stop : Stop} → DiskKeepStops name disk old new stop → LeaveStops name disk old new stop

-- what a work came to is said, with its status; nothing more is said after a line that was not
abbrev pub IsClosed : FileNames → Result Last Halt → HostState → HostState → ℕ → Type 0
IsClosed names (Ok last) old new status = SaysEnd names last.second last.came old new status
IsClosed names (Err (By stop)) old new status = Closes names stop old new status
IsClosed names (Err (Unsaid fault)) old new status = (new ≡ old) × (status ≡ unsaid_status fault)
