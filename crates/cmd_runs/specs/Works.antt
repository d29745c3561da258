-- What a command that runs something gives, by its status: said once of all of them, by what they do before their last line.
use Rattle.std.specs.Prelude.{◌≡◌, ℕ, List, [], Option, None, Result}
use Rattle.host.specs.declared.HostFault.{HostFault}
use Rattle.host.specs.Host.{HostState, OnlyReads}
use Rattle.bdos_small.specs.Supply.{Supply}
use Rattle.emulator_loop.specs.declared.fault.TalkFault.{TalkFault}
use Rattle.emulator_loop.specs.declared.fault.TalkFault.TheVariants.{Unsaid as Untold, Memory as NoMemory}
use Rattle.emulator_loop.specs.declared.running.Conversation.{Conversation}
use Rattle.cmd_common.specs.Names.{FileNames}
use Rattle.cmd_common.specs.declared.stop.Stop.{Stop}
use Rattle.cmd_common.specs.declared.stop.Stop.TheVariants.{OutOfMemory}
use Rattle.cmd_common.specs.Said.{Closes}
use Rattle.cmd_runs.specs.declared.halt.Halt.{Halt}
use Rattle.cmd_runs.specs.declared.halt.Halt.TheVariants.{By, Unsaid}
use Rattle.cmd_runs.specs.declared.last.Last.{Last}
use Rattle.cmd_runs.specs.Ends.{came_to, unsaid_status}
use Rattle.cmd_runs.specs.Names.{run_names}
use Rattle.cmd_runs.specs.Keeping.{kept_disk_name, KeepsDisk, DiskKeepStops}
use Rattle.cmd_runs.specs.Lasts.{SaysEnd}
use Rattle.cmd_runs.specs.Settings.{RunComesTo, IsRunCutOff}
use Rattle.cmd_runs.specs.Kinds.{RunKind, run_setting, HasRead, IsToRun, NothingToRun}

-- what is known when the runs of a command are made: the end of the run by which its status goes, the line of the file that stands with
-- it, how many instructions of a second machine ran after it, if there is one, and what the first run left of the devices
pub record RunsMade : Type 0 where
  pub end : Conversation
  pub line : ℕ
  pub second : Option ℕ
  pub left : Supply

-- the commands differ in this: why there is nothing to run; that the files were read and the runs made, and came to this; that the files
-- were read and a run was cut off by a fault; the most instructions; the names of the files that are read, and that of the file
-- for the disk, if there is one
pub record RunWork : Type 1 where
  pub HasNothing : HostState → HostState → Stop → Type 0
  pub AreMade : HostState → HostState → RunsMade → Type 0
  pub AreCutOff : HostState → HostState → TalkFault → Type 0
  pub limit : ℕ
  pub names : FileNames
  pub out_disk : Option (List ℕ)

-- the number of instructions that ran, or why the program did not end
abbrev pub came_by : RunWork → RunsMade → Result ℕ Stop
came_by w m = came_to w.limit m.line m.end

module _ (w : RunWork) (old : HostState) where
  -- the runs came to this, and then the disk was written, if its file is
  pub record RunsAreKept (new : HostState) (m : RunsMade) : Type 0 where
    pub mid : HostState
    pub made : w.AreMade old mid m
    pub keeps : KeepsDisk (kept_disk_name w.out_disk m.end.end) m.left.system.disk mid new

  -- the runs came to an end, and the disk was not written
  pub record RunsLoseDisk (new : HostState) (stop : Stop) : Type 0 where
    pub runs : RunsMade
    pub mid : HostState
    pub made : w.AreMade old mid runs
    pub stops : DiskKeepStops (kept_disk_name w.out_disk runs.end.end) runs.left.system.disk mid new stop

  -- why the command stops before its last line: there is nothing to run; or memory ran out within a run, or for the last line; or the
  -- disk was not written
  pub data WorkStops (new : HostState) : Stop → Type 0 where
    unloaded : {stop : Stop} → OnlyReads old new → w.HasNothing old new stop → WorkStops new stop
    no_memory : w.AreCutOff old new NoMemory → WorkStops new OutOfMemory
    no_line : (m : RunsMade) → w.AreMade old new m → WorkStops new OutOfMemory
    unkept : {stop : Stop} → RunsLoseDisk new stop → WorkStops new stop

  abbrev pub WorkHalts : HostState → Halt → Type 0
  WorkHalts new (By stop) = WorkStops new stop
  WorkHalts new (Unsaid fault) = w.AreCutOff old new (Untold fault)

  -- or else this is said last
  pub record WorkHasLast (new : HostState) (last : Last) : Type 0 where
    pub made : RunsMade
    pub kept : RunsAreKept new made
    pub came : last.came ≡ came_by w made
    pub second : last.second ≡ made.second

  -- what the command gives, by its status: the runs were made, and the line of what they came to is said; or a line of a run was not said,
  -- and then nothing more is; or the command stops before, and the line of the stop is said
  pub data WorkGives (new : HostState) : ℕ → Type 0 where
    ran : {status : ℕ} (kept : HostState) (m : RunsMade) → RunsAreKept kept m → SaysEnd w.names m.second (came_by w m) kept new status → WorkGives new status
    unsaid : {status : ℕ} (fault : HostFault) → status ≡ unsaid_status fault → w.AreCutOff old new (Untold fault) → WorkGives new status
    stopped : {status : ℕ} (mid : HostState) (stop : Stop) → WorkStops mid stop → Closes w.names stop mid new status → WorkGives new status

-- the same of a part of the work: wherever the command began, if this stood there by the host's files, which were then read
abbrev pub HasLastFrom : RunWork → (HostState → Type 0) → HostState → HostState → Last → Type 0
HasLastFrom w Stood start new last = (begin : HostState) → HasRead (Stood begin) begin start → WorkHasLast w begin new last

abbrev pub HaltsFrom : RunWork → (HostState → Type 0) → HostState → HostState → Halt → Type 0
HaltsFrom w Stood start new halt = (begin : HostState) → HasRead (Stood begin) begin start → WorkHalts w begin new halt

-- ---- a command that makes one run

module _ {Loaded : Type 0} (k : RunKind Loaded) (old new : HostState) where
  -- the files were read, and then the run came to this
  pub record IsRunMade (m : RunsMade) : Type 0 where
    pub loaded : Loaded
    pub supply : Supply
    pub start : HostState
    pub read : HasRead (IsToRun k old loaded supply) old start
    pub run : RunComesTo (run_setting k [] loaded) supply m.end m.left start new
    pub at : k.IsStopLine loaded m.end.end m.line
    pub alone : m.second ≡ None

  -- the same, but a fault cut the run off
  pub record IsRunCut (fault : TalkFault) : Type 0 where
    pub loaded : Loaded
    pub supply : Supply
    pub start : HostState
    pub read : HasRead (IsToRun k old loaded supply) old start
    pub cut : IsRunCutOff (run_setting k [] loaded) supply fault start new

abbrev pub work_of_one : {Loaded : Type 0} → RunKind Loaded → RunWork
work_of_one k = record {
  HasNothing = λ old new stop. NothingToRun k old new stop;
  AreMade = λ old new m. IsRunMade k old new m;
  AreCutOff = λ old new fault. IsRunCut k old new fault;
  limit = k.options.steps;
  names = run_names k.file k.options;
  out_disk = k.options.out_disk;
}
