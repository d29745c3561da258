-- What becomes of the disk after a run: its file is written, where the option stands, once the program has ended or left its
-- profile, the limit was reached, or input has ended; not where a drive was refused or an 8086 stopped.
use Rattle.std.specs.Prelude.{◌≡◌, ℕ, List, Bool, true, false, Option, Some, None}
use Rattle.host.specs.Host.{HostState, SameFiles, OnlyFileChanged, OnlyWrites, Rewrites, SameFaults}
use Rattle.host.specs.Host.{WriteFault}
use Rattle.host.specs.declared.HostFault.{HostFault}
use Rattle.host.specs.declared.HostFault.TheVariants.{Failed, Memory}
use Rattle.bdos_small.specs.Stored.{Stored}
use Rattle.bdos_small.specs.DiskFile.{disk_file}
use Rattle.emulator_loop.specs.declared.emulator.Why.{Why}
use Rattle.emulator_loop.specs.declared.emulator.Why.TheVariants.{Left, NoInstruction, StackSegment, OddCall}
use Rattle.emulator_loop.specs.declared.running.RunEnd.{RunEnd}
use Rattle.emulator_loop.specs.declared.running.RunEnd.TheVariants.{Ended, Stopped, StepLimit, InputEnded, NoDrive}
use Rattle.host_files.specs.Transfer.{IsBeforeOrPart}
use Rattle.cmd_common.specs.declared.stop.Stop.{Stop}
use Rattle.cmd_common.specs.declared.stop.Stop.TheVariants.{WriteFailed, OutOfMemory}

abbrev pub is_disk_kept_by : Why → Bool
is_disk_kept_by (Left place rule) = true
is_disk_kept_by (NoInstruction offset) = false
is_disk_kept_by (StackSegment offset) = false
is_disk_kept_by (OddCall offset function) = false

abbrev pub is_disk_kept : RunEnd → Bool
is_disk_kept Ended = true
is_disk_kept (Stopped why) = is_disk_kept_by why
is_disk_kept StepLimit = true
is_disk_kept InputEnded = true
is_disk_kept (NoDrive function) = false

-- the name of the file that is written, if there is one
abbrev pub named_if : Bool → Option (List ℕ) → Option (List ℕ)
named_if true name = name
named_if false name = None

abbrev pub kept_disk_name : Option (List ℕ) → RunEnd → Option (List ℕ)
kept_disk_name name end = named_if (is_disk_kept end) name

-- the disk's file took the place of the file of this name, and nothing else was done
pub record HasKeptDisk (name : List ℕ) (disk : List Stored) (old new : HostState) : Type 0 where
  pub only : OnlyWrites old new name
  pub file : Rewrites old new name (disk_file disk)
  pub counted : SameFaults old new

abbrev pub KeepsDisk : Option (List ℕ) → List Stored → HostState → HostState → Type 0
KeepsDisk None disk old new = new ≡ old
KeepsDisk (Some name) disk old new = HasKeptDisk name disk old new

-- a write met this fault, and first bytes of it were written, but not all
pub record FailsToKeepDisk (name : List ℕ) (disk : List Stored) (fault : HostFault) (old new : HostState) : Type 0 where
  pub only : OnlyWrites old new name
  pub part : IsBeforeOrPart old new name (disk_file disk)
  pub cause : WriteFault old new fault

-- why it was not written: memory ran out before, or the host's while it was written, or a write failed
pub data DiskWriteStops (name : List ℕ) (disk : List Stored) (old new : HostState) : Stop → Type 0 where
  no_memory : new ≡ old → DiskWriteStops name disk old new OutOfMemory
  failed : FailsToKeepDisk name disk Failed old new → DiskWriteStops name disk old new WriteFailed
  host_memory : FailsToKeepDisk name disk Memory old new → DiskWriteStops name disk old new OutOfMemory

abbrev pub DiskKeepStops : Option (List ℕ) → List Stored → HostState → HostState → Stop → Type 0
DiskKeepStops None disk old new stop = ⊥
DiskKeepStops (Some name) disk old new stop = DiskWriteStops name disk old new stop

-- no file has changed but that of this name, if there is one
abbrev pub DiskAlone : Option (List ℕ) → HostState → HostState → Type 0
DiskAlone None old new = SameFiles old new
DiskAlone (Some name) old new = OnlyFileChanged old new name
