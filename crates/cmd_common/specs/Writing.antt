-- A command that writes one file and then says a line of it.
use Rattle.std.specs.Prelude.{◌≡◌, ℕ, List}
use Rattle.host.specs.declared.HostFault.{HostFault}
use Rattle.host.specs.declared.HostFault.TheVariants.{Failed, Memory}
use Rattle.host.specs.Host.{HostState, OnlyFileChanged, SameSaid, Rewrites, OnlyReads, OnlySays, WriteFault}
use Rattle.host_files.specs.Transfer.{IsBeforeOrPart}
use Rattle.cmd_common.specs.declared.stop.Stop.{Stop}
use Rattle.cmd_common.specs.declared.stop.Stop.TheVariants.{WriteFailed, OutOfMemory}
use Rattle.cmd_common.specs.Said.{SaysLine, SaysLast}

module _ (name bytes : List ℕ) (old new : HostState) where
  -- the bytes took the place of what the file of this name held, and no other file has changed
  pub record Writes : Type 0 where
    pub text : Rewrites old new name bytes
    pub others : OnlyFileChanged old new name

  -- the file is as before, or the first of these bytes, but not all, took its place, and no other file has changed
  pub record WritesPart : Type 0 where
    pub text : IsBeforeOrPart old new name bytes
    pub others : OnlyFileChanged old new name

  -- a write of them met this fault, and nothing was said
  pub record FailsToWrite (fault : HostFault) : Type 0 where
    pub part : WritesPart
    pub quiet : SameSaid old new
    pub cause : WriteFault old new fault

module _ (old new : HostState) where
  -- a write met this fault and nothing was said before; a line says what came of it
  pub record SaysOfWrite (fault : HostFault) (line : List ℕ) : Type 0 where
    pub mid : HostState
    pub quiet : SameSaid old mid
    pub cause : WriteFault old mid fault
    pub only : OnlySays mid new
    pub says : SaysLine mid new line

  -- files were read and nothing else was done, and then a line was said
  pub record EndsWith (line : List ℕ) : Type 0 where
    pub mid : HostState
    pub reads : OnlyReads old mid
    pub says : SaysLast line mid new

-- what a fault of a write is
abbrev pub stop_of_write : HostFault → Stop
stop_of_write Failed = WriteFailed
stop_of_write Memory = OutOfMemory

-- why a write ended early
pub record WriteStops (name text : List ℕ) (old new : HostState) (stop : Stop) : Type 0 where
  pub fault : HostFault
  pub is : stop ≡ stop_of_write fault
  pub fails : FailsToWrite name text old new fault
