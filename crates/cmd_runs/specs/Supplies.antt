-- What the devices of a run have to answer with: the bytes of the files that its options name, one file after the other, and the
-- devices that these make.
use Rattle.std.specs.Prelude.{◌≡◌, ℕ, ◌%◌, List, [], length, replicate, Option, Some, None}
use Rattle.host.specs.Host.{HostState}
use Rattle.bdos_small.specs.declared.fault.DiskFault.{DiskFault}
use Rattle.bdos_small.specs.declared.fault.DiskFault.TheVariants.{Bad, Memory}
use Rattle.bdos_small.specs.Stored.{Stored}
use Rattle.bdos_small.specs.Disks.{IsDisk}
use Rattle.bdos_small.specs.DiskFile.{disk_file}
use Rattle.bdos_small.specs.Reading.{IsDiskFaultOf}
use Rattle.bdos_small.specs.Supply.{Supply, first_supply}
use Rattle.cmd_arguments.specs.Words.{RunOptions}
use Rattle.cmd_common.specs.declared.names.InputFile.TheVariants.{Console, Disk, Ports}
use Rattle.cmd_common.specs.declared.stop.Stop.{Stop}
use Rattle.cmd_common.specs.declared.stop.Stop.TheVariants.{OutOfMemory, BadDisk}
use Rattle.cmd_common.specs.Files.{input_limit, IsWholeFile, IsInput, FileIsTold, ReadStops, InputStops, InputIsTold}

-- the bytes of the files: the console's input, the disk's file and the bytes of the ports
pub record Given : Type 0 where
  pub input : List ℕ
  pub disk : List ℕ
  pub ports : List ℕ

abbrev pub given_of : List ℕ → List ℕ → List ℕ → Given
given_of input disk ports = record { input = input; disk = disk; ports = ports }

-- the disk's file is a whole file; without the option it is that of a disk without files
abbrev pub DiskIsGiven : HostState → Option (List ℕ) → List ℕ → Type 0
DiskIsGiven old None bytes = bytes ≡ disk_file []
DiskIsGiven old (Some name) bytes = IsWholeFile old name input_limit bytes

abbrev pub DiskIsTold : HostState → Option (List ℕ) → List ℕ → Type 0
DiskIsTold old None bytes = bytes ≡ disk_file []
DiskIsTold old (Some name) bytes = FileIsTold old name input_limit bytes

abbrev pub DiskFileStops : Option (List ℕ) → HostState → HostState → Stop → Type 0
DiskFileStops None old new stop = stop ≡ OutOfMemory
DiskFileStops (Some name) old new stop = ReadStops Disk name input_limit old new stop

module _ (run : RunOptions) (old : HostState) where
  -- these are the bytes of the files
  pub record IsSupplied (given : Given) : Type 0 where
    pub input : IsInput old run.input given.input
    pub disk : DiskIsGiven old run.disk given.disk
    pub ports : IsInput old run.ports given.ports

  -- why there are none: a file was not read, after those before it
  pub data SupplyStops (new : HostState) : Stop → Type 0 where
    no_input : {stop : Stop} → InputStops Console run.input old new stop → SupplyStops new stop
    no_disk_file : {stop : Stop} (input : List ℕ) → IsInput old run.input input → DiskFileStops run.disk old new stop → SupplyStops new stop
    no_ports : {stop : Stop} (input disk : List ℕ) → IsInput old run.input input → DiskIsGiven old run.disk disk → InputStops Ports run.ports old new stop → SupplyStops new stop

  -- the host tells them, within their limits
  pub record SupplyIsTold (given : Given) : Type 0 where
    pub input : InputIsTold old run.input given.input
    pub disk : DiskIsTold old run.disk given.disk
    pub ports : InputIsTold old run.ports given.ports

-- the devices that the bytes make: the disk's file is that of their disk, and no search goes on
pub record HasDisk (given : Given) (supply : Supply) : Type 0 where
  pub disk : List Stored
  pub is_disk : IsDisk disk
  pub file : given.disk ≡ disk_file disk
  pub is : supply ≡ first_supply disk given.input given.ports

-- or they make none: the disk's file is none, at a place, or memory ran out
abbrev pub stop_of_disk : DiskFault → Stop
stop_of_disk (Bad k) = BadDisk k
stop_of_disk Memory = OutOfMemory

abbrev pub DiskStops : List ℕ → Stop → Type 0
DiskStops bytes stop = (fault : DiskFault) × IsDiskFaultOf bytes fault × (stop ≡ stop_of_disk fault)

-- the bytes that fill a memory of 64K, each the choice's lowest byte
unfoldable pub fill_by : ℕ → List ℕ
fill_by choice = replicate 0x10000 (choice % 256)

pub record IsFillBy (choice : ℕ) (fill : List ℕ) : Type 0 where
  pub bytes : fill ≡ fill_by choice
  pub size : length fill ≡ 0x10000
