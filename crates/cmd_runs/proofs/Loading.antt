-- The files of a run, read one after the other.
use Rattle.std.proofs.Common.{ℕ, List}
use Rattle.std.specs.Prelude.{Option, Some, None}
use Rattle.host.specs.Host.{HostState, OnlyReads, SameFaults}
use Rattle.cmd_arguments.specs.Words.{RunOptions}
use Rattle.cmd_common.specs.declared.names.InputFile.{InputFile}
use Rattle.cmd_common.specs.declared.names.InputFile.TheVariants.{Console, Disk, Ports}
use Rattle.cmd_common.specs.declared.stop.Stop.{Stop}
use Rattle.cmd_common.specs.Files.{IsInput, InputStops, input_limit}
use Rattle.cmd_common.proofs.Before.{whole_before, stops_before}
use Rattle.cmd_runs.specs.Supplies.{Given, DiskIsGiven, DiskFileStops, IsSupplied, SupplyStops, no_input, no_disk_file, no_ports}

module _ (old mid new : HostState) (only : OnlyReads old mid) (counted : SameFaults old mid) where
  -- what is told of the files after a first read is told before it
  pub input_before : (i : Option (List ℕ)) (bytes : List ℕ) → IsInput mid i bytes → IsInput old i bytes
  input_before None bytes w = w
  input_before (Some name) bytes w = whole_before old mid only name input_limit bytes w

  pub input_stops_before : (file : InputFile) (i : Option (List ℕ)) (stop : Stop) → InputStops file i mid new stop → InputStops file i old new stop
  input_stops_before file None stop s = absurd s
  input_stops_before file (Some name) stop s = stops_before old mid new only counted file name input_limit stop s

  pub disk_before : (name : Option (List ℕ)) (bytes : List ℕ) → DiskIsGiven mid name bytes → DiskIsGiven old name bytes
  disk_before None bytes w = w
  disk_before (Some name) bytes w = whole_before old mid only name input_limit bytes w

  pub disk_stops_before : (name : Option (List ℕ)) (stop : Stop) → DiskFileStops name mid new stop → DiskFileStops name old new stop
  disk_stops_before None stop s = s
  disk_stops_before (Some name) stop s = stops_before old mid new only counted Disk name input_limit stop s

  pub supply_before : (run : RunOptions) (given : Given) → IsSupplied run mid given → IsSupplied run old given
  supply_before run given s = record { input = input_before run.input given.input s.input; disk = disk_before run.disk given.disk s.disk; ports = input_before run.ports given.ports s.ports }

  pub supply_stops_before : (run : RunOptions) (stop : Stop) → SupplyStops run mid new stop → SupplyStops run old new stop
  supply_stops_before run stop (no_input s) = no_input (input_stops_before Console run.input stop s)
  supply_stops_before run stop (no_disk_file input i s) = no_disk_file input (input_before run.input input i) (disk_stops_before run.disk stop s)
  supply_stops_before run stop (no_ports input disk i d s) = no_ports input disk (input_before run.input input i) (disk_before run.disk disk d) (input_stops_before Ports run.ports stop s)
