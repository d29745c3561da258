-- What the files of the devices have, where the host tells them and no call of it fails.
use Rattle.std.proofs.Common.{◌≡◌, ℕ, List, Option, Some, None, sym, ap, ◌∙◌}
use Rattle.host.specs.Host.{HostState}
use Rattle.cmd_common.specs.declared.names.InputFile.TheVariants.{Console, Disk, Ports}
use Rattle.cmd_common.specs.declared.stop.Stop.{Stop}
use Rattle.cmd_common.specs.declared.stop.Stop.TheVariants.{OutOfMemory}
use Rattle.cmd_arguments.specs.Words.{RunOptions}
use Rattle.cmd_common.specs.Files.{input_limit, NoneFailed}
use Rattle.cmd_common.proofs.Told.{told_whole, told_input, read_stops, input_stops}
use Rattle.cmd_runs.specs.Supplies.{Given, given_of, DiskIsGiven, DiskIsTold, DiskFileStops, IsSupplied, SupplyStops, no_input, no_disk_file, no_ports, SupplyIsTold}

told_disk : (old : HostState) (name : Option (List ℕ)) (bytes read : List ℕ) → DiskIsTold old name bytes → DiskIsGiven old name read → read ≡ bytes
told_disk old None bytes read t w = w ∙ sym t
told_disk old (Some name) bytes read t w = told_whole old name input_limit bytes read t w

pub told_given : (old : HostState) (run : RunOptions) (given read : Given) → SupplyIsTold run old given → IsSupplied run old read → read ≡ given
told_given old run given read t s =
    ap (λ i. given_of i read.disk read.ports) (told_input old run.input given.input read.input t.input s.input)
    ∙ ap (λ d. given_of given.input d read.ports) (told_disk old run.disk given.disk read.disk t.disk s.disk)
    ∙ ap (λ p. given_of given.input given.disk p) (told_input old run.ports given.ports read.ports t.ports s.ports)

disk_stops : (old mid new : HostState) (name : Option (List ℕ)) (bytes : List ℕ) (stop : Stop) → NoneFailed old new → new.read_faults ≡ mid.read_faults → DiskIsTold old name bytes → DiskFileStops name old mid stop → stop ≡ OutOfMemory
disk_stops old mid new None bytes stop none e t s = s
disk_stops old mid new (Some name) bytes stop none e t s = read_stops old mid new Disk name input_limit bytes stop none e t s

pub supply_stops : (old mid new : HostState) (run : RunOptions) (given : Given) (stop : Stop) → NoneFailed old new → new.read_faults ≡ mid.read_faults → SupplyIsTold run old given → SupplyStops run old mid stop → stop ≡ OutOfMemory
supply_stops old mid new run given stop none e t (no_input s) = input_stops old mid new Console run.input given.input stop none e t.input s
supply_stops old mid new run given stop none e t (no_disk_file input i s) = disk_stops old mid new run.disk given.disk stop none e t.disk s
supply_stops old mid new run given stop none e t (no_ports input disk i d s) = input_stops old mid new Ports run.ports given.ports stop none e t.ports s
