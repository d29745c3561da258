use Rattle.std.proofs.lemmas.Result.{IfOk-weaker, IfErr-weaker, IfOk-from_err}
use Rattle.host.specs.Host.{HostState}
use Rattle.cmd_arguments.specs.ReadCommands.{both_read}
use Rattle.cmd_common.proofs.Told.{handed_on}
use Rattle.cmd_runs.specs.declared.halt.Halt.TheVariants.{By}
use Rattle.cmd_runs.specs.Supplies.{given_of}
use Rattle.cmd_runs.specs.Kinds.{HasRead, IsNamed, IsToRun, no_disk}
use Rattle.cmd_runs.specs.Runs80.{kind80}
use Rattle.cmd_runs.specs.Works.{HaltsFrom, unloaded}
use Rattle.cmd_runs.specs.BothLoads.{source_of, unloaded as no_source}
use Rattle.cmd_runs.specs.BothRuns.{work_both}
use Rattle.cmd_runs.proofs.Disks.{one_supply}
use Rattle.cmd_runs.proofs.run_both.run_beside.Goals as goal

-- the disk's file is none
pub returns-in_err-devices80 : goal.returns-in_err-devices80
returns-in_err-devices80 g c =
    let command = both_read c.args.command.now in
    let program = c.args.program.now in
    let s = c.args.supplies in
    let given = given_of s.input.items s.disk.items s.ports.items in
    let start = g.H.Host.state c.args.host.now in
    record {
      made = IfOk-from_err c.from_residual.result _ c.from_residual.ensures.0;
      came = IfOk-from_err c.from_residual.result _ c.from_residual.ensures.0;
      halted = handed_on c.from_residual.result (By c.in_err-devices80.field-0.0) (HaltsFrom (work_both command) (λ begin. IsNamed (kind80 (source_of command)) begin program given) start start) c.from_residual.ensures.1
          (λ begin read. unloaded read.reads (no_source (no_disk program given read.stands read.counted c.in_err-devices80.ensures.stopped)));
    }

pub returns : goal.returns
returns g c =
    let kind = kind80 (source_of (both_read c.args.command.now)) in
    let program = c.args.program.now in
    let s = c.args.supplies in
    let given = given_of s.input.items s.disk.items s.ports.items in
    let start = g.H.Host.state c.args.host.now in
    let first = c.in_ok-devices80.devices80 in
    let has = c.in_ok-devices80.ensures.devices in
    let with_devices : (begin : HostState) → HasRead (IsNamed kind begin program given) begin start → HasRead (IsToRun kind begin program first) begin start = λ begin read. record {
      stands = record { given = given; named = read.stands; readable = tt; devices = has };
      reads = read.reads;
      counted = read.counted;
    } in
    record {
      made = c.run_imaged.ensures.made;
      came = IfOk-weaker c.run_imaged.result _ _ (λ last has_last begin read. has_last begin (with_devices begin read)) c.run_imaged.ensures.came;
      halted = IfErr-weaker c.run_imaged.result _ _ (λ halt halts begin read. halts begin (with_devices begin read)) c.run_imaged.ensures.halted;
    }

-- both sets of devices are of the same bytes
pub run_imaged-requires-clause-same : goal.run_imaged-requires-clause-same
run_imaged-requires-clause-same g c =
    let s = c.args.supplies in
    let law = c.disks_read_back.ensures in
    one_supply (record { told = law.told; taken = law.taken }) (given_of s.input.items s.disk.items s.ports.items) c.args.devices86.now c.in_ok-devices80.devices80 c.requires.devices86 c.in_ok-devices80.ensures.devices
