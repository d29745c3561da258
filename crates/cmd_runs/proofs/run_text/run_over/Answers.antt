use Rattle.std.proofs.lemmas.Result.{IfOk-from_err}
use Rattle.cmd_arguments.specs.ReadCommands.{run86_read}
use Rattle.cmd_runs.specs.Supplies.{given_of}
use Rattle.cmd_runs.specs.Runs86.{kind86}
use Rattle.cmd_runs.proofs.Equipped.{devices_halt, equipped_has, equipped_halts}
use Rattle.cmd_runs.proofs.run_text.run_over.Goals as goal

pub returns-in_err-devices : goal.returns-in_err-devices
returns-in_err-devices g c =
    let s = c.args.supplies in
    record {
      made = IfOk-from_err c.from_residual.result _ c.from_residual.ensures.0;
      came = IfOk-from_err c.from_residual.result _ c.from_residual.ensures.0;
      halted = devices_halt (kind86 (run86_read c.args.command.now)) c.args.image.now (given_of s.input.items s.disk.items s.ports.items) (g.H.Host.state c.args.host.now)
          c.from_residual.result c.in_err-devices.field-0.0 c.from_residual.ensures.1 c.in_err-devices.ensures.stopped;
    }

pub returns : goal.returns
returns g c =
    let kind = kind86 (run86_read c.args.command.now) in
    let s = c.args.supplies in
    let given = given_of s.input.items s.disk.items s.ports.items in
    let start = g.H.Host.state c.args.host.now in
    let new = g.H.Host.state c.run_equipped.new.host in
    let devices = c.in_ok-devices.devices in
    let has = c.in_ok-devices.ensures.devices in
    let r = c.run_equipped.result in
    record {
      made = c.run_equipped.ensures.made;
      came = equipped_has kind c.args.image.now given start new devices has r c.run_equipped.ensures.came;
      halted = equipped_halts kind c.args.image.now given start new devices has r c.run_equipped.ensures.halted;
    }
