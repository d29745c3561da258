use Rattle.std.proofs.Common.{refl}
use Rattle.std.proofs.lemmas.Result.{IfOk-from_err}
use Rattle.cmd_arguments.specs.ReadCommands.{run_hex_read}
use Rattle.cmd_runs.specs.RunsHex.{kind_hex}
use Rattle.cmd_runs.proofs.OneRun.{fill_halts, ran_halts, ran_has, left_halted}
use Rattle.cmd_runs.proofs.run_hex.run_equipped.Goals as goal

pub returns-in_err-fill : goal.returns-in_err-fill
returns-in_err-fill g c =
    record {
      made = IfOk-from_err c.from_residual.result _ c.from_residual.ensures.0;
      came = IfOk-from_err c.from_residual.result _ c.from_residual.ensures.0;
      halted = fill_halts (kind_hex (run_hex_read c.args.command.now)) (g.H.Host.state c.args.host.now) c.args.hex.now c.args.devices.now c.from_residual.result c.from_residual.ensures.1;
    }

pub returns-in_err-ran : goal.returns-in_err-ran
returns-in_err-ran g c =
    let start = g.H.Host.state c.args.host.now in
    let new = g.H.Host.state c.run_cells.new.host in
    record {
      made = IfOk-from_err c.from_residual-in_err-ran.result _ c.from_residual-in_err-ran.ensures.0;
      came = IfOk-from_err c.from_residual-in_err-ran.result _ c.from_residual-in_err-ran.ensures.0;
      halted = ran_halts (kind_hex (run_hex_read c.args.command.now)) start c.args.hex.now c.args.devices.now new c.from-limit.result c.from-limit.ensures
          c.from_residual-in_err-ran.result c.in_err-ran.field-0.0 c.from_residual-in_err-ran.ensures.1 c.in_err-ran.ensures.cut;
    }

pub returns : goal.returns
returns g c =
    let command = run_hex_read c.args.command.now in
    let start = g.H.Host.state c.args.host.now in
    let mid = g.H.Host.state c.run_cells.new.host in
    let new = g.H.Host.state c.leave_runs.new.host in
    let hex = c.args.hex.now in
    let devices = c.args.devices.now in
    let o = c.in_ok-ran.ran in
    let left = c.run_cells.new.devices in
    let r = c.leave_runs in
    record {
      made = r.ensures.made;
      came = ran_has (kind_hex command) start hex devices mid c.from-limit.result c.from-limit.ensures new o 0 left c.in_ok-ran.ensures.run (λ begin read run. refl)
          _ _ c.disk.result.now refl refl c.disk.ensures r.result r.ensures.left;
      halted = left_halted (kind_hex command) start hex devices mid c.from-limit.result c.from-limit.ensures new o 0 left c.in_ok-ran.ensures.run (λ begin read run. refl)
          _ _ c.disk.result.now refl refl c.disk.ensures r.result r.ensures.halted;
    }
