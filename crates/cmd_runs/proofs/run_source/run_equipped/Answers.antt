use Rattle.std.proofs.Common.{[], refl}
use Rattle.std.proofs.lemmas.Result.{IfOk-from_err}
use Rattle.cmd_arguments.specs.ReadCommands.{run80_read}
use Rattle.cmd_runs.specs.Runs80.{kind80}
use Rattle.cmd_runs.proofs.OneRun.{ran_halts, ran_has, left_halted}
use Rattle.cmd_runs.proofs.Leaving.{line_stands}
use Rattle.cmd_runs.proofs.run_source.run_equipped.Goals as goal

pub returns-in_err-ran : goal.returns-in_err-ran
returns-in_err-ran g c =
    let start = g.H.Host.state c.args.host.now in
    let new = g.H.Host.state c.run_program.new.host in
    record {
      made = IfOk-from_err c.from_residual.result _ c.from_residual.ensures.0;
      came = IfOk-from_err c.from_residual.result _ c.from_residual.ensures.0;
      halted = ran_halts (kind80 (run80_read c.args.command.now)) start c.args.program.now c.args.devices.now new c.from-limit.result c.from-limit.ensures
          c.from_residual.result c.in_err-ran.field-0.0 c.from_residual.ensures.1 c.in_err-ran.ensures.cut;
    }

pub returns : goal.returns
returns g c =
    let command = run80_read c.args.command.now in
    let start = g.H.Host.state c.args.host.now in
    let mid = g.H.Host.state c.run_program.new.host in
    let new = g.H.Host.state c.leave_runs.new.host in
    let program = c.args.program.now in
    let devices = c.args.devices.now in
    let o = c.in_ok-ran.ran in
    let left = c.run_program.new.devices in
    let r = c.leave_runs in
    record {
      made = r.ensures.made;
      came = ran_has (kind80 command) start program devices mid c.from-limit.result c.from-limit.ensures new o c.line_of-line.result left c.in_ok-ran.ensures.run (λ begin read run. line_stands command program read.stands.named.gives.program.program.lawful [] devices left o start mid run c.line_of-line.result c.line_of-line.ensures)
          _ _ c.disk.result.now refl refl c.disk.ensures r.result r.ensures.left;
      halted = left_halted (kind80 command) start program devices mid c.from-limit.result c.from-limit.ensures new o c.line_of-line.result left c.in_ok-ran.ensures.run (λ begin read run. line_stands command program read.stands.named.gives.program.program.lawful [] devices left o start mid run c.line_of-line.result c.line_of-line.ensures)
          _ _ c.disk.result.now refl refl c.disk.ensures r.result r.ensures.halted;
    }
