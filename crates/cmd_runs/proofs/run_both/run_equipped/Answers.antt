use Rattle.std.proofs.Common.{refl, sym, subst}
use Rattle.std.proofs.lemmas.Result.{IfOk-from_err}
use Rattle.cmd_arguments.specs.ReadCommands.{both_read}
use Rattle.cmd_common.specs.declared.stop.Stop.TheVariants.{OutOfMemory}
use Rattle.cmd_common.proofs.Told.{handed_on}
use Rattle.cmd_runs.specs.declared.halt.Halt.TheVariants.{By}
use Rattle.cmd_runs.specs.Supplies.{IsFillBy}
use Rattle.cmd_runs.specs.Works.{HaltsFrom, unloaded}
use Rattle.cmd_runs.proofs.Working.{left_has, left_halts}
use Rattle.cmd_runs.specs.BothLoads.{AreToRun, no_memory}
use Rattle.cmd_runs.specs.BothRuns.{work_both}
use Rattle.cmd_runs.specs.BothMaking.{runs_made}
use Rattle.cmd_runs.proofs.run_both.run_equipped.Goals as goal

-- there was no memory for what fills the 8086's
pub returns-in_err-fill : goal.returns-in_err-fill
returns-in_err-fill g c =
    let command = both_read c.args.command.now in
    let start = g.H.Host.state c.args.host.now in
    record {
      made = IfOk-from_err c.from_residual.result _ c.from_residual.ensures.0;
      came = IfOk-from_err c.from_residual.result _ c.from_residual.ensures.0;
      halted = handed_on c.from_residual.result (By OutOfMemory) (HaltsFrom (work_both command) (λ begin. AreToRun command begin c.args.program.now c.args.image.now c.args.devices80.now) start start) c.from_residual.ensures.1
          (λ begin read. unloaded read.reads no_memory);
    }

pub make_runs-requires-clause-fill : goal.make_runs-requires-clause-fill
make_runs-requires-clause-fill g c = subst (IsFillBy c.args.command.now.choice) (sym c.as_slice.ensures.value) (record { bytes = c.in_ok-fill.ensures.items; size = c.in_ok-fill.ensures.len })

-- a run was cut off
pub returns-in_err-made : goal.returns-in_err-made
returns-in_err-made g c =
    let command = both_read c.args.command.now in
    let start = g.H.Host.state c.args.host.now in
    let program = c.args.program.now in
    let image = c.args.image.now in
    let supply = c.args.devices80.now in
    let new = g.H.Host.state c.make_runs.new.host in
    record {
      made = IfOk-from_err c.from_residual-in_err-made.result _ c.from_residual-in_err-made.ensures.0;
      came = IfOk-from_err c.from_residual-in_err-made.result _ c.from_residual-in_err-made.ensures.0;
      halted = handed_on c.from_residual-in_err-made.result c.in_err-made.field-0.0 (HaltsFrom (work_both command) (λ begin. AreToRun command begin program image supply) start new) c.from_residual-in_err-made.ensures.1 c.in_err-made.ensures.halted;
    }

pub returns : goal.returns
returns g c =
    let command = both_read c.args.command.now in
    let w = work_both command in
    let start = g.H.Host.state c.args.host.now in
    let mid = g.H.Host.state c.make_runs.new.host in
    let new = g.H.Host.state c.leave_runs.new.host in
    let program = c.args.program.now in
    let image = c.args.image.now in
    let supply = c.args.devices80.now in
    let m = runs_made c.in_ok-made.made c.make_runs.new.devices80 in
    let disk = c.disk.result.now in
    record {
      made = c.leave_runs.ensures.made;
      came = left_has w (λ begin. AreToRun command begin program image supply) start mid new m c.in_ok-made.ensures.made _ _ disk refl refl c.disk.ensures c.leave_runs.result c.leave_runs.ensures.left;
      halted = left_halts w (λ begin. AreToRun command begin program image supply) start mid new m c.in_ok-made.ensures.made _ _ disk refl refl c.disk.ensures c.leave_runs.result c.leave_runs.ensures.halted;
    }
