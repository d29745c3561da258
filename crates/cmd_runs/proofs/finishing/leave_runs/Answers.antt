use Rattle.std.proofs.Common.{refl, subst, sym}
use Rattle.std.proofs.lemmas.Result.{IfOk-from_err}
use Rattle.cmd_arguments.specs.ReadCommands.{run_options_read}
use Rattle.cmd_common.specs.declared.stop.Stop.TheVariants.{OutOfMemory}
use Rattle.cmd_common.proofs.Told.{handed_on}
use Rattle.cmd_runs.specs.declared.halt.Halt.TheVariants.{By}
use Rattle.cmd_runs.specs.Ends.{Halts}
use Rattle.cmd_runs.specs.Keeping.{kept_disk_name, DiskKeepStops}
use Rattle.cmd_runs.specs.Lasts.{NamesNoFile}
use Rattle.cmd_runs.specs.Finishing.{LeaveStops, no_line, unkept}
use Rattle.cmd_runs.proofs.Naming.{names_no_file}
use Rattle.cmd_runs.proofs.finishing.leave_runs.Goals as goal

pub closing_line-requires : goal.closing_line-requires
closing_line-requires g c =
    subst (NamesNoFile c.args.second) (sym c.came_to-came.ensures) (names_no_file c.args.second c.args.run.now.steps c.args.line c.args.ran)

-- there was no memory for the line
pub returns-in_err-line : goal.returns-in_err-line
returns-in_err-line g c =
    let old = g.H.Host.state c.args.host.now in
    let name = kept_disk_name (run_options_read c.args.run.now).out_disk c.args.ran.end in
    let disk = c.args.disk.now in
    record {
      made = IfOk-from_err c.from_residual.result _ c.from_residual.ensures.0;
      left = IfOk-from_err c.from_residual.result _ c.from_residual.ensures.0;
      halted = handed_on c.from_residual.result (By OutOfMemory) (Halts (LeaveStops name disk old old)) c.from_residual.ensures.1
          (no_line refl);
    }

-- the disk was not written
pub returns-in-Err : goal.returns-in-Err
returns-in-Err g c =
    record {
      made = tt;
      left = tt;
      halted = unkept (subst (λ name. DiskKeepStops name c.args.disk.now (g.H.Host.state c.args.host.now) (g.H.Host.state c.keep_disk.new.host) c.in-Err.stop) c.kept_disk_name-name.ensures c.in-Err.ensures.stopped);
    }
