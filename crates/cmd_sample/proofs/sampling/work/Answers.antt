use Rattle.std.proofs.Common.{◌∙◌, refl, subst}
use Rattle.std.proofs.lemmas.Result.{IfOk-from_err}
use Rattle.host.specs.Host.{Rewrites}
use Rattle.cmd_arguments.specs.ReadCommands.{sample_read}
use Rattle.cmd_common.specs.declared.stop.Stop.TheVariants.{OutOfMemory}
use Rattle.cmd_common.proofs.Told.{handed_on}
use Rattle.cmd_common.specs.Writing.{FailsToWrite}
use Rattle.cmd_sample.specs.SampleWork.{StopsBy, no_memory, unwritten}
use Rattle.cmd_common.proofs.WriteEnds.{failed_to_write}
use Rattle.cmd_sample.proofs.sampling.work.Goals as goal

pub returns-in_err-made : goal.returns-in_err-made
returns-in_err-made g c =
    let old = g.H.Host.state c.args.host.now in
    let r = c.from_residual in
    record {
      worked = IfOk-from_err r.result _ r.ensures.0;
      stopped = handed_on r.result OutOfMemory (StopsBy (sample_read c.args.command.now) old old) r.ensures.1 (no_memory refl);
    }

pub returns-in-Err : goal.returns-in-Err
returns-in-Err g c =
    let command = sample_read c.args.command.now in
    let old = g.H.Host.state c.args.host.now in
    let new = g.H.Host.state c.write_bytes.new.host in
    let e = c.in-Err.ensures in
    record {
      worked = tt;
      stopped = unwritten (record {
        fault = c.in-Err.fault;
        is = c.stop_of_write.ensures;
        fails = subst (λ text. FailsToWrite command.output text old new c.in-Err.fault) (c.as_slice.ensures.value ∙ c.in_ok-made.ensures.source)
            (failed_to_write command.output c.as_slice.result.now old new c.in-Err.fault e.only e.fault e.failed);
      });
    }

pub returns-in-Ok : goal.returns-in-Ok
returns-in-Ok g c =
    let old = g.H.Host.state c.args.host.now in
    let new = g.H.Host.state c.write_bytes.new.host in
    let e = c.in-Ok.ensures in
    record {
      worked = record {
        is = c.in_ok-made.ensures.line;
        writes = record {
          text = subst (Rewrites old new c.args.command.now.output.now) (c.as_slice.ensures.value ∙ c.in_ok-made.ensures.source) e.ok;
          others = e.only.files;
        };
        quiet = e.only.said;
        counted = e.counted;
      };
      stopped = tt;
    }
