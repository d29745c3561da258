use Rattle.commented_text.specs.Left.{left_of}
use Rattle.cmd_common.proofs.WriteEnds.{failed_to_write}
use Rattle.cmd_translate.proofs.translation.write_kept.Goals as goal

pub returns-in-Ok : goal.returns-in-Ok
returns-in-Ok g c =
    record {
      only = c.in-Ok.ensures.only;
      wrote = λ s text.
          rw c.in-Some.is
          (record {
            out = left_of c.new.result;
            is = c.new.ensures s text;
            written = c.in-Ok.ensures.ok;
            stopped = tt;
          });
      counted = c.in-Ok.ensures.counted;
    }

pub returns-in-Err : goal.returns-in-Err
returns-in-Err g c =
    let old = g.H.Host.state c.args.host.now in
    let new = g.H.Host.state c.write_from.new.host in
    record {
      only = c.in-Err.ensures.only;
      wrote = λ s text.
          rw c.in-Some.is
          (record {
            out = left_of c.new.result;
            is = c.new.ensures s text;
            written = tt;
            stopped = record {
              fault = c.in-Err.fault;
              is = c.stop_of_write.ensures;
              fails = failed_to_write c.args.name.now _ old new c.in-Err.fault c.in-Err.ensures.only c.in-Err.ensures.fault c.in-Err.ensures.failed;
            };
          });
      counted = tt;
    }
