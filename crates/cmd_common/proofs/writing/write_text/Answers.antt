use Rattle.cmd_common.proofs.WriteEnds.{failed_to_write}
use Rattle.cmd_common.proofs.writing.write_text.Goals as goal

pub returns-in-Ok : goal.returns-in-Ok
returns-in-Ok g c = let e = c.in-Ok.ensures in record { only = e.only; written = e.ok; counted = e.counted; stopped = tt }

pub returns-in-Err : goal.returns-in-Err
returns-in-Err g c =
    let old = g.H.Host.state c.args.host.now in
    let new = g.H.Host.state c.write_out.new.host in
    let e = c.in-Err.ensures in
    record {
      only = e.only;
      written = tt;
      counted = tt;
      stopped = record {
        fault = c.in-Err.fault;
        is = c.stop_of_write.ensures;
        fails = failed_to_write c.args.name.now _ old new c.in-Err.fault e.only e.fault e.failed;
      };
    }
