use Rattle.std.proofs.Common.{sym, subst}
use Rattle.cmd_common.specs.Said.{IsDone, said_status}
use Rattle.cmd_common.proofs.Said.{done_by}
use Rattle.cmd_common.proofs.say.say_done.Goals as goal

pub returns : goal.returns
returns g c =
    let old = g.H.Host.state c.args.host.now in
    let new = g.H.Host.state c.say_line.new.host in
    let e = c.say_line.ensures in
    subst (IsDone c.args.line.now old new) (sym c.said_status.ensures)
    (subst (λ l. IsDone l old new (said_status c.say_line.result)) c.as_bytes.ensures.value (done_by c.as_bytes.result.now old new c.say_line.result e.only e.ok e.counted e.fault e.failed))
