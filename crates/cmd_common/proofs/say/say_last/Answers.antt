use Rattle.std.proofs.Common.{subst}
use Rattle.cmd_common.specs.Said.{SaysLast}
use Rattle.cmd_common.proofs.Said.{said_last}
use Rattle.cmd_common.proofs.say.say_last.Goals as goal

pub returns-clause-said : goal.returns-clause-said
returns-clause-said g c =
    let e = c.say_line.ensures in
    let old = g.H.Host.state c.args.host.now in
    let new = g.H.Host.state c.say_line.new.host in
    subst (λ l. SaysLast l old new) c.as_bytes.ensures.value (said_last c.as_bytes.result.now old new c.say_line.result e.only e.ok e.fault e.failed)
