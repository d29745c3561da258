use Rattle.std.proofs.Common.{map, sym, subst}
use Rattle.std.specs.List.{concat}
use Rattle.std.specs.String.{string_bytes}
use Rattle.cmd_common.specs.Said.{IsDone}
use Rattle.cmd_common.proofs.Said.{done_by}
use Rattle.cmd_common.proofs.say.say_report.Goals as goal

pub returns : goal.returns
returns g c =
    let old = g.H.Host.state c.args.host.now in
    let new = g.H.Host.state c.say_lines.new.host in
    let e = c.say_lines.ensures in
    let text = concat (map string_bytes c.args.lines.now) in
    subst (IsDone text old new) (sym c.said_status.ensures) (done_by text old new c.say_lines.result e.only e.ok e.counted e.fault e.failed)
