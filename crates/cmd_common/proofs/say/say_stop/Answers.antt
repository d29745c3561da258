use Rattle.std.proofs.Common.{ℕ, ◌<◌, List, length, ◌∙◌, sym, subst}
use Rattle.cmd_common.specs.Names.{names_read}
use Rattle.cmd_common.specs.Said.{unsaid}
use Rattle.cmd_common.proofs.Said.{closed, line_some}
use Rattle.cmd_common.proofs.say.say_stop.Goals as goal

pub say_last-requires : goal.say_last-requires
say_last-requires g c = subst (λ (l : List ℕ). 0 < length l) (sym (c.in-Some.ensures (names_read c.args.names.now))) (line_some (names_read c.args.names.now) c.args.stop)

pub returns-in-Some : goal.returns-in-Some
returns-in-Some g c = closed (names_read c.args.names.now) c.args.stop _ (g.H.Host.state c.args.host.now) (g.H.Host.state c.say_last.new.host) c.say_last.result c.status.result (c.in-Some.ensures (names_read c.args.names.now)) c.say_last.ensures.status c.status.ensures c.say_last.ensures.said

pub returns-in-Ok : goal.returns-in-Ok
returns-in-Ok g c = closed (names_read c.args.names.now) c.args.stop _ (g.H.Host.state c.args.host.now) (g.H.Host.state c.say_last-in-Ok.new.host) c.say_last-in-Ok.result c.status-in-Ok.result (c.as_str.ensures.value ∙ c.in-Ok.ensures) c.say_last-in-Ok.ensures.status c.status-in-Ok.ensures c.say_last-in-Ok.ensures.said

pub returns-in-Err : goal.returns-in-Err
returns-in-Err g c = unsaid c.in_default.ensures c.say_last-in-Err.ensures.status c.say_last-in-Err.ensures.said
