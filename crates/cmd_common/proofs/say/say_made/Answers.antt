use Rattle.cmd_common.specs.Names.{names_read}
use Rattle.cmd_common.proofs.Said.{closed}
use Rattle.cmd_common.proofs.say.say_made.Goals as goal

pub returns : goal.returns
returns g c = closed (names_read c.args.names.now) c.args.stop c.args.line.now (g.H.Host.state c.args.host.now) (g.H.Host.state c.say_last.new.host) c.say_last.result c.status.result c.requires.made c.say_last.ensures.status c.status.ensures c.say_last.ensures.said
