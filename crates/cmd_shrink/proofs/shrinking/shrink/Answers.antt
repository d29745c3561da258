use Rattle.cmd_arguments.specs.ReadCommands.{shrink_read}
use Rattle.cmd_shrink.proofs.Completing.{completes}
use Rattle.cmd_shrink.proofs.Headline.{headline}
use Rattle.cmd_shrink.proofs.shrinking.shrink.Goals as goal

pub returns-clause-completes : goal.returns-clause-completes
returns-clause-completes g c = completes (record { check = c.checks_have_one_outcome.ensures; left = c.shrunk_is_left.ensures.one }) (shrink_read c.args.command.now) (g.H.Host.state c.args.host.now) (g.H.Host.state c.carry_out.new.host) c.carry_out.result c.carry_out.ensures

pub returns-clause-headline : goal.returns-clause-headline
returns-clause-headline g c = headline (shrink_read c.args.command.now) (g.H.Host.state c.args.host.now) (g.H.Host.state c.carry_out.new.host) c.carry_out.result c.carry_out.ensures
