use Rattle.cmd_arguments.specs.ReadCommands.{check_read}
use Rattle.cmd_explain.proofs.Completing.{completes}
use Rattle.cmd_explain.proofs.explaining.explain.Goals as goal

pub returns-clause-completes : goal.returns-clause-completes
returns-clause-completes g c = completes c.checks_have_one_outcome.ensures (check_read c.args.command.now) (g.H.Host.state c.args.host.now) (g.H.Host.state c.carry_out.new.host) c.carry_out.result c.carry_out.ensures.gives
