use Rattle.cmd_arguments.specs.ReadCommands.{listing_read}
use Rattle.cmd_lists.proofs.Departing.{has_departures}
use Rattle.cmd_lists.proofs.departures.leaves.Goals as goal

pub returns-clause-left : goal.returns-clause-left
returns-clause-left g c = λ e.
    has_departures c.places_are_left.ensures c.places_ascend.ensures (listing_read c.args.command.now) (g.H.Host.state c.args.host.now) (g.H.Host.state c.list.new.host) c.list.result e c.list.ensures.gives
