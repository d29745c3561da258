use Rattle.cmd_lists.proofs.Departing.{one_list}
use Rattle.cmd_lists.proofs.departures.DeparturesListed.lines_are_one.Goals as goal

pub returns : goal.returns
returns c = one_list
