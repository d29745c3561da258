use Rattle.simulation_law.proofs.Following.{matches_same}
use Rattle.simulation_law.proofs.matches_is_same.Goals as goal

pub returns : goal.returns
returns c = matches_same c.block_is_linked.ensures
