use Rattle.simulation_law.proofs.Following.{blocks_are_followed}
use Rattle.simulation_law.proofs.blocks_follow.Goals as goal

pub returns : goal.returns
returns c = blocks_are_followed c.block_is_linked.ensures
