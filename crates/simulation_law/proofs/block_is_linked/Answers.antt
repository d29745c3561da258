use Rattle.simulation_law.proofs.Linked.{blocks_linked}
use Rattle.simulation_law.proofs.block_is_linked.Goals as goal

pub returns : goal.returns
returns c = blocks_linked c.agreeing_terms_stand.ensures c.who_sees_more_asks_the_same.ensures c.sound_86.ensures.runtime c.matching_blocks_stand.ensures
