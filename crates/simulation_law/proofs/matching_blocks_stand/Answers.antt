use Rattle.simulation_law.proofs.Meeting.{blocks_stand}
use Rattle.simulation_law.proofs.matching_blocks_stand.Goals as goal

pub returns : goal.returns
returns c = blocks_stand c.steps_keep_sorts.ensures c.sound_80.ensures c.sound_86.ensures.walks c.agreeing_terms_stand.ensures c.agreeing_actions_stand.ensures c.linked_runs_have_environments.ensures
