use Rattle.simulation_law.proofs.Replaying.{actions_stand}
use Rattle.simulation_law.proofs.agreeing_actions_stand.Goals as goal

pub returns : goal.returns
returns c = actions_stand c.agreeing_terms_stand.ensures
