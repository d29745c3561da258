use Rattle.profile_leaving.proofs.Keeping.{runs_keep_states}
use Rattle.profile_leaving.proofs.laws.runs_keep_states.Goals as goal

pub returns : goal.returns
returns c = runs_keep_states c.sound_80.ensures
