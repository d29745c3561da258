use Rattle.profile_leaving.proofs.Rising.{ascends}
use Rattle.profile_leaving.proofs.laws.places_ascend.Goals as goal

pub returns : goal.returns
returns c = ascends
