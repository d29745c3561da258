use Rattle.dialogue.proofs.Sight.{asks_same}
use Rattle.dialogue.proofs.laws.who_sees_more_asks_the_same.Goals as goal

pub returns : goal.returns
returns c = asks_same
