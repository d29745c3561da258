use Rattle.cpu80.proofs.Following.{fetches_follow}
use Rattle.cpu80.proofs.laws.fetches_follow.Goals as goal

pub returns : goal.returns
returns c = fetches_follow c.who_sees_more_asks_the_same.ensures
