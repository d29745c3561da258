use Rattle.cpu80.proofs.Following.{plain_follows}
use Rattle.cpu80.proofs.laws.plain_follows.Goals as goal

pub returns : goal.returns
returns c = plain_follows c.fetches_follow.ensures
