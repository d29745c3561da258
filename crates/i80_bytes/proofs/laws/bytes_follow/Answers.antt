use Rattle.i80_bytes.proofs.Following.{follows}
use Rattle.i80_bytes.proofs.laws.bytes_follow.Goals as goal

pub returns : goal.returns
returns c = follows c.fetches_follow.ensures
