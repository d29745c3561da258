use Rattle.shrink.proofs.Left.{is_left, one_shrunk}
use Rattle.shrink.proofs.laws.shrunk_is_left.Goals as goal

pub returns-clause-left : goal.returns-clause-left
returns-clause-left c = λ p lines left is. is_left p lines left is

pub returns-clause-one : goal.returns-clause-one
returns-clause-one c = one_shrunk
