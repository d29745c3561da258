use Rattle.block_explain.proofs.One.{one_smallest}
use Rattle.block_explain.proofs.laws.smallest_pairs_are_one.Goals as goal

pub returns : goal.returns
returns c = λ p q r g h. one_smallest g h
