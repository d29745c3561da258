use Rattle.templates_law.proofs.Matching.{blocks_same}
use Rattle.templates_law.proofs.laws.matching_blocks_are_same.Goals as goal

pub returns : goal.returns
returns c = blocks_same c.matches_is_same.ensures c.blocks_are_cuts.ensures c.needs_return.ensures
