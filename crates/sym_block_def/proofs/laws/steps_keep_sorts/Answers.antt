use Rattle.sym_block_def.proofs.SortsWalk.{steps}
use Rattle.sym_block_def.proofs.laws.steps_keep_sorts.Goals as goal

pub returns : goal.returns
returns c = steps c.made_terms_have_sorts.ensures
