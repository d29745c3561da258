use Rattle.sym_terms.proofs.Sorts.{sorts}
use Rattle.sym_terms.proofs.laws.made_terms_have_sorts.Goals as goal

pub returns : goal.returns
returns c = sorts
