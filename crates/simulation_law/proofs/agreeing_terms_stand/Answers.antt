use Rattle.simulation_law.proofs.Agreeing.{agreeing_stand}
use Rattle.simulation_law.proofs.agreeing_terms_stand.Goals as goal

pub returns : goal.returns
returns c = agreeing_stand c.made_terms_keep_values.ensures c.made_terms_have_sorts.ensures
