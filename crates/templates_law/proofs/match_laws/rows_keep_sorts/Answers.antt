use Rattle.templates_law.proofs.Match.Coded.{rows_keep}
use Rattle.templates_law.proofs.match_laws.rows_keep_sorts.Goals as goal

pub returns : goal.returns
returns c = rows_keep c.steps_keep_sorts.ensures
