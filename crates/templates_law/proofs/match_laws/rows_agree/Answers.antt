use Rattle.templates_law.proofs.Match.Rows.{rows}
use Rattle.templates_law.proofs.match_laws.rows_agree.Goals as goal

pub returns : goal.returns
returns c = rows
