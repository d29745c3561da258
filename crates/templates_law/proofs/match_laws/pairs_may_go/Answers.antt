use Rattle.templates_law.proofs.Match.RowsWord.{pairs_go}
use Rattle.templates_law.proofs.match_laws.pairs_may_go.Goals as goal

pub returns : goal.returns
returns c = pairs_go
