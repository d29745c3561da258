use Rattle.templates_law.proofs.Match.Passing.{passes}
use Rattle.templates_law.proofs.match_laws.statements_are_passed.Goals as goal

pub returns : goal.returns
returns c = passes
