use Rattle.templates_law.proofs.Match.Templates.{straight, few, some}
use Rattle.templates_law.proofs.match_laws.templates_are_walked.Goals as goal

pub returns : goal.returns
returns c = record { straight = straight; few = few; some = some }
