use Rattle.templates_law.proofs.Match.Styles.{respected}
use Rattle.templates_law.proofs.match_laws.styles_respect_needs.Goals as goal

pub returns : goal.returns
returns c = respected
