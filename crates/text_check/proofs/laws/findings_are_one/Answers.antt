use Rattle.text_check.proofs.One.{one_finding}
use Rattle.text_check.proofs.laws.findings_are_one.Goals as goal

pub returns : goal.returns
returns c = one_finding
