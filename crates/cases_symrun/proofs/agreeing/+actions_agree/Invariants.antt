use Rattle.std.proofs.Common.{length}
use Rattle.cases_symrun.proofs.agreeing.+actions_agree.Given as goal

abbrev pub decreases-actions_agree : goal.decreases-actions_agree
decreases-actions_agree l = length l.first.now
