use Rattle.cases_symrun.proofs.agreeing.+numbers_at.Given as goal

abbrev pub decreases-numbers_at : goal.decreases-numbers_at
decreases-numbers_at l = l.k
