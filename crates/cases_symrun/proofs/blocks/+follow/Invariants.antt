use Rattle.cases_symrun.proofs.blocks.+follow.Given as goal

abbrev pub decreases-follow : goal.decreases-follow
decreases-follow l = l.left
