use Rattle.sym_run.proofs.walk.+walk_from.Given as goal

abbrev pub decreases-walk_from : goal.decreases-walk_from
decreases-walk_from l = l.room
