use Rattle.bdos_small.proofs.Going.{Going}
use Rattle.bdos_small.proofs.spelling.read_name.Given as goal

abbrev pub invariant-loop-place : goal.invariant-loop-place
invariant-loop-place l = Going l.last l.after l.bytes l.least l.most l.place
