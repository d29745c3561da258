use Rattle.std.proofs.Common.{drop}
use Rattle.asm80_values.proofs.second_walk.items_of_taken.Given as goal
use Rattle.asm80_values.proofs.Along.{Along}

abbrev pub invariant-loop-row : goal.invariant-loop-row
invariant-loop-row l = Along l.statements (drop l.row-index l.taken) l.names l.items.items
