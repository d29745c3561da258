use Rattle.xlt_pool.proofs.Tables.{Passed}
use Rattle.xlt_pool.proofs.table.slot_of.Given as goal

abbrev pub invariant-loop-distance : goal.invariant-loop-distance
invariant-loop-distance l = Passed l.nodes l.slots l.node l.distance
