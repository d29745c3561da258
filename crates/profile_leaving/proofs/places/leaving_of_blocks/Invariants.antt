use Rattle.profile_leaving.proofs.Walking.{IsFound}
use Rattle.profile_leaving.proofs.places.leaving_of_blocks.Given as goal

abbrev pub invariant-loop-leader : goal.invariant-loop-leader
invariant-loop-leader l = IsFound l.program l.leader-index l.places.items
