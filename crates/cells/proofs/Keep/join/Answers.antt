use Rattle.cells.proofs.KeepBits.{join_are_parts, parts_of_join}
use Rattle.cells.proofs.Keep.join.Goals as goal

pub invariant_of-result : goal.invariant_of-result
invariant_of-result c = join_are_parts _ _ c.self.invariant c.other.invariant

pub returns : goal.returns
returns c = rw (← c.self.view_is, ← c.other.view_is) (parts_of_join c.self.inside.bits c.other.inside.bits)
