use Rattle.std.proofs.Common.{◌≡◌, ℕ, List, [], drop}
use Rattle.base.specs.Addresses.{IsSetOf}
use Rattle.asm80_values.specs.Items.{overlap_from}
use Rattle.asm80_values.proofs.layout.first_overlap.Given as goal

abbrev pub invariant-loop-item : goal.invariant-loop-item
invariant-loop-item l = (filled : List ℕ) × IsSetOf l.filled filled × (overlap_from [] l.items ≡ overlap_from filled (drop l.item-index l.items))
