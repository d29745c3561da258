use Rattle.std.proofs.Common.{◌≡◌, false}
use Rattle.std.specs.List.{list_any}
use Rattle.base.specs.Addresses.{has_address}
use Rattle.asm80_source_def.specs.Layout.{counted_from}
use Rattle.asm80_values.proofs.layout.overlaps.Given as goal

abbrev pub invariant-loop-k : goal.invariant-loop-k
invariant-loop-k l = list_any (has_address l.filled) (counted_from l.item.at l.k) ≡ false
