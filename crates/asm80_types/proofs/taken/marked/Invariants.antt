use Rattle.std.proofs.Common.{◌≡◌, filter, take}
use Rattle.base.specs.Addresses.{has_address}
use Rattle.asm80_types.proofs.taken.marked.Given as goal

abbrev pub invariant-loop-address : goal.invariant-loop-address
invariant-loop-address l = l.marked.items ≡ filter (has_address l.set) (take l.address-index l.addresses)
