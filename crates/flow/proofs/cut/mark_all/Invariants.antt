use Rattle.std.proofs.Common.{◌≡◌, ◌||◌, ℕ, take}
use Rattle.base.specs.Addresses.{has_address, is_among}
use Rattle.flow.proofs.cut.mark_all.Given as goal

abbrev pub invariant-loop-address : goal.invariant-loop-address
invariant-loop-address l = (a : ℕ) → has_address l.set a ≡ (has_address l.initial.set a || is_among (take l.address-index l.addresses) a)
