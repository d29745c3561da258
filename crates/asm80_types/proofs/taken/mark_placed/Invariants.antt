use Rattle.std.proofs.Common.{◌≡◌, ◌||◌, ℕ, filter_map, take}
use Rattle.base.specs.Addresses.{has_address, is_among}
use Rattle.asm80_types.specs.Taken.{place_placed}
use Rattle.asm80_types.proofs.taken.mark_placed.Given as goal

abbrev pub invariant-loop-placed : goal.invariant-loop-placed
invariant-loop-placed l = (a : ℕ) → has_address l.set a ≡ (has_address l.initial.set a || is_among (filter_map place_placed (take l.placed-index l.instrs)) a)
