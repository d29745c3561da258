use Rattle.std.proofs.Common.{◌≡◌, ◌||◌, ℕ, take}
use Rattle.std.specs.Prelude.{filter_map}
use Rattle.base.specs.Addresses.{has_address, is_among}
use Rattle.flow.specs.Blocks.{target_placed}
use Rattle.flow.proofs.cut.mark_targets.Given as goal

abbrev pub invariant-loop-placed : goal.invariant-loop-placed
invariant-loop-placed l = (a : ℕ) → has_address l.set a ≡ (has_address l.initial.set a || is_among (filter_map target_placed (take l.placed-index l.instrs)) a)
