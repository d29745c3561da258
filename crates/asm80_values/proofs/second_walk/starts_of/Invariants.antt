use Rattle.std.proofs.Common.{◌≡◌, ℕ, take}
use Rattle.std.specs.List.{filter_map}
use Rattle.base.specs.Addresses.{has_address, is_among}
use Rattle.asm80_values.specs.Second.{start_of_row}
use Rattle.asm80_values.proofs.second_walk.starts_of.Given as goal

abbrev pub invariant-loop-row : goal.invariant-loop-row
invariant-loop-row l = (a : ℕ) → has_address l.starts a ≡ is_among (filter_map start_of_row (take l.row-index l.taken)) a
