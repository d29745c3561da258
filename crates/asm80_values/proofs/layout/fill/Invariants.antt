use Rattle.std.proofs.Common.{◌≡◌, ◌==◌, ◌||◌, ℕ}
use Rattle.std.specs.List.{list_any}
use Rattle.base.specs.Addresses.{has_address}
use Rattle.asm80_source_def.specs.Layout.{counted_from}
use Rattle.asm80_values.proofs.layout.fill.Given as goal

abbrev pub invariant-loop-k : goal.invariant-loop-k
invariant-loop-k l = (a : ℕ) → has_address l.filled a ≡ (list_any (λ b. b == a) (counted_from l.item.at l.k) || has_address l.initial.filled a)
