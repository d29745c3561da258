use Rattle.std.proofs.Common.{ℕ, ◌==◌, ◌||◌, ap, ◌∙◌}
use Rattle.base.specs.Addresses.{has_address}
use Rattle.asm80_values.proofs.layout.fill.Goals as goal
use Rattle.asm80_values.proofs.Cells.{cell_added}

pub loop-k-preserved : goal.loop-k-preserved
loop-k-preserved c = λ a. cell_added c.args.item.now.at c.loop-k.k a _ _ _ (c.insert.ensures.value a ∙ ap (λ (n : ℕ). (n == a) || has_address c.loop-k.filled a) c.address_of_cell.ensures) (c.loop-k.invariant a)
