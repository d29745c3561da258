use Rattle.std.proofs.Common.{◌≡◌, drop}
use Rattle.std.specs.Prelude.{find}
use Rattle.asm80_values.specs.Items.{breaks}
use Rattle.asm80_values.proofs.layout.first_breach.Given as goal

abbrev pub invariant-loop-item : goal.invariant-loop-item
invariant-loop-item l = find (breaks l.top l.rule) (drop l.item-index l.items) ≡ find (breaks l.top l.rule) l.items
