use Rattle.std.proofs.Common.{length}
use Rattle.asm80_values.proofs.rules.+broken_by_items.Given as goal

abbrev pub decreases-broken_by_items : goal.decreases-broken_by_items
decreases-broken_by_items l = length l.args.now
