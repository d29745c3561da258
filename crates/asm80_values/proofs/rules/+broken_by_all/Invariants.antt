use Rattle.std.proofs.Common.{length}
use Rattle.asm80_values.proofs.rules.+broken_by_all.Given as goal

abbrev pub decreases-broken_by_all : goal.decreases-broken_by_all
decreases-broken_by_all l = length l.kinds.now
