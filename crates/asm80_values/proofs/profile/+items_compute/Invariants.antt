use Rattle.std.proofs.Common.{length}
use Rattle.asm80_values.proofs.profile.+items_compute.Given as goal

abbrev pub decreases-items_compute : goal.decreases-items_compute
decreases-items_compute l = length l.args.now
