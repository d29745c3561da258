use Rattle.std.proofs.Common.{length}
use Rattle.asm80_values.proofs.rules.+some_no_value.Given as goal

abbrev pub decreases-some_no_value : goal.decreases-some_no_value
decreases-some_no_value l = length l.args.now
