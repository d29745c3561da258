use Rattle.std.proofs.Common.{length}
use Rattle.asm80_values.proofs.rules.+some_no_byte_item.Given as goal

abbrev pub decreases-some_no_byte_item : goal.decreases-some_no_byte_item
decreases-some_no_byte_item l = length l.args.now
