use Rattle.std.proofs.Common.{◌+◌, ◌*◌, length}
use Rattle.asm80_values.proofs.profile.+strays.Given as goal

-- one operand less each time, and those behind it by a call more
abbrev pub decreases-strays_among : goal.decreases-strays_among
decreases-strays_among l = 2 * length l.args.now

abbrev pub decreases-strays_behind : goal.decreases-strays_behind
decreases-strays_behind l = 2 * length l.args.now + 1
