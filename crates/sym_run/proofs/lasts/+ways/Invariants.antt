use Rattle.std.proofs.Common.{◌+◌, ◌*◌}
use Rattle.sym_run.proofs.lasts.+ways.Given as goal

abbrev pub decreases-way_from : goal.decreases-way_from
decreases-way_from l = 2 * l.room + 1

abbrev pub decreases-jump_from : goal.decreases-jump_from
decreases-jump_from l = 2 * l.room + 2
