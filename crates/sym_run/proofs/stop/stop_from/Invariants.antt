use Rattle.std.proofs.Common.{◌≡◌, ◌≤◌, length, drop}
use Rattle.sym_run.specs.Around.{surroundings_of}
use Rattle.sym_run.specs.Stop.{pass, stop_from}
use Rattle.sym_run.proofs.stop.stop_from.Given as goal

abbrev pub invariant-loop-left : goal.invariant-loop-left
invariant-loop-left l = record {
  within : l.at ≤ length l.around.text.now;
  is : stop_from l.jumped (surroundings_of l.around) l.left (drop l.at l.around.text.now) ≡ stop_from l.jumped (surroundings_of l.around) l.room (pass (surroundings_of l.around) (drop l.from l.around.text.now));
}

abbrev pub decreases-loop-left : goal.decreases-loop-left
decreases-loop-left l = l.left
