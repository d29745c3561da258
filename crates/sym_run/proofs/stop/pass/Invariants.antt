use Rattle.std.proofs.Common.{◌≡◌, ◌-◌, ◌≤◌, length, drop}
use Rattle.sym_run.specs.Around.{surroundings_of}
use Rattle.sym_run.specs.Stop.{pass}
use Rattle.sym_run.proofs.stop.pass.Given as goal

abbrev pub invariant-loop-at : goal.invariant-loop-at
invariant-loop-at l = record {
  within : l.at ≤ length l.around.text.now;
  is : pass (surroundings_of l.around) (drop l.at l.around.text.now) ≡ pass (surroundings_of l.around) (drop l.from l.around.text.now);
}

abbrev pub decreases-loop-at : goal.decreases-loop-at
decreases-loop-at l = length l.around.text.now - l.at
