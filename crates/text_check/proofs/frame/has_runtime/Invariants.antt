use Rattle.std.proofs.Common.{◌↔◌, length}
use Rattle.simulation_def.specs.Runtime.{HasRuntime}
use Rattle.text_check.proofs.frame.has_runtime.Given as goal

abbrev pub invariant-loop-others : goal.invariant-loop-others
invariant-loop-others l = HasRuntime l.rest ↔ HasRuntime l.text

abbrev pub decreases-loop-others : goal.decreases-loop-others
decreases-loop-others l = length l.rest
