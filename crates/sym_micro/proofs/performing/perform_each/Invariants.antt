use Rattle.std.proofs.Common.{drop}
use Rattle.sym_micro.proofs.OneByOne.{Performing}
use Rattle.sym_micro.proofs.performing.perform_each.Given as goal

abbrev pub invariant-loop-step : goal.invariant-loop-step
invariant-loop-step l = Performing l.initial.terms l.terms l.initial.run l.run l.steps (drop l.step-index l.steps)
