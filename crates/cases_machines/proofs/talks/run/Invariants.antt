use Rattle.cases_machines.proofs.talks.run.Given as goal

abbrev pub invariant-loop-count : goal.invariant-loop-count
invariant-loop-count g l = g.M.Machine.runs l.machine
