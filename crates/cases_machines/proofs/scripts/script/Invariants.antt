use Rattle.cases_machines.proofs.scripts.script.Given as goal

abbrev pub invariant-loop-word : goal.invariant-loop-word
invariant-loop-word g l = g.M.Machine.runs l.machine
