use Rattle.flow.proofs.graph.Graph.solved.Given as goal

abbrev pub ghosts-solve_on : goal.ghosts-solve_on
ghosts-solve_on a = record { name = a.blank.name; parts = a.blank.parts }
