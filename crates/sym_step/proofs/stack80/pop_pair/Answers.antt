use Rattle.sym_step.proofs.stack80.pop_pair.Goals as goal

pub returns : goal.returns
returns c = c.perform.ensures.on_80
