use Rattle.sym_step.proofs.stack86.exchange_bytes.Goals as goal

pub returns : goal.returns
returns c = c.perform.ensures.on_86
