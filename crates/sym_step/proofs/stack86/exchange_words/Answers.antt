use Rattle.sym_step.proofs.stack86.exchange_words.Goals as goal

pub returns : goal.returns
returns c = c.perform.ensures.on_86
