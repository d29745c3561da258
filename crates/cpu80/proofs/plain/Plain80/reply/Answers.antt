use Rattle.cpu80.specs.Step.{program_fetch}
use Rattle.cpu80.proofs.plain.Plain80.reply.Goals as goal

pub returns-clause-machine : goal.returns-clause-machine
returns-clause-machine c p of = c.reply.ensures.machine (program_fetch p) of
