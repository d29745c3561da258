use Rattle.i80_bytes.specs.Fetch.{fetch_of_bytes}
use Rattle.i80_bytes.proofs.machine.Byte80.reply.Goals as goal

pub returns-clause-machine : goal.returns-clause-machine
returns-clause-machine c of = c.reply.ensures.machine fetch_of_bytes of

pub returns-clause-taken : goal.returns-clause-taken
returns-clause-taken c e of said = c.reply.ensures.taken fetch_of_bytes e of said
