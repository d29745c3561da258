use Rattle.cmd_runs.proofs.Agreement.{limit_is}
use Rattle.cmd_runs.proofs.making.limit86.Goals as goal

pub returns : goal.returns
returns c = limit_is c.args.steps
