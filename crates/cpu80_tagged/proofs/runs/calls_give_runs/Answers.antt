use Rattle.cpu80_tagged.proofs.Called.{calls_give_runs as the_law}
use Rattle.cpu80_tagged.proofs.runs.calls_give_runs.Goals as goal

pub returns : goal.returns
returns c = the_law
