use Rattle.cmd_sample.proofs.Accepted.{sample_accepted}
use Rattle.cmd_sample.proofs.sample_is_accepted.Goals as goal

pub returns : goal.returns
returns c = sample_accepted
