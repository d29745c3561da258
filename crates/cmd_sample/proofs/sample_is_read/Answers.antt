use Rattle.cmd_sample.proofs.Reading.{sample_read}
use Rattle.cmd_sample.proofs.sample_is_read.Goals as goal

pub returns : goal.returns
returns c = sample_read
