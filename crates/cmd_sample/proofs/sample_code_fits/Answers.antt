use Rattle.cmd_sample.proofs.Fitting.{sample_fits}
use Rattle.cmd_sample.proofs.sample_code_fits.Goals as goal

pub returns : goal.returns
returns c = sample_fits
