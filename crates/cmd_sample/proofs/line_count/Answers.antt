use Rattle.std.proofs.Common.{sym}
use Rattle.cmd_sample.proofs.Pieces.{sample_length}
use Rattle.cmd_sample.proofs.line_count.Goals as goal

pub returns : goal.returns
returns c = sym (sample_length c.args.routines)
