use Rattle.cmd_file.proofs.ReadBack.{written_is_file}
use Rattle.cmd_file.proofs.laws.written_reads_back.Goals as goal

pub returns : goal.returns
returns c = written_is_file
