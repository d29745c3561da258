use Rattle.hex_file.proofs.OneFile.{one_file}
use Rattle.hex_file.proofs.ReadBack.{read_back}
use Rattle.hex_file.proofs.laws.written_reads_back.Goals as goal

pub returns-clause-one_file : goal.returns-clause-one_file
returns-clause-one_file c = one_file

pub returns-clause-reads_back : goal.returns-clause-reads_back
returns-clause-reads_back c = read_back
