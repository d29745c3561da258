-- What is decoded reads the code, and readers agree.
use Rattle.i86.proofs.Readers.{one_reader}
use Rattle.i86.proofs.decoding.code_has_one_reader.Goals as goal

pub returns : goal.returns
returns c = one_reader
