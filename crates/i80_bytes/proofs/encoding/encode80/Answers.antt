use Rattle.i80_bytes.proofs.Readers.{encoding_length}
use Rattle.i80_bytes.proofs.encoding.encode80.Goals as goal

pub returns-clause-length : goal.returns-clause-length
returns-clause-length c = encoding_length c.args.i
