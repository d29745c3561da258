-- Both instructions are decoded from the bytes of the one.
use Rattle.i80_bytes.proofs.Readers.{prefix_free}
use Rattle.i80_bytes.proofs.encoding.encodings_are_prefix_free.Goals as goal

pub returns : goal.returns
returns c = prefix_free
