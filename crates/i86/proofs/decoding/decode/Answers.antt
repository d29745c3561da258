-- What stands at the first place is what the bytes begin with.
use Rattle.i86.proofs.Prefixes.{decoded_first}
use Rattle.i86.proofs.decoding.decode.Goals as goal

pub returns : goal.returns
returns c = decoded_first c.args.bytes.now c.decode_at.result c.decode_at.ensures.stands
