use Rattle.std.proofs.Math.Facts.{Fits-lt-pow}
use Rattle.i86.proofs.Readers.{decoded_is_only_reader as is_only_reader}
use Rattle.emulators.proofs.laws.decoded_is_only_reader.Goals as goal

pub returns : goal.returns
returns c = is_only_reader c.args.code.now (λ k. Fits-lt-pow (c.type_inv.code k))
