use Rattle.std.proofs.Common.{refl}
use Rattle.asm80_types.specs.Words.{operations}
use Rattle.asm80_types.proofs.words.is_operation.Goals as goal

pub returns : goal.returns
unfolding operations
returns c = c.is_listed.ensures operations refl
