use Rattle.std.proofs.Common.{refl}
use Rattle.asm80_types.specs.Words.{registers}
use Rattle.asm80_types.proofs.words.is_register.Goals as goal

pub returns : goal.returns
unfolding registers
returns c = c.is_listed.ensures registers refl
