use Rattle.std.proofs.Common.{refl}
use Rattle.zilog80.specs.Words.{directives}
use Rattle.zilog80.proofs.table.is_directive.Goals as goal

pub returns : goal.returns
unfolding directives
returns c = c.is_listed.ensures directives refl
