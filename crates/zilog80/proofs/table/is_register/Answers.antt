use Rattle.std.proofs.Common.{refl}
use Rattle.zilog80.specs.Words.{reserved_names}
use Rattle.zilog80.proofs.table.is_register.Goals as goal

pub returns : goal.returns
unfolding reserved_names
returns c = c.is_listed.ensures reserved_names refl
