use Rattle.std.proofs.Common.{refl}
use Rattle.asm80_source_def.specs.Operations.{operation_table}
use Rattle.asm80_first_walk.specs.Tables.{by_letter}
use Rattle.asm80_first_walk.proofs.operations.operation_of.Goals as goal

pub returns : goal.returns
unfolding operation_table by_letter
returns c = c.find_in.ensures operation_table refl refl
