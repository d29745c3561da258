use Rattle.std.proofs.Common.{◌%◌, ◌*◌, ◌^◌}
use denote.Enum.Declared.{tag_of}
use Rattle.cells.specs.contracts.Part.{the_type}
use Rattle.cells.proofs.KeepBits.{join_are_parts, parts_of_join, only_part}
use Rattle.cells.proofs.Keep.with.Goals as goal

pub invariant_of-result : goal.invariant_of-result
invariant_of-result c = join_are_parts _ _ c.self.invariant (only_part c.args.part).0

pub returns : goal.returns
returns c =
    rw (← (only_part c.args.part).1, ← c.self.view_is)
    (parts_of_join c.self.inside.bits (1 * 2 ^ tag_of the_type c.args.part % 65536))
