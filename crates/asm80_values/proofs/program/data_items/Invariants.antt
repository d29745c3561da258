use Rattle.std.proofs.Common.{◌≡◌, take}
use Rattle.std.specs.List.{flat_map}
use Rattle.asm80_values.specs.Programs.{data_item}
use Rattle.asm80_values.proofs.program.data_items.Given as goal

abbrev pub invariant-loop-item : goal.invariant-loop-item
invariant-loop-item l = l.cells.items ≡ flat_map data_item (take l.item-index l.items)
