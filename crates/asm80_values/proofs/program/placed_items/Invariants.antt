use Rattle.std.proofs.Common.{◌≡◌, take}
use Rattle.std.specs.List.{filter_map}
use Rattle.asm80_values.specs.Programs.{placed_item}
use Rattle.asm80_values.proofs.program.placed_items.Given as goal

abbrev pub invariant-loop-item : goal.invariant-loop-item
invariant-loop-item l = l.placed.items ≡ filter_map placed_item (take l.item-index l.items)
