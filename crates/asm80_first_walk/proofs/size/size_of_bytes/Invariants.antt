use Rattle.std.proofs.Common.{◌≡◌, ◌%◌, map, take}
use Rattle.std.specs.Prelude.{sum_by}
use Rattle.asm80_types.specs.Tree.{operand_of}
use Rattle.asm80_source_def.specs.Walk.{bytes_of_item}
use Rattle.asm80_first_walk.proofs.size.size_of_bytes.Given as goal

abbrev pub invariant-loop-arg : goal.invariant-loop-arg
invariant-loop-arg l = l.size ≡ sum_by bytes_of_item (take l.arg-index (map operand_of l.args)) % 0x10000
