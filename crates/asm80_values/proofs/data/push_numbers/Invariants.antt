use Rattle.std.proofs.Common.{◌≡◌, ◌++◌, take}
use Rattle.asm80_source_def.specs.Items.{numbers}
use Rattle.asm80_values.proofs.data.push_numbers.Given as goal

abbrev pub invariant-loop-byte : goal.invariant-loop-byte
invariant-loop-byte l = l.cells.items ≡ l.initial.cells.items ++ numbers (take l.byte-index l.bytes)
