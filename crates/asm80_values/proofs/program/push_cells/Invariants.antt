use Rattle.std.proofs.Common.{◌≡◌, ◌++◌, take}
use Rattle.asm80_source_def.specs.Items.{laid_from}
use Rattle.asm80_values.proofs.program.push_cells.Given as goal

abbrev pub invariant-loop-k : goal.invariant-loop-k
invariant-loop-k l = l.laid.items ≡ l.initial.laid.items ++ laid_from l.at (take l.k l.cells)
