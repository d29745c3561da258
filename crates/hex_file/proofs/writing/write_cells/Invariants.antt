use Rattle.std.proofs.Common.{length}
use Rattle.hex_file.proofs.Running.{WritesOn}
use Rattle.hex_file.proofs.writing.write_cells.Given as goal

abbrev pub invariant-loop-rest : goal.invariant-loop-rest
invariant-loop-rest l = WritesOn l.cells l.rest l.text.items

abbrev pub decreases-loop-rest : goal.decreases-loop-rest
decreases-loop-rest l = length l.rest
