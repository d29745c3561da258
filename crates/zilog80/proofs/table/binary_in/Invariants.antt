use Rattle.std.proofs.Common.{◌≡◌, drop}
use Rattle.std.specs.Prelude.{find}
use Rattle.zilog80.specs.Read.{fits_binary, spelt_of}
use Rattle.zilog80.proofs.table.binary_in.Given as goal

abbrev pub invariant-loop-row : goal.invariant-loop-row
invariant-loop-row l = find (fits_binary l.word (spelt_of l.left) (spelt_of l.right)) (drop l.row-index l.rows) ≡ find (fits_binary l.word (spelt_of l.left) (spelt_of l.right)) l.rows
