use Rattle.std.proofs.Common.{◌≡◌, drop}
use Rattle.std.specs.Prelude.{find}
use Rattle.zilog80.specs.Read.{fits_unary, spelt_of}
use Rattle.zilog80.proofs.table.unary_in.Given as goal

abbrev pub invariant-loop-row : goal.invariant-loop-row
invariant-loop-row l = find (fits_unary l.word (spelt_of l.operand)) (drop l.row-index l.rows) ≡ find (fits_unary l.word (spelt_of l.operand)) l.rows
