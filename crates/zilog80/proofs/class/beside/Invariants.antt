use Rattle.std.proofs.Common.{◌≡◌, drop}
use Rattle.std.specs.Prelude.{find}
use Rattle.zilog80.proofs.Found.{is_beside}
use Rattle.zilog80.proofs.class.beside.Given as goal

abbrev pub invariant-loop-entry : goal.invariant-loop-entry
invariant-loop-entry l = find (is_beside l.word) (drop l.entry-index l.table) ≡ find (is_beside l.word) l.table
