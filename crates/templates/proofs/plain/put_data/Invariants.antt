use Rattle.std.proofs.Common.{◌≡◌, ◌+◌, ◌*◌, ◌≤◌, ◌++◌, drop, length}
use Rattle.templates.specs.Plain.{data_from}
use Rattle.templates.proofs.plain.put_data.Given as goal

abbrev pub invariant-loop-at : goal.invariant-loop-at
invariant-loop-at l = record {
  so_far : l.text ++ data_from l.next (drop l.at-index l.cells) ≡ l.fn.text ++ data_from 0 l.cells;
  most : length l.text ≤ length l.fn.text + 2 * l.at-index;
}
