use Rattle.std.proofs.Common.{◌↔◌}
use Rattle.std.specs.Prelude.{drop}
use Rattle.text_check.proofs.Cells.{AllStand}
use Rattle.text_check.proofs.data.data_stand.Given as goal

abbrev pub invariant-loop-at : goal.invariant-loop-at
invariant-loop-at l = AllStand l.image (drop l.at-index l.cells) ↔ AllStand l.image l.cells
