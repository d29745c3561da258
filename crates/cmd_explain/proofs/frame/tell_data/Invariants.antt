use Rattle.std.proofs.Common.{◌≡◌, ◌↔◌}
use Rattle.std.specs.Prelude.{drop}
use Rattle.text_check.proofs.Cells.{AllStand}
use Rattle.cmd_explain.proofs.Data.{GoesOn}
use Rattle.cmd_explain.proofs.frame.tell_data.Given as goal

abbrev pub invariant-loop-at : goal.invariant-loop-at
invariant-loop-at l = record {
  kept : l.told.items ≡ l.initial.told.items;
  stand : AllStand l.image (drop l.at-index l.cells) ↔ AllStand l.image l.cells;
  told : GoesOn l.image l.cells l.at-index;
}
