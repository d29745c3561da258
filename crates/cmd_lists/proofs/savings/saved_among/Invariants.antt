use Rattle.std.proofs.Common.{◌≡◌, ◌≤◌, take}
use Rattle.std.specs.List.{count_by}
use Rattle.cmd_lists.specs.declared.savings.Saving.{Saving}
use Rattle.cmd_lists.specs.Saves.{saves_any}
use Rattle.cmd_lists.proofs.savings.saved_among.Given as goal

abbrev pub invariant-loop-saving : goal.invariant-loop-saving
invariant-loop-saving l = record {
  counted : l.count ≡ count_by (λ (s : Saving). saves_any s.keep) (take l.saving-index l.savings);
  few : l.count ≤ l.saving-index;
}
