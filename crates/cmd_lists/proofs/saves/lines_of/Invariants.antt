use Rattle.std.proofs.Common.{◌≡◌, map, take}
use Rattle.std.specs.String.{string_bytes}
use Rattle.cmd_lists.specs.Saves.{save_line}
use Rattle.cmd_lists.proofs.saves.lines_of.Given as goal

abbrev pub invariant-loop-saving : goal.invariant-loop-saving
invariant-loop-saving l = map string_bytes l.lines.items ≡ map save_line (take l.saving-index l.savings)
