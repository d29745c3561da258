use Rattle.std.proofs.Common.{◌≡◌, ◌++◌, map, take}
use Rattle.cmd_explain.specs.Lines.{blank_for_tab}
use Rattle.cmd_explain.proofs.lines.tell_statement.Given as goal

abbrev pub invariant-loop-byte : goal.invariant-loop-byte
invariant-loop-byte l = l.told.items ≡ l.initial.told.items ++ map blank_for_tab (take l.byte-index l.byte-items)
