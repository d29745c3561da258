use Rattle.std.proofs.Common.{◌≡◌, ◌≤◌, drop}
use Rattle.std.specs.List.{fold}
use Rattle.cmd_file.specs.Written.{end_with, data_end}
use Rattle.cmd_file.proofs.file.data_end.Given as goal

abbrev pub invariant-loop-address : goal.invariant-loop-address
invariant-loop-address l = record { rest : fold end_with l.end (drop l.address-index l.cells) ≡ data_end l.cells; small : l.end ≤ 0x10000 }
