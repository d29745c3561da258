use Rattle.std.proofs.Common.{◌≡◌, ◌-◌, ◌<◌, ◌≤◌, length, take}
use Rattle.std.specs.List.{enumerate_from}
use Rattle.std.specs.Map.{values_of}
use Rattle.hex_file.specs.Written.{first_address}
use Rattle.hex_file.proofs.writing.run_length.Given as goal

abbrev pub invariant-loop-count : goal.invariant-loop-count
invariant-loop-count l = record {
  some : 0 < l.count;
  within : l.count ≤ length l.cells;
  most : l.count ≤ 16;
  adjacent : take l.count l.cells ≡ enumerate_from (first_address l.cells) (values_of (take l.count l.cells));
}

abbrev pub decreases-loop-count : goal.decreases-loop-count
decreases-loop-count l = 16 - l.count
