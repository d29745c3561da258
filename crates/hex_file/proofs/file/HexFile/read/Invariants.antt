use Rattle.std.proofs.Common.{◌+◌, ◌≤◌, length}
use Rattle.hex_file.proofs.Reading.{Reads, Fails}
use Rattle.hex_file.proofs.file.HexFile.read.Given as goal

abbrev pub invariant-loop-line : goal.invariant-loop-line
invariant-loop-line l = record {
  number : l.number + length l.rest ≤ length l.bytes + 1;
  reads : Reads l.bytes l.rest l.cells;
  fails : Fails l.bytes l.rest l.number;
}

abbrev pub decreases-loop-line : goal.decreases-loop-line
decreases-loop-line l = length l.rest
