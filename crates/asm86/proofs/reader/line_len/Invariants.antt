use Rattle.std.proofs.Common.{◌≡◌, ◌+◌, drop}
use Rattle.asm86.specs.Stream.{line_len}
use Rattle.asm86.proofs.reader.line_len.Given as goal

abbrev pub invariant-loop-b : goal.invariant-loop-b
invariant-loop-b l = record {
  at : l.count ≡ l.b-index;
  so_far : line_len l.bytes ≡ l.b-index + line_len (drop l.b-index l.bytes);
}
