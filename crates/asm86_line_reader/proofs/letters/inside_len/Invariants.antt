use Rattle.std.proofs.Common.{◌≡◌, ◌+◌, drop}
use Rattle.asm86_line_reader.specs.Letters.{inside_len}
use Rattle.asm86_line_reader.proofs.letters.inside_len.Given as goal

abbrev pub invariant-loop-b : goal.invariant-loop-b
invariant-loop-b l = record {
  at : l.count ≡ l.b-index;
  so_far : inside_len l.bytes ≡ l.b-index + inside_len (drop l.b-index l.bytes);
}
