use Rattle.std.proofs.Common.{◌≡◌, ◌++◌, take}
use Rattle.asm86.specs.Reader.{IsListed}
use Rattle.asm86.specs.Stream.{lines_of_number}
use Rattle.asm86.proofs.listing.Listing.add.Given as goal

abbrev pub invariant-loop-stmt : goal.invariant-loop-stmt
invariant-loop-stmt l = record {
  listed : IsListed l.self;
  lines : l.self.lines.items ≡ l.fn.self.lines.items ++ lines_of_number l.number (take l.stmt-index l.stmts);
  number : l.self.number ≡ l.fn.self.number;
}
