use Rattle.std.proofs.Common.{◌≡◌, ◌≢◌, None, length, true}
use Rattle.asm86.specs.Stream.{has_end}
use Rattle.asm86.specs.Reader.{Advances}
use Rattle.asm86.proofs.reader.Text86.feed.Given as goal

abbrev pub invariant-loop-rest : goal.invariant-loop-rest
invariant-loop-rest l = record {
  grows : Advances l.piece l.rest l.fn.self l.self;
  stands : l.fn.self.fault ≢ None → l.self ≡ l.fn.self;
  ended : has_end l.fn.self.lines ≡ true → l.self ≡ l.fn.self;
}

abbrev pub decreases-loop-rest : goal.decreases-loop-rest
decreases-loop-rest l = length l.rest
