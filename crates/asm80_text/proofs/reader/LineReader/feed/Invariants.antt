use Rattle.std.proofs.Common.{◌≡◌, ◌≢◌, None, length, true}
use Rattle.asm80_text.specs.Reader.{Advances}
use Rattle.asm80_text.proofs.reader.LineReader.feed.Given as goal

abbrev pub invariant-loop-rest : goal.invariant-loop-rest
invariant-loop-rest g l = record {
  grows : Advances g.N.Notation.spelling l.piece l.rest l.fn.self l.self;
  stands : l.fn.self.fault ≢ None → l.self ≡ l.fn.self;
  closed : l.fn.self.is_closed ≡ true → l.self ≡ l.fn.self;
}

abbrev pub decreases-loop-rest : goal.decreases-loop-rest
decreases-loop-rest g l = length l.rest
