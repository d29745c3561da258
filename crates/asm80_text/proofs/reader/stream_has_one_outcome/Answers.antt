use Rattle.asm80_text.proofs.Unique.{one_gift}
use Rattle.asm80_text.proofs.reader.stream_has_one_outcome.Goals as goal

pub returns : goal.returns
returns g c = one_gift g.N.Notation.spelling c.spelling_is_coherent.ensures
