use Rattle.asm80_values.proofs.StreamRanges.{stream_range}
use Rattle.asm80_values.proofs.laws.statements_of_a_stream_are_in_range.Goals as goal

pub returns : goal.returns
returns g c = stream_range g.N.Notation.spelling c.spelling_is_coherent.ensures
