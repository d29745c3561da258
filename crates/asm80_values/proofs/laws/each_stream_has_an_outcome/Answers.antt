use Rattle.asm80_values.proofs.Streams80.{has_outcome}
use Rattle.asm80_values.proofs.laws.each_stream_has_an_outcome.Goals as goal

pub returns : goal.returns
returns g c = has_outcome g.N.Notation.spelling
