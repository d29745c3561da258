use Rattle.std.proofs.Common.{refl}
use Rattle.asm80_text.proofs.Steps.{after_none}
use Rattle.asm80_text.proofs.reader.LineReader.new.Goals as goal

pub returns : goal.returns
returns g c = after_none g.N.Notation.spelling _ c.in_ok-with_capacity.ensures.items c.new.ensures refl refl refl
