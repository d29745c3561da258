use Rattle.std.proofs.Common.{refl}
use Rattle.asm86.proofs.Steps.{after_none}
use Rattle.asm86.proofs.reader.Text86.new.Goals as goal

pub returns : goal.returns
returns c = after_none _ c.in_ok-new.ensures.lines c.in_ok-new.ensures.number c.new-2.ensures refl
