use Rattle.asm86.proofs.Whole.{one_reading}
use Rattle.asm86.proofs.text_laws.text_has_one_reading.Goals as goal

pub returns : goal.returns
returns c = λ text a b x y. one_reading text a b x y
