use Rattle.asm86_line_reader.proofs.Lines.{one_reading}
use Rattle.asm86_line_reader.proofs.line.line_has_one_reading.Goals as goal

pub returns : goal.returns
returns c = λ line r s x y. one_reading x y
