use Rattle.asm80_text.proofs.Lexing.{one_reading}
use Rattle.asm80_text.proofs.tokens.line_has_one_reading.Goals as goal

pub returns : goal.returns
returns g c = λ line ts us f g x y. one_reading x y
