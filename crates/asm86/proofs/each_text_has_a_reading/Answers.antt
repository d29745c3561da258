use Rattle.asm86.proofs.Texts86.{is_read}
use Rattle.asm86.proofs.each_text_has_a_reading.Goals as goal

pub returns : goal.returns
returns c = is_read
