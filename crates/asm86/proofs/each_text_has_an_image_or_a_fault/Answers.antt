use Rattle.asm86.proofs.Decided86.{decided}
use Rattle.asm86.proofs.each_text_has_an_image_or_a_fault.Goals as goal

pub returns : goal.returns
returns c = decided
