use Rattle.asm86.proofs.HavingImages.{never_neither}
use Rattle.asm86.proofs.lines_have_an_image_or_a_refusal.Goals as goal

pub returns : goal.returns
returns c = never_neither
