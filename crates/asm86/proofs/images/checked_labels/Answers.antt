use Rattle.std.proofs.Common.{inr}
use Rattle.asm86.proofs.images.checked_labels.Goals as goal

pub returns-in-Some : goal.returns-in-Some
returns-in-Some c = inr c.in-Some.ensures

pub returns-in-None : goal.returns-in-None
returns-in-None c = c.in-None.ensures
