use Rattle.std.proofs.Common.{◌∙◌}
use Rattle.asm80_types.proofs.Marks.{found_one}
use Rattle.asm80_types.proofs.taken.mark.Goals as goal

pub returns-in-Some : goal.returns-in-Some
returns-in-Some c = λ a. rw c.in-Some.is (c.insert.ensures.value a ∙ found_one _ _)
