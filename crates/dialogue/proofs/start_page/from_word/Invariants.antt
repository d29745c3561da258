use Rattle.std.proofs.Common.{◌≡◌, length}
use Rattle.dialogue.specs.StartPage.{from_word}
use Rattle.dialogue.proofs.start_page.from_word.Given as goal

abbrev pub invariant-loop-left : goal.invariant-loop-left
invariant-loop-left l = from_word l.left ≡ from_word l.text

abbrev pub decreases-loop-left : goal.decreases-loop-left
decreases-loop-left l = length l.left
