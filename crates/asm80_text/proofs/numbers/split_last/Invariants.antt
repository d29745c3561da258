use Rattle.std.proofs.Common.{◌≡◌, length}
use Rattle.asm80_text.specs.Letters.{significant}
use Rattle.asm80_text.proofs.numbers.split_last.Given as goal

abbrev pub invariant-loop-last : goal.invariant-loop-last
invariant-loop-last l = significant l.text ≡ significant l.rest

abbrev pub decreases-loop-last : goal.decreases-loop-last
decreases-loop-last l = length l.rest
