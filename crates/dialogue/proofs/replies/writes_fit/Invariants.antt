use Rattle.std.proofs.Common.{◌≡◌, drop}
use Rattle.dialogue.specs.Fits.{writes_fit}
use Rattle.dialogue.specs.Shape.{ranges}
use Rattle.dialogue.proofs.replies.writes_fit.Given as goal

abbrev pub invariant-loop-place : goal.invariant-loop-place
invariant-loop-place l =
    writes_fit (ranges (drop l.place-index l.places)) l.left ≡ writes_fit (ranges l.places) l.fn.blocks
