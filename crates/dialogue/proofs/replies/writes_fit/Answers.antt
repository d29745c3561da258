use Rattle.std.proofs.Common.{◌≡◌, ◌∙◌, sym, refl, ap, List, [], ◌∷◌, length}
use Rattle.std.proofs.Math.ListN.{drop_of_length-le}
use Rattle.std.proofs.Math.Dec.{eqb-suc-zero}
use Rattle.std.specs.Prelude.{◌==◌}
use Rattle.dialogue.specs.declared.blocks.Block.{Block}
use Rattle.dialogue.specs.Fits.{writes_fit}
use Rattle.dialogue.specs.Shape.{ranges}
use Rattle.dialogue.proofs.replies.writes_fit.Goals as goal

-- where no range is left, no block may be
none_left : (bs : List Block) → (length bs == 0) ≡ writes_fit [] bs
none_left [] = refl
none_left (b ∷ bs) = eqb-suc-zero (length bs)

pub returns : goal.returns
returns c =
    c.is_empty.ensures
    ∙ none_left c.loop-place.left.now
    ∙ sym (ap (λ places. writes_fit (ranges places) c.loop-place.left.now)
    (drop_of_length-le c.args.places.now {i = c.loop-place.place-index} c.loop-place-test.false))
    ∙ c.loop-place.invariant
