use Rattle.std.proofs.Common.{◌≡◌, length}
use Rattle.dialogue.specs.Shape.{seen_by_view}
use Rattle.dialogue.proofs.Placed.{ArePlaced}
use Rattle.dialogue.proofs.shape.places_within.Given as goal

abbrev pub invariant-loop-k : goal.invariant-loop-k
invariant-loop-k g l =
    let seen = seen_by_view (g.V.View.byte_at l.view) (g.V.View.is_writable l.view) in
    record {
      size : length l.places ≡ length l.extents;
      placed : ArePlaced l.access seen l.de l.dma l.extents l.k l.places;
    }
