use Rattle.std.proofs.Common.{◌≡◌, ◌∙◌, ◌+◌, true}
use Rattle.dialogue.specs.Shape.{seen_by_view}
use Rattle.dialogue.specs.Places.{passes}
use Rattle.dialogue.proofs.Cells.{all_cells-next}
use Rattle.dialogue.proofs.shape.all_cells.Goals as goal

pub loop-k-preserved : goal.loop-k-preserved
loop-k-preserved g c =
    let p = passes c.args.access (seen_by_view (g.V.View.byte_at c.args.view.now) (g.V.View.is_writable c.args.view.now)) in
    let has : p (c.args.range.at + c.loop-k.k) ≡ true = cc in
    all_cells-next p c.args.range.len c.args.range.at c.loop-k.k c.loop-k-test.true has ∙ c.loop-k.invariant
