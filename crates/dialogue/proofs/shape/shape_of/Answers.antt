use Rattle.std.proofs.Common.{◌∙◌}
use Rattle.dialogue.specs.Shape.{Seen, seen_by_view}
use Rattle.dialogue.proofs.Rows.{shape_by-row_of}
use Rattle.dialogue.proofs.shape.shape_of.Goals as goal

pub returns-in-Some-row_of : goal.returns-in-Some-row_of
returns-in-Some-row_of g c =
    let seen : Seen = seen_by_view (g.V.View.byte_at c.args.view.now) (g.V.View.is_writable c.args.view.now) in
    rw c.in-Some.is
    (c.shape_by.ensures
    ∙ shape_by-row_of c.in-Some.function c.in-Some-row_of.row c.args.d c.args.e c.args.dma seen c.in-Some-row_of.ensures.row)
