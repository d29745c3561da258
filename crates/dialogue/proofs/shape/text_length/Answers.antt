use Rattle.std.proofs.Common.{◌∙◌, sym, arith}
use Rattle.std.proofs.lemmas.Bool.{ne_eqb}
use Rattle.dialogue.specs.Shape.{Seen, seen_by_view}
use Rattle.dialogue.proofs.Cells.{text_length-next}
use Rattle.dialogue.proofs.shape.text_length.Goals as goal

pub loop-at-preserved : goal.loop-at-preserved
loop-at-preserved g c =
    let seen : Seen = seen_by_view (g.V.View.byte_at c.args.view.now) (g.V.View.is_writable c.args.view.now) in
    text_length-next seen c.args.de c.loop-at.at c.in_ok-byte.byte (omega arith) c.loop-at-test.true
    (sym c.byte.ensures ∙ c.in_ok-byte.was) (ne_eqb _ _ c.if-byte-eq36.false)
    ∙ c.loop-at.invariant
