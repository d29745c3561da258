use Rattle.std.proofs.Common.{◌≡◌, ◌∙◌, refl, arith, append-nil, [], drop}
use Rattle.std.proofs.Math.ListN.{drop_of_length-le}
use Rattle.std.specs.Prelude.{map}
use Rattle.dialogue.specs.Shape.{Seen, seen_by_view, block_seen, ranges}
use Rattle.dialogue.proofs.LawfulShapes.{Ends-drop, ranges-drop, map-ranges, made, made-ends, made-lawful}
use Rattle.dialogue.proofs.shape.request_of.Goals as goal

pub loop-place-init : goal.loop-place-init
loop-place-init g c =
    let seen : Seen = seen_by_view (g.V.View.byte_at c.args.view.now) (g.V.View.is_writable c.args.view.now) in
    record {
      ends = made-ends seen c.args.shape (made seen c.args.shape c.requires);
      blocks = rw c.new-blocks.ensures.items refl;
    }

pub push_block-requires : goal.push_block-requires
push_block-requires g c =
    (Ends-drop c.args.shape.reads c.loop-place.place-index (omega arith) c.loop-place.invariant.ends).0

pub loop-place-preserved : goal.loop-place-preserved
loop-place-preserved g c =
    let seen : Seen = seen_by_view (g.V.View.byte_at c.args.view.now) (g.V.View.is_writable c.args.view.now) in
    record {
      ends = (Ends-drop c.args.shape.reads c.loop-place.place-index (omega arith) c.loop-place.invariant.ends).1;
      blocks =
          map-ranges (block_seen seen) _ _ _ _ _ (ranges-drop c.args.shape.reads c.loop-place.place-index (omega arith)) c.in_ok-push_block.ensures
          ∙ c.loop-place.invariant.blocks;
    }

pub returns : goal.returns
returns g c =
    let seen : Seen = seen_by_view (g.V.View.byte_at c.args.view.now) (g.V.View.is_writable c.args.view.now) in
    let none : drop c.loop-place.place-index c.args.shape.reads ≡ [] =
    drop_of_length-le c.args.shape.reads {i = c.loop-place.place-index} (omega arith) in
    let whole = rw none at c.loop-place.invariant.blocks in
    let blocks : c.from_vec.result ≡ map (block_seen seen) (ranges c.args.shape.reads) =
    c.from_vec.ensures ∙ rw append-nil at whole in
    record {
      request = rw blocks refl;
      lawful = rw blocks (made-lawful seen c.args.shape (made seen c.args.shape c.requires));
    }
