use Rattle.std.proofs.Common.{◌≡◌, ◌++◌, drop}
use Rattle.std.specs.Prelude.{map}
use Rattle.std.specs.List.{All}
use Rattle.dialogue.specs.Shape.{seen_by_view, block_seen, ranges}
use Rattle.dialogue.proofs.LawfulShapes.{Ends}
use Rattle.dialogue.proofs.shape.request_of.Given as goal

abbrev pub invariant-loop-place : goal.invariant-loop-place
invariant-loop-place g l =
    let seen = seen_by_view (g.V.View.byte_at l.view) (g.V.View.is_writable l.view) in
    record {
      ends : All Ends (ranges (drop l.place-index l.shape.reads));
      blocks : l.blocks.items ++ map (block_seen seen) (ranges (drop l.place-index l.shape.reads)) ≡ map (block_seen seen) (ranges l.shape.reads);
    }
