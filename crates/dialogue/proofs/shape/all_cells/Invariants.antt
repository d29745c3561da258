use Rattle.std.proofs.Common.{◌≡◌, ◌+◌, ◌-◌}
use Rattle.dialogue.specs.Shape.{seen_by_view, all_cells}
use Rattle.dialogue.specs.Places.{passes}
use Rattle.dialogue.proofs.shape.all_cells.Given as goal

abbrev pub invariant-loop-k : goal.invariant-loop-k
invariant-loop-k g l =
    let p = passes l.access (seen_by_view (g.V.View.byte_at l.view) (g.V.View.is_writable l.view)) in
    all_cells p (l.range.len - l.k) (l.range.at + l.k) ≡ all_cells p l.range.len l.range.at
