use Rattle.std.proofs.Common.{◌≡◌, ◌+◌, ◌-◌, ◌++◌}
use Rattle.dialogue.specs.Shape.{seen_by_view, bytes_seen}
use Rattle.dialogue.proofs.shape.block_of.Given as goal

abbrev pub invariant-loop-k : goal.invariant-loop-k
invariant-loop-k g l =
    let seen = seen_by_view (g.V.View.byte_at l.view) (g.V.View.is_writable l.view) in
    l.bytes.items ++ bytes_seen seen (l.range.len - l.k) (l.range.at + l.k) ≡ bytes_seen seen l.range.len l.range.at
