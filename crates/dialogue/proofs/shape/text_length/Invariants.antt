use Rattle.std.proofs.Common.{◌≡◌, ◌+◌, ◌-◌}
use Rattle.std.specs.Prelude.{option_map}
use Rattle.dialogue.specs.Shape.{seen_by_view, text_length}
use Rattle.dialogue.proofs.shape.text_length.Given as goal

abbrev pub invariant-loop-at : goal.invariant-loop-at
invariant-loop-at g l =
    let seen = seen_by_view (g.V.View.byte_at l.view) (g.V.View.is_writable l.view) in
    option_map (λ n. n + (l.at - l.de)) (text_length seen (0x10000 - l.at) l.at)
    ≡ text_length seen (0x10000 - l.de) l.de
