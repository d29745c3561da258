use Rattle.std.proofs.Common.{◌≡◌, drop}
use Rattle.std.specs.List.{list_all}
use Rattle.shrink.specs.Apart.{is_label}
use Rattle.shrink.proofs.apart.are_labels.Given as goal

abbrev pub invariant-loop-line : goal.invariant-loop-line
invariant-loop-line l = list_all (λ line. is_label line.stmt) l.lines ≡ list_all (λ line. is_label line.stmt) (drop l.line-index l.lines)
