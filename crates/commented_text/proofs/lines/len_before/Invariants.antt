use Rattle.std.proofs.Common.{◌≡◌, ◌==◌, ◌+◌, not, drop}
use Rattle.std.specs.List.{prefix_len}
use Rattle.commented_text.proofs.lines.len_before.Given as goal

abbrev pub invariant-loop-b : goal.invariant-loop-b
invariant-loop-b l = record {
  at : l.count ≡ l.b-index;
  so_far : prefix_len (λ b. not (b == l.end)) l.bytes ≡ l.b-index + prefix_len (λ b. not (b == l.end)) (drop l.b-index l.bytes);
}
