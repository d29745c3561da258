use Rattle.std.proofs.Common.{◌≡◌, ◌+◌, drop}
use Rattle.std.specs.Prelude.{◌==◌}
use Rattle.std.specs.List.{position_or_len}
use Rattle.hex_file.proofs.lines.line_feed.Given as goal

abbrev pub invariant-loop-k : goal.invariant-loop-k
invariant-loop-k l = l.k + position_or_len (λ b. b == 10) (drop l.k l.text) ≡ position_or_len (λ b. b == 10) l.text
