use Rattle.std.proofs.Common.{◌≡◌, ◌<◌, ℕ, length, get_or}
use Rattle.std.specs.Vec.{vec_capacity}
use Rattle.flow.proofs.begin.numbers.Given as goal

abbrev pub invariant-loop-number : goal.invariant-loop-number
invariant-loop-number l = record {
  count : length l.work.items ≡ l.number;
  each : (k : ℕ) → k < l.number → get_or l.work.items k 0 ≡ k;
  room : vec_capacity l.work ≡ l.count;
}
