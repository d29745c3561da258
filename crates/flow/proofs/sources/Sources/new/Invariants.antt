use Rattle.std.proofs.Common.{◌≡◌, [], length, replicate}
use Rattle.std.specs.Vec.{vec_capacity}
use Rattle.flow.specs.Wiring.{rows_of}
use Rattle.flow.proofs.sources.Sources.new.Given as goal

abbrev pub invariant-loop : goal.invariant-loop
invariant-loop l = record {
  rows : rows_of l.rows.items ≡ replicate l.counter [];
  count : length l.rows.items ≡ l.counter;
  room : vec_capacity l.rows ≡ l.count;
}
