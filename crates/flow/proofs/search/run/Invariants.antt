use Rattle.std.proofs.Common.{◌+◌, ◌≤◌}
use Rattle.std.specs.List.{sum_by}
use Rattle.std.specs.Vec.{vec_capacity}
use Rattle.flow.specs.Rounds.{IsRound}
use Rattle.flow.specs.Search.{IsQueue, credit, visits_left}
use Rattle.flow.proofs.search.run.Given as goal

abbrev pub invariant-loop-at : goal.invariant-loop-at
invariant-loop-at g l = record {
  queue : IsQueue l.vertices l.work.items (vec_capacity l.work);
  round : IsRound l.sources l.initial.vertices l.vertices;
  cost : l.steps + visits_left l.sources l.vertices ≤ l.initial.steps + visits_left l.sources l.initial.vertices;
}

abbrev pub decreases-loop-at : goal.decreases-loop-at
decreases-loop-at g l = sum_by credit l.vertices
