use Rattle.std.proofs.Common.{◌≡◌, ◌+◌, take}
use Rattle.std.specs.Vec.{vec_capacity}
use Rattle.flow.specs.Search.{IsQueue, IsSpread}
use Rattle.flow.proofs.search.spread.Given as goal

abbrev pub invariant-loop-from : goal.invariant-loop-from
invariant-loop-from g l = record {
  queue : IsQueue l.vertices l.work.items (vec_capacity l.work);
  spread : IsSpread (take l.from-index l.sources) l.passed l.initial.vertices l.vertices;
  step : l.steps ≡ l.initial.steps + l.from-index;
}
