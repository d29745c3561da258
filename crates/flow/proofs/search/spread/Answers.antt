use Rattle.std.proofs.Common.{◌≡◌, ℕ, ◌+◌, ◌<◌, ◌≤◌, length, get_or, sym, subst, arith}
use Rattle.std.proofs.lemmas.List.{take_all}
use Rattle.flow.specs.Search.{IsSpread}
use Rattle.flow.proofs.Spreads.{spread_none, spread_more}
use Rattle.flow.proofs.search.spread.Goals as goal

no_step : (steps : ℕ) → steps ≡ steps + 0
no_step steps = omega arith

all_steps : (steps old i n : ℕ) → steps ≡ old + i → i ≤ n → n ≤ i → steps ≡ old + n
all_steps steps old i n e below above = omega (arith, e, below, above)

one_step : (steps old new i : ℕ) → new ≡ steps + 1 → steps ≡ old + i → new ≡ old + (i + 1)
one_step steps old new i more before = omega arith

pub loop-from-init : goal.loop-from-init
loop-from-init g c = record { queue = c.requires.queue; spread = spread_none c.args.passed c.args.vertices.now; step = no_step c.args.steps.now }

pub visit-requires-clause-within : goal.visit-requires-clause-within
visit-requires-clause-within g c =
    subst (λ n. get_or c.args.sources.now c.loop-from.from-index 0 < n) (sym c.loop-from.auto.vertices) (c.requires.within c.loop-from.from-index 0 c.loop-from-test.true)

pub visit-requires-clause-queue : goal.visit-requires-clause-queue
visit-requires-clause-queue g c = c.loop-from.invariant.queue

pub returns-clause-queue : goal.returns-clause-queue
returns-clause-queue g c = c.loop-from.invariant.queue

pub returns-clause-spread : goal.returns-clause-spread
returns-clause-spread g c =
    subst (λ xs. IsSpread xs c.args.passed c.args.vertices.now c.loop-from.vertices) (take_all c.loop-from.from-index c.args.sources.now c.loop-from-test.false) c.loop-from.invariant.spread

pub returns-clause-step : goal.returns-clause-step
returns-clause-step g c =
    all_steps c.loop-from.steps c.args.steps.now c.loop-from.from-index (length c.args.sources.now) c.loop-from.invariant.step c.loop-from.auto.from-index-end c.loop-from-test.false

pub loop-from-preserved : goal.loop-from-preserved
loop-from-preserved g c = record {
  queue = c.visit.ensures.queue;
  spread = spread_more c.args.sources.now c.loop-from.from-index 0 c.args.passed c.args.vertices.now c.loop-from.vertices c.visit.new.vertices c.loop-from-test.true c.loop-from.invariant.spread c.visit.ensures.visited;
  step = one_step c.loop-from.steps c.args.steps.now c.visit.new.steps c.loop-from.from-index c.visit.ensures.step c.loop-from.invariant.step;
}
