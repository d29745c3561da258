use Rattle.std.proofs.Common.{◌≡◌, ◌∙◌, ℕ, ◌+◌, ◌≤◌, List, sym, subst, append-nil, arith}
use Rattle.flow.specs.declared.search.Vertex.{Vertex}
use Rattle.std.specs.Vec.{vec_capacity}
use Rattle.flow.specs.Rounds.{IsRound}
use Rattle.flow.specs.Search.{IsQueue}
use Rattle.flow.proofs.search.run.Goals as goal

pub take_up-requires-clause-within : goal.take_up-requires-clause-within
take_up-requires-clause-within g c = λ j k among. omega (arith, c.requires.within j k among, c.loop-at.invariant.round.same_length)

round_more : (ss : List (List ℕ)) (old vs new : List Vertex) → IsRound ss old vs → IsRound ss vs new → IsRound ss old new
round_more ss old vs new a b = record {
  same_length = b.same_length ∙ a.same_length;
  passed_on = λ p. b.passed_on (a.passed_on p);
  needs = λ p wired of. b.needs p wired (a.needs p wired of);
}

cost_more : (a b c d e f : ℕ) → a + b ≤ c + d → c + d ≤ e + f → a + b ≤ e + f
cost_more a b c d e f h k = omega arith

pub loop-at-preserved : goal.loop-at-preserved
loop-at-preserved g c =
    let before = c.loop-at.invariant in
    record {
      queue = c.take_up.ensures.queue;
      round = round_more c.args.sources.now c.args.vertices.now c.loop-at.vertices c.take_up.new.vertices before.round c.take_up.ensures.round;
      cost = cost_more _ _ _ _ _ _ c.take_up.ensures.cost before.cost;
    }

-- the queue of the same numbers, with the same room
same_queue : (vs : List Vertex) (old new : List ℕ) (room left : ℕ) → old ≡ new → left ≡ room → IsQueue vs old room → IsQueue vs new left
same_queue vs old new room left same kept q = subst (λ n. IsQueue vs new n) (sym kept) (subst (λ xs. IsQueue vs xs room) same q)

pub take_up-requires-clause-queue : goal.take_up-requires-clause-queue
take_up-requires-clause-queue g c = same_queue c.loop-at.vertices c.loop-at.work.items _ (vec_capacity c.loop-at.work) (vec_capacity c.pop.new.self) c.in-Some.ensures.items c.pop.ensures.capacity c.loop-at.invariant.queue

pub returns-clause-queue : goal.returns-clause-queue
returns-clause-queue g c = same_queue c.loop-at.vertices c.loop-at.work.items _ (vec_capacity c.loop-at.work) (vec_capacity c.pop.new.self) (c.in_default.ensures.items ∙ append-nil _) c.pop.ensures.capacity c.loop-at.invariant.queue
