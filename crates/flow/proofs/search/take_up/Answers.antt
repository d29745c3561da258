use Rattle.std.proofs.Common.{◌≡◌, ◌<◌, ℕ, List, length, refl, sym, ap, subst, arith, length-set, get_or}
use Rattle.std.proofs.Math.ListN.{set}
use Rattle.std.proofs.lemmas.List.{get_or_read}
use Rattle.std.proofs.lemmas.List.Elements.{Contains-get_or}
use Rattle.std.specs.List.{Contains}
use Rattle.std.specs.Vec.{vec_capacity}
use Rattle.flow.specs.declared.search.Vertex.{Vertex}
use Rattle.flow.specs.Search.{vertex, no_vertex, row, IsQueue, IsSpread}
use Rattle.flow.proofs.Queue.{shorter_queue}
use Rattle.flow.proofs.Rounds.{woken, round, fewer_credits, fewer_visits}
use Rattle.flow.proofs.search.take_up.Goals as goal

pub bounds-vertices-at : goal.bounds-vertices-at
bounds-vertices-at g c = (shorter_queue c.args.vertices.now c.args.work.now.items (vec_capacity c.args.work.now) c.args.at (woken (vertex c.args.vertices.now c.args.at)) c.requires.queue refl).0

pub bounds-vertices-at-2 : goal.bounds-vertices-at-2
bounds-vertices-at-2 g c = (shorter_queue c.args.vertices.now c.args.work.now.items (vec_capacity c.args.work.now) c.args.at (woken (vertex c.args.vertices.now c.args.at)) c.requires.queue refl).0

pub of-requires : goal.of-requires
of-requires g c =
    subst (λ n. c.args.at < n) (sym c.requires.sized)
    (shorter_queue c.args.vertices.now c.args.work.now.items (vec_capacity c.args.work.now) c.args.at (woken (vertex c.args.vertices.now c.args.at)) c.requires.queue refl).0

pub spread-requires-clause-within : goal.spread-requires-clause-within
spread-requires-clause-within g c = λ k d lt.
    let among : Contains c.of.result.now (get_or c.of.result.now k d) = Contains-get_or c.of.result.now k d lt in
    let within = c.requires.within (get_or c.of.result.now k d) c.args.at (subst (λ xs. Contains xs (get_or c.of.result.now k d)) c.of.ensures among) in
    rw length-set within

pub spread-requires-clause-queue : goal.spread-requires-clause-queue
spread-requires-clause-queue g c =
    let taken = shorter_queue c.args.vertices.now c.args.work.now.items (vec_capacity c.args.work.now) c.args.at (woken (vertex c.args.vertices.now c.args.at)) c.requires.queue refl in
    let read : c.index-vertices-at.result ≡ vertex c.args.vertices.now c.args.at = get_or_read _ _ _ taken.0 c.index-vertices-at.is no_vertex in
    subst (λ (v : Vertex). IsQueue (set c.args.vertices.now c.args.at (woken v)) c.args.work.now.items (vec_capacity c.args.work.now)) (sym read) taken.2

spread_at : (ss : List (List ℕ)) (vs new : List Vertex) (sources : List ℕ) (at : ℕ) (v : Vertex) → v ≡ vertex vs at → sources ≡ row ss at → IsSpread sources v.need (set vs at (woken v)) new → IsSpread (row ss at) (vertex vs at).need (set vs at (woken (vertex vs at))) new
spread_at ss vs new sources at v read is s = subst (λ (w : Vertex). IsSpread (row ss at) w.need (set vs at (woken w)) new) read (subst (λ xs. IsSpread xs v.need (set vs at (woken v)) new) is s)

pub returns-clause-round : goal.returns-clause-round
returns-clause-round g c =
    let taken = shorter_queue c.args.vertices.now c.args.work.now.items (vec_capacity c.args.work.now) c.args.at (woken (vertex c.args.vertices.now c.args.at)) c.requires.queue refl in
    let read : c.index-vertices-at.result ≡ vertex c.args.vertices.now c.args.at = get_or_read _ _ _ taken.0 c.index-vertices-at.is no_vertex in
    round c.args.sources.now c.args.vertices.now c.spread.new.vertices c.args.at taken.0 (spread_at c.args.sources.now c.args.vertices.now c.spread.new.vertices c.of.result.now c.args.at c.index-vertices-at.result read c.of.ensures c.spread.ensures.spread)

pub returns-clause-fewer : goal.returns-clause-fewer
returns-clause-fewer g c =
    let taken = shorter_queue c.args.vertices.now c.args.work.now.items (vec_capacity c.args.work.now) c.args.at (woken (vertex c.args.vertices.now c.args.at)) c.requires.queue refl in
    let read : c.index-vertices-at.result ≡ vertex c.args.vertices.now c.args.at = get_or_read _ _ _ taken.0 c.index-vertices-at.is no_vertex in
    fewer_credits c.args.sources.now c.args.vertices.now c.spread.new.vertices c.args.at taken.0 (spread_at c.args.sources.now c.args.vertices.now c.spread.new.vertices c.of.result.now c.args.at c.index-vertices-at.result read c.of.ensures c.spread.ensures.spread) taken.1

pub returns-clause-cost : goal.returns-clause-cost
returns-clause-cost g c =
    let taken = shorter_queue c.args.vertices.now c.args.work.now.items (vec_capacity c.args.work.now) c.args.at (woken (vertex c.args.vertices.now c.args.at)) c.requires.queue refl in
    let read : c.index-vertices-at.result ≡ vertex c.args.vertices.now c.args.at = get_or_read _ _ _ taken.0 c.index-vertices-at.is no_vertex in
    let fewer = fewer_visits c.args.sources.now c.args.vertices.now c.spread.new.vertices c.args.at taken.0 (spread_at c.args.sources.now c.args.vertices.now c.spread.new.vertices c.of.result.now c.args.at c.index-vertices-at.result read c.of.ensures c.spread.ensures.spread) taken.1 in
    let visits : length c.of.result.now ≡ length (row c.args.sources.now c.args.at) = ap length c.of.ensures in
    omega (arith, fewer, visits, c.spread.ensures.step)

pub offset_bounds-vertices-at : goal.offset_bounds-vertices-at
offset_bounds-vertices-at g c =
    let within : c.args.at < length c.args.vertices.now = (shorter_queue c.args.vertices.now c.args.work.now.items (vec_capacity c.args.work.now) c.args.at (woken (vertex c.args.vertices.now c.args.at)) c.requires.queue refl).0 in
    omega arith

pub offset_bounds-vertices-at-2 : goal.offset_bounds-vertices-at-2
offset_bounds-vertices-at-2 g c =
    let within : c.args.at < length c.args.vertices.now = (shorter_queue c.args.vertices.now c.args.work.now.items (vec_capacity c.args.work.now) c.args.at (woken (vertex c.args.vertices.now c.args.at)) c.requires.queue refl).0 in
    omega arith

pub returns-clause-queue : goal.returns-clause-queue
returns-clause-queue g c = c.spread.ensures.queue
