use Rattle.std.proofs.Common.{◌≡◌, Bool, true, false, refl, sym, ap, ◌∙◌, arith}
use Rattle.std.proofs.lemmas.Bool.{iff_false}
use Rattle.std.proofs.lemmas.List.{get_or_read}
use Rattle.std.specs.Vec.{vec_capacity}
use Rattle.flow.specs.declared.search.Vertex.{Vertex}
use Rattle.flow.specs.Search.{vertex, no_vertex}
use Rattle.flow.proofs.Queue.{has_room, longer_queue, same_queue}
use Rattle.flow.proofs.Visits.{changed_to, unchanged}
use Rattle.flow.proofs.search.visit.Goals as goal

waits_as : {v w : Vertex} (b : Bool) → v ≡ w → v.waits ≡ b → w.waits ≡ b
waits_as b e waits = sym (ap (λ (v : Vertex). v.waits) e) ∙ waits

pub push_reserved-requires : goal.push_reserved-requires
push_reserved-requires g c =
    let read : c.index-vertices-from.result ≡ vertex c.args.vertices.now c.args.from = get_or_read _ _ _ c.requires.within c.index-vertices-from.is no_vertex in
    let room = has_room c.args.vertices.now c.args.work.now.items (vec_capacity c.args.work.now) c.args.from (record no_vertex { waits = true }) c.requires.queue c.requires.within (waits_as false read c.if-not-vertex.true) refl in
    omega (arith, room, c.args.work.now.ok)

pub returns-then-eq : goal.returns-then-eq
returns-then-eq g c =
    let read : c.index-vertices-from.result ≡ vertex c.args.vertices.now c.args.from = get_or_read _ _ _ c.requires.within c.index-vertices-from.is no_vertex in
    record {
      queue = c.requires.queue;
      visited = unchanged _ _ _ _ _ c.index-vertices-from.result read c.join-need.ensures (c.eq.ensures.same.0 c.if-eq.true) c.without.ensures;
      step = c.tick.ensures;
    }

-- the node is put on the work list
pub returns-then-not-vertex : goal.returns-then-not-vertex
returns-then-not-vertex g c =
    let read : c.index-vertices-from.result ≡ vertex c.args.vertices.now c.args.from = get_or_read _ _ _ c.requires.within c.index-vertices-from.is no_vertex in
    record {
      queue =
          rw (c.push_reserved.ensures.items, c.push_reserved.ensures.capacity)
          (longer_queue c.args.vertices.now c.args.work.now.items (vec_capacity c.args.work.now) c.args.from _ c.requires.queue c.requires.within (waits_as false read c.if-not-vertex.true) refl);
      visited = changed_to _ _ _ _ _ c.index-vertices-from.result c.requires.within read c.join-need.ensures (iff_false c.eq.ensures.same c.if-eq.false) c.without.ensures;
      step = c.tick.ensures;
    }

-- it waits already
pub returns-else-not-vertex : goal.returns-else-not-vertex
returns-else-not-vertex g c =
    let read : c.index-vertices-from.result ≡ vertex c.args.vertices.now c.args.from = get_or_read _ _ _ c.requires.within c.index-vertices-from.is no_vertex in
    record {
      queue = same_queue c.args.vertices.now c.args.work.now.items (vec_capacity c.args.work.now) c.args.from _ c.requires.queue c.requires.within (waits_as true read c.if-not-vertex.false) refl;
      visited = changed_to _ _ _ _ _ c.index-vertices-from.result c.requires.within read c.join-need.ensures (iff_false c.eq.ensures.same c.if-eq.false) c.without.ensures;
      step = c.tick.ensures;
    }
