-- The work list, where a vertex changes and joins it or is taken from it.
use Rattle.std.proofs.Common.{◌≡◌, ◌≢◌, ℕ, ◌+◌, ◌<◌, Bool, true, false, cond, List, [], ◌∷◌, ◌++◌, length, get_or, refl, sym, ap, subst, ◌∙◌, ⊎_elim, arith, length-set, get_or-set_same, get_or-set_other}
use Rattle.std.specs.List.{count_by}
use Rattle.std.proofs.Math.ListN.{set}
use Rattle.std.proofs.lemmas.Bool.{cases_eq, cases_lt, both_ways}
use Rattle.std.proofs.lemmas.List.{get_or_append_left, get_or_push, length_push}
use Rattle.std.proofs.lemmas.List.Sums.{sum_by-set, count_by-le-length}
use Rattle.flow.specs.declared.search.Vertex.{Vertex}
use Rattle.flow.specs.Search.{vertex, no_vertex, IsQueue}

abbrev waiting : Vertex → Bool
waiting v = v.waits

abbrev pub one_if : Bool → ℕ
one_if b = cond b 1 0

counted : (vs : List Vertex) (k : ℕ) (v : Vertex) → k < length vs → count_by waiting (set vs k v) + one_if (vertex vs k).waits ≡ count_by waiting vs + one_if v.waits
counted vs k v lt = sum_by-set (λ (w : Vertex). one_if w.waits) vs k v no_vertex lt

-- one that does not wait has room
pub has_room : (vs : List Vertex) (work : List ℕ) (capacity k : ℕ) (v : Vertex) → IsQueue vs work capacity → k < length vs → (vertex vs k).waits ≡ false → v.waits ≡ true → length work < capacity
has_room vs work capacity k v q lt idle busy =
    let c = counted vs k v lt in
    let before : one_if (vertex vs k).waits ≡ 0 = ap one_if idle in
    let after : one_if v.waits ≡ 1 = ap one_if busy in
    let fits = count_by-le-length waiting (set vs k v) in
    let kept = length-set vs k v in
    omega (arith, c, before, after, fits, kept, q.count, q.room)

-- a vertex that did not wait joins
pub longer_queue : (vs : List Vertex) (work : List ℕ) (capacity k : ℕ) (v : Vertex) → IsQueue vs work capacity → k < length vs → (vertex vs k).waits ≡ false → v.waits ≡ true → IsQueue (set vs k v) (work ++ k ∷ []) capacity
longer_queue vs work capacity k v q lt was is = record {
  within = λ j h. rw length-set (at_each (λ n. n < length vs) (λ i lt'. q.within i lt') lt j h);
  waits = λ j h. at_each (λ n. (vertex (set vs k v) n).waits ≡ true) (λ i lt'. waits_at (get_or work i 0) (q.waits i lt')) here j h;
  once = once';
  count = omega (arith, counted vs k v lt, ap one_if was, ap one_if is, q.count, length_push work k);
  room = rw length-set q.room;
}
  where
    here : (vertex (set vs k v) k).waits ≡ true
    here = ap waiting (get_or-set_same vs k v no_vertex lt) ∙ is

    waits_at : (at : ℕ) → (vertex vs at).waits ≡ true → (vertex (set vs k v) at).waits ≡ true
    waits_at at w = ⊎_elim (λ same. subst (λ n. (vertex (set vs k v) n).waits ≡ true) (sym same) here) (λ other. ap waiting (get_or-set_other vs k at v no_vertex other) ∙ w) (cases_eq at k)

    at_each : (P : ℕ → Type 0) → ((i : ℕ) → i < length work → P (get_or work i 0)) → P k → (j : ℕ) → j < length (work ++ k ∷ []) → P (get_or (work ++ k ∷ []) j 0)
    at_each P old new j h =
        ⊎_elim
        (λ lt'. subst P (sym (get_or_append_left work (k ∷ []) 0 j lt')) (old j lt'))
        (λ ge.
        let last : length work ≡ j = omega (arith, ge, h, length_push work k) in
        subst P (sym (get_or_push work k 0 j last)) new)
        (cases_lt j (length work))

    -- no entry so far is the new one
    fresh : (j : ℕ) → j < length work → get_or work j 0 ≢ k
    fresh j h same = both_ways (vertex vs k).waits was (subst (λ n. (vertex vs n).waits ≡ true) same (q.waits j h))

    once' : (i j : ℕ) → i < length (work ++ k ∷ []) → j < length (work ++ k ∷ []) → get_or (work ++ k ∷ []) i 0 ≡ get_or (work ++ k ∷ []) j 0 → i ≡ j
    once' i j hi hj same =
        ⊎_elim
        (λ lti. ⊎_elim
        (λ ltj. q.once i j lti ltj (sym (get_or_append_left work (k ∷ []) 0 i lti) ∙ same ∙ get_or_append_left work (k ∷ []) 0 j ltj))
        (λ gej. absurd (fresh i lti (sym (get_or_append_left work (k ∷ []) 0 i lti) ∙ same ∙ get_or_push work k 0 j (omega (arith, gej, hj, length_push work k)))))
        (cases_lt j (length work)))
        (λ gei. ⊎_elim
        (λ ltj. absurd (fresh j ltj (sym (get_or_append_left work (k ∷ []) 0 j ltj) ∙ sym same ∙ get_or_push work k 0 i (omega (arith, gei, hi, length_push work k)))))
        (λ gej. omega (arith, gei, gej, hi, hj, length_push work k))
        (cases_lt j (length work)))
        (cases_lt i (length work))

-- a vertex that waits changes and still waits
pub same_queue : (vs : List Vertex) (work : List ℕ) (capacity k : ℕ) (v : Vertex) → IsQueue vs work capacity → k < length vs → (vertex vs k).waits ≡ true → v.waits ≡ true → IsQueue (set vs k v) work capacity
same_queue vs work capacity k v q lt was is = record {
  within = λ j h. rw length-set (q.within j h);
  waits = λ j h. waits_at (get_or work j 0) (q.waits j h);
  once = q.once;
  count = omega (arith, counted vs k v lt, ap one_if was, ap one_if is, q.count);
  room = rw length-set q.room;
}
  where
    waits_at : (at : ℕ) → (vertex vs at).waits ≡ true → (vertex (set vs k v) at).waits ≡ true
    waits_at at w =
        ⊎_elim
        (λ same. subst (λ n. (vertex (set vs k v) n).waits ≡ true) (sym same) (ap waiting (get_or-set_same vs k v no_vertex lt) ∙ is))
        (λ other. ap waiting (get_or-set_other vs k at v no_vertex other) ∙ w)
        (cases_eq at k)

-- the last one is taken
pub shorter_queue : (vs : List Vertex) (work : List ℕ) (capacity k : ℕ) (v : Vertex) → IsQueue vs (work ++ k ∷ []) capacity → v.waits ≡ false → (k < length vs) × ((vertex vs k).waits ≡ true) × IsQueue (set vs k v) work capacity
shorter_queue vs work capacity k v q idle = (
  within',
  was,
  record {
    within = λ j h. rw length-set (subst (λ n. n < length vs) (front j h) (q.within j (more j h)));
    waits = λ j h. ap waiting (get_or-set_other vs k (get_or work j 0) v no_vertex (other j h)) ∙ subst (λ n. (vertex vs n).waits ≡ true) (front j h) (q.waits j (more j h));
    once = λ i j hi hj same. q.once i j (more i hi) (more j hj) (front i hi ∙ same ∙ sym (front j hj));
    count = omega (arith, counted vs k v within', ap one_if was, ap one_if idle, q.count, length_push work k);
    room = rw length-set q.room;
  },
)
  where
    last : get_or (work ++ k ∷ []) (length work) 0 ≡ k
    last = get_or_push work k 0 (length work) refl

    at_end : length work < length (work ++ k ∷ [])
    at_end = omega (arith, length_push work k)

    within' : k < length vs
    within' = subst (λ n. n < length vs) last (q.within (length work) at_end)

    was : (vertex vs k).waits ≡ true
    was = subst (λ n. (vertex vs n).waits ≡ true) last (q.waits (length work) at_end)

    more : (j : ℕ) → j < length work → j < length (work ++ k ∷ [])
    more j h = omega (arith, h, length_push work k)

    front : (j : ℕ) → j < length work → get_or (work ++ k ∷ []) j 0 ≡ get_or work j 0
    front j h = get_or_append_left work (k ∷ []) 0 j h

    other : (j : ℕ) → j < length work → get_or work j 0 ≢ k
    other j h same =
        let at : j ≡ length work = q.once j (length work) (more j h) at_end (front j h ∙ same ∙ sym last) in
        omega (arith, at, h)
