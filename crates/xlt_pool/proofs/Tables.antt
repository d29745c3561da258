-- A table stays one where an id is added, and where the last one is taken away; and what a search finds.
use Rattle.std.proofs.Common.{◌≡◌, ℕ, ◌+◌, ◌-◌, ◌%◌, ◌<◌, ◌≤◌, List, [], ◌∷◌, ◌++◌, length, Option, Some, None, get_or, sym, ap, subst, ◌∙◌, arith, ⊎_elim, length-append, length-set, get_or-set_same}
use Rattle.std.specs.Prelude.{is_none, count_by}
use Rattle.std.proofs.Math.ListN.{set}
use Rattle.std.proofs.lemmas.Bool.{cases_eq, cases_lt}
use Rattle.std.proofs.lemmas.List.{get_or_append_left, get_or_push}
use Rattle.std.proofs.lemmas.List.Sums.{sum_by-set}
use Rattle.std.proofs.lemmas.Option.{slice_get_within}
use Rattle.xlt_pool.specs.declared.node.Node.{Node}
use Rattle.xlt_pool.specs.Contents.{NodeStandsAt, IsAbsent, AreDistinct}
use Rattle.xlt_pool.specs.Table.{HasId, IsReached, IsTable, IsFreeFor, home_of}
use Rattle.xlt_pool.proofs.Places.{get_front, get_push}
use Rattle.xlt_pool.proofs.Slots.{slot_after_write, slot_within, other_slot, still_reached, if_empty, none_is_empty, slot_is_met}

-- a new node keeps the list distinct
pub distinct_with : (nodes : List Node) (node : Node) → AreDistinct nodes → IsAbsent nodes node → AreDistinct (nodes ++ node ∷ [])
distinct_with nodes node distinct absent i j x at_i at_j =
    ⊎_elim
    (λ old.
    ⊎_elim
    (λ old'. distinct i j x old old')
    (λ new'. absurd (absent i (subst (λ y. NodeStandsAt nodes i y) (sym new'.1) old)))
    (get_push nodes x node j at_j))
    (λ new.
    ⊎_elim
    (λ old'. absurd (absent j (subst (λ y. NodeStandsAt nodes j y) (sym new.1) old')))
    (λ new'. new.0 ∙ sym new'.0)
    (get_push nodes x node j at_j))
    (get_push nodes x node i at_i)

-- a new node's id goes to the empty slot where the search for it ended
pub table_with : (nodes : List Node) (slots : List (Option ℕ)) (node : Node) (at : ℕ) → IsTable nodes slots → IsFreeFor nodes slots node at → at < length slots → get_or slots at None ≡ None → length nodes + 1 < length slots → IsTable (nodes ++ node ∷ []) (set slots at (Some (length nodes)))
table_with nodes slots node at t free within empty room = record {
  distinct = distinct_with nodes node t.distinct free.absent;
  reached = λ id x stands. rw length-set (⊎_elim (λ old. was id x old) (λ new. subst (λ y. IsReached slots' size (home_of y size) id) new.1 (subst (λ k. IsReached slots' size (home_of node size) k) (sym new.0) last)) (get_push nodes x node id stands));
  held = λ k id e.
      let more : length (nodes ++ node ∷ []) ≡ length nodes + 1 = length-append nodes (node ∷ []) in
      ⊎_elim
      (λ same. let is : length nodes ≡ id = (let e' : Some (length nodes) ≡ Some id = same.1 in cc) in omega arith)
      (λ other. let below : id < length nodes = t.held k id other.1 in omega arith)
      (slot_after_write slots at k (Some (length nodes)) (Some id) within e);
  once = λ j k id e f.
      ⊎_elim
      (λ same. ⊎_elim (λ same'. same.0 ∙ sym same'.0) (λ other'. absurd (not_new k id same.1 other'.1)) (slot_after_write slots at k (Some (length nodes)) (Some id) within f))
      (λ other. ⊎_elim (λ same'. absurd (not_new j id same'.1 other.1)) (λ other'. t.once j k id other.1 other'.1) (slot_after_write slots at k (Some (length nodes)) (Some id) within f))
      (slot_after_write slots at j (Some (length nodes)) (Some id) within e);
  empty =
      let counted : count_by is_none slots' + if_empty (get_or slots at None) ≡ count_by is_none slots + 0 = sum_by-set if_empty slots at (Some (length nodes)) None within in
      let one : if_empty (get_or slots at None) ≡ 1 = ap if_empty empty in
      let sum : count_by is_none slots + length nodes ≡ length slots = t.empty in
      let kept : length slots' ≡ length slots = length-set slots at (Some (length nodes)) in
      let more : length (nodes ++ node ∷ []) ≡ length nodes + 1 = length-append nodes (node ∷ []) in
      omega arith;
  room =
      let kept : length slots' ≡ length slots = length-set slots at (Some (length nodes)) in
      let more : length (nodes ++ node ∷ []) ≡ length nodes + 1 = length-append nodes (node ∷ []) in
      omega arith;
}
  where
    slots' : List (Option ℕ)
    slots' = set slots at (Some (length nodes))

    size : ℕ
    size = length slots

    nothing_there : (id : ℕ) → HasId slots at id → ⊥
    nothing_there id e = let both : None ≡ Some id = sym empty ∙ e in cc

    not_new : (k id : ℕ) → Some (length nodes) ≡ Some id → HasId slots k id → ⊥
    not_new k id e f =
        let is : length nodes ≡ id = cc in
        let below : id < length nodes = t.held k id f in
        omega arith

    was : (id : ℕ) (x : Node) → NodeStandsAt nodes id x → IsReached slots' size (home_of x size) id
    was id x stands = still_reached slots size (home_of x size) id at (Some (length nodes)) (t.reached id x stands) (λ j _. nothing_there j)

    last : IsReached slots' size (home_of node size) (length nodes)
    last = record {
      distance = free.distance;
      stands = subst (λ k. HasId slots' k (length nodes)) free.ends (get_or-set_same slots at (Some (length nodes)) None within);
      before = λ k below.
          let b = free.before k below in
          (b.0, other_slot slots at ((home_of node size + k) % size) b.0 (Some (length nodes)) (nothing_there b.0) b.1, t.held ((home_of node size + k) % size) b.0 b.1);
    }

-- the last node goes, and its slot is emptied: no search for another node passed it
pub table_without : (nodes : List Node) (slots : List (Option ℕ)) (node : Node) (at : ℕ) → IsTable (nodes ++ node ∷ []) slots → HasId slots at (length nodes) → at < length slots → IsTable nodes (set slots at None)
table_without nodes slots node at t stands within = record {
  distinct = λ i j x at_i at_j. t.distinct i j x (get_front nodes x node i at_i) (get_front nodes x node j at_j);
  reached = λ id x here. rw length-set (still_reached slots size (home_of x size) id at None (t.reached id x (get_front nodes x node id here)) (λ j low e. not_last j (let below : id < length nodes = slice_get_within nodes id x here in omega arith) e));
  held = λ k id e.
      ⊎_elim
      (λ same. absurd (let e' : None ≡ Some id = same.1 in cc))
      (λ other. ⊎_elim (λ is. absurd (other.0 (t.once k at id other.1 (subst (λ n. HasId slots at n) (sym is) stands)))) (λ is_not. let below : id < length (nodes ++ node ∷ []) = t.held k id other.1 in omega (arith, length-append nodes (node ∷ []))) (cases_eq id (length nodes)))
      (slot_after_write slots at k None (Some id) within e);
  once = λ j k id e f.
      ⊎_elim
      (λ same. absurd (let e' : None ≡ Some id = same.1 in cc))
      (λ other. ⊎_elim (λ same'. absurd (let e' : None ≡ Some id = same'.1 in cc)) (λ other'. t.once j k id other.1 other'.1) (slot_after_write slots at k None (Some id) within f))
      (slot_after_write slots at j None (Some id) within e);
  empty =
      let counted : count_by is_none (set slots at None) + if_empty (get_or slots at None) ≡ count_by is_none slots + 1 = sum_by-set if_empty slots at None None within in
      let taken : if_empty (get_or slots at None) ≡ 0 = ap if_empty stands in
      let sum : count_by is_none slots + length (nodes ++ node ∷ []) ≡ length slots = t.empty in
      omega (arith, length-append nodes (node ∷ []), length-set slots at None);
  room = let lower : length (nodes ++ node ∷ []) < length slots = t.room in omega (arith, length-append nodes (node ∷ []), length-set slots at None);
}
  where
    size : ℕ
    size = length slots

    not_last : (j : ℕ) → j < length nodes → HasId slots at j → ⊥
    not_last j low e =
        let both : Some j ≡ Some (length nodes) = sym e ∙ stands in
        let is : j ≡ length nodes = cc in
        omega arith

-- what a search has passed so far: slots whose ids are of other nodes
abbrev pub Passed : List Node → List (Option ℕ) → Node → ℕ → Type 0
Passed nodes slots node distance = (k : ℕ) → k < distance → (id : ℕ) × HasId slots ((home_of node (length slots) + k) % length slots) id × (NodeStandsAt nodes id node → ⊥)

-- a search that meets an empty slot has shown that the node is not there
pub free_after : (nodes : List Node) (slots : List (Option ℕ)) (node : Node) (distance at : ℕ) → IsTable nodes slots → Passed nodes slots node distance → at ≡ (home_of node (length slots) + distance) % length slots → get_or slots at None ≡ None → IsFreeFor nodes slots node at
free_after nodes slots node distance at t passed ends empty = record {
  absent = λ id stands.
      let r = t.reached id node stands in
      ⊎_elim
      (λ sooner.
      let p = passed r.distance sooner in
      let both : Some p.0 ≡ Some id = sym p.1 ∙ r.stands in
      let is : p.0 ≡ id = cc in
      p.2 (subst (λ k. NodeStandsAt nodes k node) (sym is) stands))
      (λ later.
      ⊎_elim
      (λ here. nothing_there id (subst (λ k. HasId slots ((home_of node (length slots) + k) % length slots) id) here r.stands))
      (λ behind. let beyond : distance < r.distance = omega arith in let b = r.before distance beyond in nothing_there b.0 b.1)
      (cases_eq r.distance distance))
      (cases_lt r.distance distance);
  distance = distance;
  ends = ends;
  before = λ k below. let p = passed k below in (p.0, p.1);
}
  where
    nothing_there : (id : ℕ) → HasId slots ((home_of node (length slots) + distance) % length slots) id → ⊥
    nothing_there id e =
        let both : None ≡ Some id = sym empty ∙ subst (λ k. get_or slots k None ≡ Some id) (sym ends) e in
        cc

-- a search does not go all the way round
pub search_ends : (nodes : List Node) (slots : List (Option ℕ)) (node : Node) (distance : ℕ) → IsTable nodes slots → Passed nodes slots node distance → length slots ≤ distance → ⊥
search_ends nodes slots node distance t passed round =
    let full : count_by is_none slots ≡ 0 =
    none_is_empty slots (λ j h.
    let m = slot_is_met (home_of node (length slots)) j (length slots) h in
    let far : m.0 < length slots = m.1 in
    let near : m.0 < distance = omega arith in
    let p = passed m.0 near in
    (p.0, subst (λ k. HasId slots k p.0) m.2 p.1))
    in
    let sum : count_by is_none slots + length nodes ≡ length slots = t.empty in
    let room : length nodes < length slots = t.room in
    omega arith

-- the table without the last node
pub table_popped : (nodes rest : List Node) (node : Node) (slots : List (Option ℕ)) (at : ℕ) → nodes ≡ rest ++ node ∷ [] → IsTable nodes slots → HasId slots at (length nodes - 1) → IsTable rest (set slots at None)
table_popped nodes rest node slots at e t has =
    let long : length nodes - 1 ≡ length rest = (let e' : length nodes ≡ length (rest ++ node ∷ []) = ap length e in omega (arith, length-append rest (node ∷ []))) in
    let t' : IsTable (rest ++ node ∷ []) slots = subst (λ n. IsTable n slots) e t in
    let has' : HasId slots at (length rest) = subst (λ n. HasId slots at n) long has in
    table_without rest slots node at t' has' (slot_within slots at (length rest) has')

-- a table keeps its size
pub set_at_slot : (slots : List (Option ℕ)) (at : ℕ) (v : Option ℕ) (n : ℕ) → n < length slots → n < length (set slots at v)
set_at_slot slots at v n h = rw length-set h

-- ---- where the ids stand

pub placed_with : (slots : List (Option ℕ)) (places : List ℕ) (at n : ℕ) → length places ≡ n → ((k : ℕ) → k < n → HasId slots (get_or places k 0) k) → at < length slots → get_or slots at None ≡ None → (k : ℕ) → k < n + 1 → HasId (set slots at (Some n)) (get_or (places ++ at ∷ []) k 0) k
placed_with slots places at n count placed within empty k lt =
    ⊎_elim
    (λ below.
    let kl : k < length places = omega (arith, count, below) in
    rw (get_or_append_left places (at ∷ []) 0 k kl) (other_slot slots at (get_or places k 0) k (Some n) (nothing_there k) (placed k below)))
    (λ last.
    let is : k ≡ n = omega arith in
    rw (get_or_push places at 0 k (count ∙ sym is)) (get_or-set_same slots at (Some n) None within ∙ ap Some (sym is)))
    (cases_lt k n)
  where
    nothing_there : (id : ℕ) → HasId slots at id → ⊥
    nothing_there id e = let both : None ≡ Some id = sym empty ∙ e in cc

-- the last id stands at the last place
pub last_place : (slots : List (Option ℕ)) (places rest : List ℕ) (at n : ℕ) → places ≡ rest ++ at ∷ [] → length places ≡ n → ((k : ℕ) → k < n → HasId slots (get_or places k 0) k) → HasId slots at (n - 1)
last_place slots places rest at n e count placed =
    let long : length places ≡ length rest + 1 = ap length e ∙ length-append rest (at ∷ []) in
    let last : n - 1 < n = omega arith in
    let before : length rest ≡ n - 1 = omega arith in
    subst (λ k. HasId slots k (n - 1)) (ap (λ (ps : List ℕ). get_or ps (n - 1) 0) e ∙ get_or_push rest at 0 (n - 1) before) (placed (n - 1) last)

pub placed_without : (slots : List (Option ℕ)) (places rest : List ℕ) (at last n : ℕ) → places ≡ rest ++ last ∷ [] → length rest ≡ n → ((k : ℕ) → k < n + 1 → HasId slots (get_or places k 0) k) → HasId slots at n → (k : ℕ) → k < n → HasId (set slots at None) (get_or rest k 0) k
placed_without slots places rest at last n e count placed has k lt =
    let kl : k < length rest = omega (arith, count, lt) in
    let near : k < n + 1 = omega arith in
    let same : get_or places k 0 ≡ get_or rest k 0 = ap (λ (ps : List ℕ). get_or ps k 0) e ∙ get_or_append_left rest (last ∷ []) 0 k kl in
    other_slot slots at (get_or rest k 0) k None (not_there k lt) (subst (λ j. HasId slots j k) same (placed k near))
  where
    not_there : (id : ℕ) → id < n → HasId slots at id → ⊥
    not_there id below e =
        let both : Some n ≡ Some id = sym has ∙ e in
        let is : n ≡ id = cc in
        omega arith
