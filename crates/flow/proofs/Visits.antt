-- One visit of an edge.
use Rattle.std.proofs.Common.{◌≡◌, ◌≢◌, ℕ, ◌<◌, ◌≤◌, true, ◌||◌, List, length, refl, sym, ap, subst, ◌∙◌, inl, inr, arith, le_refl, length-set, get_or-set_same, get_or-set_other}
use Rattle.std.proofs.Math.ListN.{set}
use Rattle.std.proofs.lemmas.Bool.{or_left}
use Rattle.cells.specs.declared.Part.{Part}
use Rattle.cells.specs.Parts.{Parts, has, union}
use Rattle.cells.proofs.Unions.{has_union}
use Rattle.flow.specs.declared.search.Vertex.{Vertex}
use Rattle.flow.specs.Search.{vertex, no_vertex, credit, is_left, IsVisited}
use Rattle.flow.proofs.Sets.{size-le, size-rises}
use Rattle.flow.proofs.Credits.{credits-set, visits_left-le}

abbrev grown_vertex : Vertex → Parts → Vertex
grown_vertex v left = record { defines = v.defines; need = union v.need left; waits = true }

-- it has grown, and has less credit left whether it waited or not
less_credit : (v : Vertex) (left : Parts) → union v.need left ≢ v.need → credit (grown_vertex v left) ≤ credit v
less_credit v left other =
    let rises = size-rises v.need (union v.need left) (λ x h. has_union v.need left x ∙ or_left (has v.need x) (has left x) h) (λ same. other (sym same)) in
    let most = size-le (union v.need left) in
    omega (arith, rises, most)

pub changed : (vs : List Vertex) (from : ℕ) (passed left : Parts) → from < length vs → ((x : Part) → has left x ≡ is_left passed (vertex vs from).defines x) → union (vertex vs from).need left ≢ (vertex vs from).need → IsVisited vs from passed (set vs from (grown_vertex (vertex vs from) left))
changed vs from passed left lt is other = record {
  same_length = length-set vs from v;
  others = λ k differs. get_or-set_other vs from k v no_vertex differs;
  defines = ap (λ (w : Vertex). w.defines) here;
  need = λ x. ap (λ (w : Vertex). has w.need x) here ∙ has_union (vertex vs from).need left x ∙ ap (λ b. has (vertex vs from).need x || b) (is x);
  woken = inr (ap (λ (w : Vertex). w.waits) here);
  fewer = omega (arith, credits-set vs from v lt, less);
  cheaper = λ ss. visits_left-le ss vs from v lt less;
}
  where
    v : Vertex
    v = grown_vertex (vertex vs from) left

    here : vertex (set vs from v) from ≡ v
    here = get_or-set_same vs from v no_vertex lt

    less : credit v ≤ credit (vertex vs from)
    less = less_credit (vertex vs from) left other

-- the same, of a vertex that was read
pub changed_to : (vs : List Vertex) (from : ℕ) (passed left need : Parts) (w : Vertex) → from < length vs → w ≡ vertex vs from → need ≡ union w.need left → need ≢ w.need → ((x : Part) → has left x ≡ is_left passed w.defines x) → IsVisited vs from passed (set vs from (record { defines = w.defines; need = need; waits = true }))
changed_to vs from passed left need w lt read is other left_is =
    subst (λ k. IsVisited vs from passed (set vs from (record { defines = w.defines; need = k; waits = true }))) (sym is)
    (subst (λ (u : Vertex). ((x : Part) → has left x ≡ is_left passed u.defines x) → union u.need left ≢ u.need → IsVisited vs from passed (set vs from (grown_vertex u left))) (sym read) (changed vs from passed left lt) left_is (λ same. other (is ∙ same)))

-- one that needs no more than it did
pub unchanged : (vs : List Vertex) (from : ℕ) (passed left need : Parts) (w : Vertex) → w ≡ vertex vs from → need ≡ union w.need left → need ≡ w.need → ((x : Part) → has left x ≡ is_left passed w.defines x) → IsVisited vs from passed vs
unchanged vs from passed left need w read is same left_is = record {
  same_length = refl;
  others = λ k differs. refl;
  defines = refl;
  need = subst (λ (v : Vertex). (x : Part) → has v.need x ≡ (has v.need x || is_left passed v.defines x)) read needs;
  woken = inl refl;
  fewer = le_refl _;
  cheaper = λ ss. le_refl _;
}
  where
    needs : (x : Part) → has w.need x ≡ (has w.need x || is_left passed w.defines x)
    needs x = ap (λ k. has k x) (sym same ∙ is) ∙ has_union w.need left x ∙ ap (λ b. has w.need x || b) (left_is x)
