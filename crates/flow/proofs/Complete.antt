-- Where no node waits, everything that is needed is found.
use Rattle.std.proofs.Common.{◌≡◌, ℕ, ◌≤◌, Bool, true, false, List, [], ◌∷◌, ◌++◌, length, get_or, refl, sym, ap, subst, ◌∙◌, ⊎_elim, arith}
use Rattle.std.specs.Prelude.{All, not, ◌==◌, IsTrue}
use Rattle.std.proofs.lemmas.Bool.{and_from, not_from_false, cases_lt, eqb-true}
use Rattle.std.proofs.lemmas.List.{get_or_past, get_or_read}
use Rattle.std.proofs.lemmas.List.Elements.{All-head, All-tail}
use Rattle.std.proofs.lemmas.List.Sums.{get_or-le-sum_by}
use Rattle.cells.specs.declared.Part.{Part}
use Rattle.cells.specs.Parts.{has}
use Rattle.asm80_types.specs.Program.{Program}
use Rattle.flow.specs.declared.node.Node.{Node}
use Rattle.flow.specs.declared.search.Vertex.{Vertex}
use Rattle.flow.specs.Graph.{IsEdge}
use Rattle.flow.specs.Need.{Need, IsPath, BeginsAt, uses_at, defines_at}
use Rattle.flow.specs.Search.{vertex, no_vertex, AreVerticesOf, IsPassedOn, IsQueue}
use Rattle.flow.specs.Solving.{AreNeeds}
use Rattle.flow.specs.Wiring.{IsWired, IsNumber}
use Rattle.flow.proofs.Queue.{one_if}

none_if : (b : Bool) → one_if b ≤ 0 → b ≡ false
none_if true h = absurd (omega arith)
none_if false h = refl

-- an empty work list has no node that waits
pub none_waits : (vs : List Vertex) (work : List ℕ) (capacity k : ℕ) → length work ≡ 0 → IsQueue vs work capacity → (vertex vs k).waits ≡ false
none_waits vs work capacity k empty q =
    ⊎_elim
    (λ lt. none_if (vertex vs k).waits (omega (arith, get_or-le-sum_by (λ (v : Vertex). one_if v.waits) vs k no_vertex lt, q.count, empty)))
    (λ ge. ap (λ (v : Vertex). v.waits) (get_or_past vs k no_vertex ge))
    (cases_lt k (length vs))

module _ (p : Program) (ss : List (List ℕ)) (vs : List Vertex) (x : Part) (w : IsWired p ss) (a : AreVerticesOf p vs) (passed : IsPassedOn ss vs) (idle : (k : ℕ) → (vertex vs k).waits ≡ false) where
  abbrev Found : Node → Type 0
  Found q = (k : ℕ) → IsNumber p k q → has (vertex vs k).need x ≡ true

  -- what is found behind an edge is found before it
  found_before : (q r : Node) → IsEdge p q r → has (defines_at p q) x ≡ false → Found r → Found q
  found_before q r e kept found k n =
      let at = w.onward k r n.within (subst (λ s. IsEdge p s r) (sym n.stands) e) in
      let need : has (vertex vs at.0).need x ≡ true = found at.0 (record { within = at.1; stands = at.2 }) in
      let defines : has (vertex vs k).defines x ≡ false = ap (λ m. has m x) (a.defines k n.within) ∙ ap (λ s. has (defines_at p s) x) n.stands ∙ kept in
      passed.passed k at.0 x at.3 (idle at.0) (and_from (has (vertex vs at.0).need x) (not (has (vertex vs k).defines x)) need (not_from_false (has (vertex vs k).defines x) defines))

  found_here : (q : Node) → has (uses_at p q) x ≡ true → Found q
  found_here q u k n = a.uses k x n.within (ap (λ s. has (uses_at p s) x) n.stands ∙ u)

  found_along : (es : List Node) (q user : Node) → IsPath p (es ++ user ∷ []) → BeginsAt q (es ++ user ∷ []) → has (uses_at p user) x ≡ true → All (λ r. has (defines_at p r) x ≡ false) es → Found q
  found_along [] q user path begins u kept = found_here q (ap (λ s. has (uses_at p s) x) begins ∙ u)
  found_along (e ∷ []) q user path begins u kept =
      subst Found (sym begins) (found_before e user path.0 (All-head (λ r. has (defines_at p r) x ≡ false) e [] kept) (found_here user u))
  found_along (e ∷ (f ∷ fs)) q user path begins u kept =
      subst Found (sym begins) (found_before e f path.0 (All-head (λ r. has (defines_at p r) x ≡ false) e (f ∷ fs) kept)
      (found_along (f ∷ fs) f user path.1 refl u (All-tail (λ r. has (defines_at p r) x ≡ false) e (f ∷ fs) kept)))

  pub found_needed : (q : Node) → Need p q x → Found q
  found_needed q n = found_along n.earlier q n.user n.path n.begins n.uses n.kept

pub are_needs : (p : Program) (ss : List (List ℕ)) (vs : List Vertex) (work : List ℕ) (capacity k : ℕ) (q : Node) → IsWired p ss → AreVerticesOf p vs → IsPassedOn ss vs → IsQueue vs work capacity → length work ≡ 0 → IsNumber p k q → AreNeeds p q (vertex vs k).need
are_needs p ss vs work capacity k q w a passed queue empty n x = (
  λ h. subst (λ r. Need p r x) n.stands (a.sound k x n.within h),
  λ need. found_needed p ss vs x w a passed (λ j. none_waits vs work capacity j empty queue) q need k n,
)

-- the same of a vertex that was read
pub read_needs : (p : Program) (ss : List (List ℕ)) (vs : List Vertex) (work : List ℕ) (capacity k : ℕ) (q : Node) (v : Vertex) → IsWired p ss → AreVerticesOf p vs → IsPassedOn ss vs → IsQueue vs work capacity → IsTrue (length work == 0) → IsNumber p k q → v ≡ get_or vs k v → AreNeeds p q v.need
read_needs p ss vs work capacity k q v w a passed queue solved n read =
    let same : v ≡ vertex vs k = get_or_read vs k v (omega (arith, n.within, a.sized)) read no_vertex in
    subst (λ (u : Vertex). AreNeeds p q u.need) (sym same) (are_needs p ss vs work capacity k q w a passed queue (eqb-true (length work) 0 solved) n)
