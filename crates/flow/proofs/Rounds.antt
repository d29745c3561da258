-- A node that is taken from the work list, and the edges to it visited.
use Rattle.std.proofs.Common.{◌≡◌, ◌≢◌, ℕ, ◌+◌, ◌<◌, ◌≤◌, true, false, List, length, sym, ap, subst, ◌∙◌, ⊎_elim, arith, length-set, get_or-set_same, get_or-set_other}
use Rattle.std.specs.Prelude.{not}
use Rattle.std.specs.List.{Contains, sum_by}
use Rattle.std.proofs.Math.ListN.{set}
use Rattle.std.proofs.lemmas.Bool.{and_parts, both_ways, not-true, cases_eq}
use Rattle.cells.specs.declared.Part.{Part}
use Rattle.cells.specs.Parts.{has, weight}
use Rattle.asm80_types.specs.Program.{Program}
use Rattle.flow.specs.declared.search.Vertex.{Vertex}
use Rattle.flow.specs.Graph.{nodes}
use Rattle.flow.specs.Need.{Need}
use Rattle.flow.specs.Search.{vertex, no_vertex, row, credit, visits_left, is_left, node_at, IsSpread, IsPassedOn, AreVerticesOf}
use Rattle.flow.specs.Rounds.{IsRound}
use Rattle.flow.specs.Wiring.{IsWired}
use Rattle.flow.proofs.Credits.{credits-set, visits_left-less}
use Rattle.flow.proofs.Needs.{need_passes}

-- the vertex that waits no more
abbrev pub woken : Vertex → Vertex
woken v = record v { waits = false }

less_credit : (v : Vertex) → v.waits ≡ true → credit (woken v) + 1 ≡ credit v
less_credit v waits = let one : weight v.waits 1 ≡ 1 = ap (λ b. weight b 1) waits in omega arith

module _ (ss : List (List ℕ)) (vs new : List Vertex) (at : ℕ) (within : at < length vs) (s : IsSpread (row ss at) (vertex vs at).need (set vs at (woken (vertex vs at))) new) where
  here : vertex (set vs at (woken (vertex vs at))) at ≡ woken (vertex vs at)
  here = get_or-set_same vs at (woken (vertex vs at)) no_vertex within

  other : (k : ℕ) → k ≢ at → vertex (set vs at (woken (vertex vs at))) k ≡ vertex vs k
  other k differs = get_or-set_other vs at k (woken (vertex vs at)) no_vertex differs

  mid_defines : (k : ℕ) → (vertex (set vs at (woken (vertex vs at))) k).defines ≡ (vertex vs k).defines
  mid_defines k = ⊎_elim (λ same. subst (λ j. (vertex (set vs at (woken (vertex vs at))) j).defines ≡ (vertex vs j).defines) (sym same) (ap (λ (v : Vertex). v.defines) here)) (λ differs. ap (λ (v : Vertex). v.defines) (other k differs)) (cases_eq k at)

  mid_need : (k : ℕ) → (vertex (set vs at (woken (vertex vs at))) k).need ≡ (vertex vs k).need
  mid_need k = ⊎_elim (λ same. subst (λ j. (vertex (set vs at (woken (vertex vs at))) j).need ≡ (vertex vs j).need) (sym same) (ap (λ (v : Vertex). v.need) here)) (λ differs. ap (λ (v : Vertex). v.need) (other k differs)) (cases_eq k at)

  new_defines : (k : ℕ) → (vertex new k).defines ≡ (vertex vs k).defines
  new_defines k = s.defines k ∙ mid_defines k

  new_need : (k : ℕ) (x : Part) → has (vertex vs k).need x ≡ true → has (vertex new k).need x ≡ true
  new_need k x h = s.grows k x (ap (λ m. has m x) (mid_need k) ∙ h)

  idle : (k : ℕ) → (vertex new k).waits ≡ false → vertex new k ≡ vertex (set vs at (woken (vertex vs at))) k
  idle k is = ⊎_elim (λ same. same) (λ waits. absurd (both_ways (vertex new k).waits is waits)) (s.woken k)

  -- behind the node that was taken
  passed_here : (j : ℕ) (x : Part) → Contains (row ss at) j → (vertex new at).waits ≡ false → is_left (vertex new at).need (vertex new j).defines x ≡ true → has (vertex new j).need x ≡ true
  passed_here j x among is left =
      let need : (vertex new at).need ≡ (vertex vs at).need = ap (λ (v : Vertex). v.need) (idle at is) ∙ mid_need at in
      s.passes j x among (sym (ap (λ m. is_left (vertex new at).need m x) (s.defines j) ∙ ap (λ n. is_left n (vertex (set vs at (woken (vertex vs at))) j).defines x) need) ∙ left)

  -- behind another one
  passed_there : IsPassedOn ss vs → (j k : ℕ) (x : Part) → k ≢ at → Contains (row ss k) j → (vertex new k).waits ≡ false → is_left (vertex new k).need (vertex new j).defines x ≡ true → has (vertex new j).need x ≡ true
  passed_there p j k x differs among is left =
      let same : vertex new k ≡ vertex vs k = idle k is ∙ other k differs in
      new_need j x (p.passed j k x among (sym (ap (λ (v : Vertex). v.waits) same) ∙ is) (sym (ap (λ m. is_left (vertex new k).need m x) (new_defines j) ∙ ap (λ (v : Vertex). is_left v.need (vertex vs j).defines x) same) ∙ left))

  still_passed_on : IsPassedOn ss vs → IsPassedOn ss new
  still_passed_on p = record {
    passed = λ j k x among. ⊎_elim
        (λ same. subst (λ n. Contains (row ss n) j → (vertex new n).waits ≡ false → is_left (vertex new n).need (vertex new j).defines x ≡ true → has (vertex new j).need x ≡ true) (sym same) (passed_here j x) among)
        (λ differs. passed_there p j k x differs among)
        (cases_eq k at);
  }

  same_length : length new ≡ length vs
  same_length = s.same_length ∙ length-set vs at (woken (vertex vs at))

  sound_here : (p : Program) → IsWired p ss → AreVerticesOf p vs → (k : ℕ) (x : Part) → k < length (nodes p) → has (vertex new k).need x ≡ true → Need p (node_at p k) x
  sound_here p w a k x lt h =
      ⊎_elim
      (λ before. a.sound k x lt (sym (ap (λ m. has m x) (mid_need k)) ∙ before))
      (λ by.
      let edge = w.into k at by.0 in
      let left : is_left (vertex vs at).need (vertex vs k).defines x ≡ true = sym (ap (λ m. is_left (vertex vs at).need m x) (mid_defines k)) ∙ by.1 in
      let both = and_parts (has (vertex vs at).need x) (not (has (vertex vs k).defines x)) left in
      let at_within : at < length (nodes p) = omega (arith, within, a.sized) in
      need_passes p (node_at p k) (node_at p at) x edge.1 (sym (ap (λ m. has m x) (a.defines k lt)) ∙ not-true (has (vertex vs k).defines x) both.1) (a.sound at x at_within both.0))
      (s.only k x h)

  still_of : (p : Program) → IsWired p ss → AreVerticesOf p vs → AreVerticesOf p new
  still_of p w a = record {
    sized = same_length ∙ a.sized;
    defines = λ k lt. new_defines k ∙ a.defines k lt;
    uses = λ k x lt u. new_need k x (a.uses k x lt u);
    sound = sound_here p w a;
  }

  pub round : IsRound ss vs new
  round = record { same_length = same_length; passed_on = still_passed_on; needs = still_of }

  pub fewer_credits : (vertex vs at).waits ≡ true → sum_by credit new < sum_by credit vs
  fewer_credits waits = omega (arith, s.fewer, credits-set vs at (woken (vertex vs at)) within, less_credit (vertex vs at) waits)

  pub fewer_visits : (vertex vs at).waits ≡ true → visits_left ss new + length (row ss at) ≤ visits_left ss vs
  fewer_visits waits = omega (arith, s.cheaper ss, visits_left-less ss vs at (woken (vertex vs at)) within (less_credit (vertex vs at) waits))
