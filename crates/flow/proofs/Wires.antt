-- The edges that are kept, with one more.
use Rattle.std.proofs.Common.{◌≡◌, ◌≢◌, ℕ, zero, suc, ◌+◌, ◌<◌, Bool, true, false, cond, eqb, List, [], ◌∷◌, ◌++◌, length, get_or, take, ◌-◌, Option, Some, None, refl, sym, ap, subst, ◌∙◌, inl, inr, ◌⊎◌, ⊎_elim, arith, length-set, get_or-set_same, get_or-set_other}
use Rattle.std.specs.Prelude.{All, IfSome, option_to_list}
use Rattle.std.specs.Bool.{then_some}
use Rattle.std.specs.List.{Contains, sum_by}
use Rattle.std.proofs.Math.ListN.{set}
use Rattle.std.proofs.lemmas.Bool.{cases_eq, cases_lt, cases_Bool, eqb-true}
use Rattle.std.proofs.lemmas.List.{length_push, take_all, get_or_default, get_or-map, map_more}
use Rattle.std.proofs.lemmas.Option.{same_Some}
use Rattle.std.proofs.lemmas.List.Elements.{Contains-get_or, Contains-push, Contains-push_cases, Contains-append_left, All-filter}
use Rattle.std.proofs.lemmas.List.Sums.{sum_by-set, sum_by_more}
use Rattle.i80.specs.declared.Instr80.{Instr80}
use Rattle.i80.specs.Columns.{length80}
use Rattle.asm80_types.specs.declared.program.Placed.{Placed}
use Rattle.asm80_types.specs.Program.{Program, IsProgram, NameStarts, is_start, starts, instr_at, instr_of_placed, placed_in, named_by}
use Rattle.asm80_types.specs.Taken.{taken_places, takes}
use Rattle.asm80_types.proofs.Lookup.{length-starts}
use Rattle.flow.specs.declared.node.Node.{Node}
use Rattle.flow.specs.declared.node.Node.TheVariants.{Start, Return}
use Rattle.flow.specs.Graph.{nodes, edges, edge_to, edges_at, successors, IsEdge}
use Rattle.flow.specs.Search.{node_at, row}
use Rattle.flow.specs.Wiring.{IsNumber, IsKept, IsWiredTo, IsWired, edge_if_node, edges_if}
use Rattle.flow.proofs.Laid.{start_found, found_start, found_here}
use Rattle.flow.proofs.Numbers.{start_nodes, start_is_node, number_of_start, number_of_return, node_at-start}

pub number_contained : (p : Program) (k : ℕ) (q : Node) → IsNumber p k q → Contains (nodes p) q
number_contained p k q n = subst (Contains (nodes p)) n.stands (Contains-get_or (nodes p) k Return n.within)

pub is_start-true : (p : Program) (a : ℕ) → Contains (nodes p) (Start a) → is_start p a ≡ true
is_start-true p a among =
    let at = start_is_node p a among in
    start_found p.instrs a at.0 (omega (arith, at.1, length-starts p.instrs)) at.2

pub start_number : (p : Program) (a : ℕ) → is_start p a ≡ true → (k : ℕ) × IsNumber p k (Start a)
start_number p a h =
    let at = found_start p.instrs a h in
    (at.0, number_of_start p at.0 a (omega (arith, at.1, length-starts p.instrs)) at.2)

pub is_start-false : (p : Program) (a : ℕ) → (Contains (nodes p) (Start a) → ⊥) → is_start p a ≡ false
is_start-false p a none = ⊎_elim (λ start. let at = start_number p a start in absurd (none (number_contained p at.0 (Start a) at.1))) (λ other. other) (cases_Bool (is_start p a))

pub edge_if_number : (p : Program) (k : ℕ) (q : Node) → IsNumber p k q → edge_if_node p q ≡ q ∷ []
edge_if_number p k (Start a) n = let start : is_start p a ≡ true = is_start-true p a (number_contained p k (Start a) n) in rw start
edge_if_number p k Return n = refl

pub edge_if_none : (p : Program) (q : Node) → (Contains (nodes p) q → ⊥) → edge_if_node p q ≡ []
edge_if_none p (Start a) none = let other : is_start p a ≡ false = is_start-false p a none in rw other
edge_if_none p Return none = absurd (none (number_contained p (length (starts p)) Return (number_of_return p)))

module _ (p : Program) (ss : List (List ℕ)) (from k : ℕ) (to : Node) (some : List Node) (w : IsWiredTo p ss from some) (n : IsNumber p k to) where
  within : k < length ss
  within = omega (arith, n.within, w.sized)

  here : row (set ss k (row ss k ++ from ∷ [])) k ≡ row ss k ++ from ∷ []
  here = get_or-set_same ss k (row ss k ++ from ∷ []) [] within

  other : (j : ℕ) → j ≢ k → row (set ss k (row ss k ++ from ∷ [])) j ≡ row ss j
  other j differs = get_or-set_other ss k j (row ss k ++ from ∷ []) [] differs

  by_row : (P : ℕ → List ℕ → Type 0) (j : ℕ) → P k (row ss k ++ from ∷ []) → (j ≢ k → P j (row ss j)) → P j (row (set ss k (row ss k ++ from ∷ [])) j)
  by_row P j at_k at_other =
      ⊎_elim
      (λ same. subst (λ m. P m (row (set ss k (row ss k ++ from ∷ [])) m)) (sym same) (subst (P k) (sym here) at_k))
      (λ differs. subst (P j) (sym (other j differs)) (at_other differs))
      (cases_eq j k)

  still : (j i : ℕ) → Contains (row ss j) i → Contains (row (set ss k (row ss k ++ from ∷ [])) j) i
  still j i = by_row (λ m xs. Contains (row ss m) i → Contains xs i) j (λ among. Contains-append_left (row ss k) (from ∷ []) i among) (λ differs among. among)

  still_kept : (i : ℕ) (r : Node) → IsKept p ss i r → IsKept p (set ss k (row ss k ++ from ∷ [])) i r
  still_kept i r h = (h.0, h.1, h.2, still h.0 i h.3)

  into_more : (i j : ℕ) → Contains (row ss j) i → ((i < from) × IsEdge p (node_at p i) (node_at p j)) ⊎ ((i ≡ from) × Contains (some ++ to ∷ []) (node_at p j))
  into_more i j among = ⊎_elim (λ before. inl before) (λ now. inr (now.0, Contains-append_left some (to ∷ []) (node_at p j) now.1)) (w.into i j among)

  pub wire_more : IsWiredTo p (set ss k (row ss k ++ from ∷ [])) from (some ++ to ∷ [])
  wire_more = record {
    sized = length-set ss k (row ss k ++ from ∷ []) ∙ w.sized;
    into = λ i j. by_row (λ m xs. Contains xs i → ((i < from) × IsEdge p (node_at p i) (node_at p m)) ⊎ ((i ≡ from) × Contains (some ++ to ∷ []) (node_at p m))) j
        (λ among. ⊎_elim
        (λ old. into_more i k old)
        (λ new. inr (sym new, subst (Contains (some ++ to ∷ [])) (sym n.stands) (Contains-push some to)))
        (Contains-push_cases (row ss k) from i among))
        (λ differs among. into_more i j among);
    onward = λ i r lt e. still_kept i r (w.onward i r lt e);
    onward_here = λ r among. ⊎_elim
        (λ old. still_kept from r (w.onward_here r old))
        (λ new. (k, n.within, n.stands ∙ new, subst (λ xs. Contains xs from) (sym here) (Contains-push (row ss k) from)))
        (Contains-push_cases some to r among);
    edges =
        let moved = sum_by-set length ss k (row ss k ++ from ∷ []) [] within in
        omega (arith, moved, w.edges, length_push (row ss k) from, length_push some to);
  }

-- all edges of a node are kept
pub wire_next : (p : Program) (ss : List (List ℕ)) (j : ℕ) (q : Node) → j < length (nodes p) → node_at p j ≡ q → IsWiredTo p ss j (successors p q) → IsWiredTo p ss (j + 1) []
wire_next p ss j q lt is w = record {
  sized = w.sized;
  into = λ i k among. ⊎_elim
      (λ before. inl (omega (arith, before.0), before.1))
      (λ now. inl (omega (arith, now.0), subst (λ m. IsEdge p (node_at p m) (node_at p k)) (sym now.0) (subst (λ r. IsEdge p r (node_at p k)) (sym is) now.1)))
      (w.into i k among);
  onward = λ i r below e. ⊎_elim
      (λ before. w.onward i r before e)
      (λ ge.
      let same : i ≡ j = omega (arith, below, ge) in
      let here : IsEdge p (node_at p j) r = subst (λ m. IsEdge p (node_at p m) r) same e in
      subst (λ m. IsKept p ss m r) (sym same) (w.onward_here r (subst (λ s. IsEdge p s r) is here)))
      (cases_lt i j);
  onward_here = λ r among. absurd (omega (arith, among.1));
  edges =
      let more = sum_by_more (λ s. length (successors p s)) (nodes p) j Return lt in
      let here = ap (λ s. length (successors p s)) is in
      omega (arith, more, here, w.edges);
}

pub wired_all : (p : Program) (ss : List (List ℕ)) → IsWiredTo p ss (length (nodes p)) [] → IsWired p ss
wired_all p ss w = record {
  sized = w.sized;
  into = λ i k among. ⊎_elim (λ h. h) (λ none. absurd (omega (arith, none.1.1))) (w.into i k among);
  onward = w.onward;
  edges = omega (arith, w.edges, ap (sum_by (λ q. length (successors p q))) (take_all (length (nodes p)) (nodes p) (omega arith)));
}

-- each start is one, and so is each place that is taken and each target
starts_are : (p : Program) → All (λ a. is_start p a ≡ true) (starts p)
starts_are p k d lt = start_found p.instrs (get_or (starts p) k d) k (omega (arith, lt, length-starts p.instrs)) (get_or_default (starts p) k 0 d lt)

pub taken_are : (p : Program) → All (λ a. is_start p a ≡ true) (taken_places p)
taken_are p = All-filter (takes p) (λ a. is_start p a ≡ true) (starts p) (starts_are p)

named_in : (p : Program) (xs : List Placed) (k t : ℕ) (d : Placed) → NameStarts p xs → k < length xs → named_by (get_or xs k d).instr ≡ Some t → is_start p t ≡ true
named_in p [] k t d names lt is = absurd (omega arith)
named_in p (x ∷ xs) zero t d names lt is = let named : IfSome (Some t) (λ a. is_start p a ≡ true) = subst (λ o. IfSome o (λ a. is_start p a ≡ true)) is names.0 in named
named_in p (x ∷ xs) (suc k) t d names lt is = named_in p xs k t d names.1 (omega arith) is

abbrev pub IsAmong : List Placed → ℕ → Instr80 → Type 0
IsAmong xs a i = (k : ℕ) × (k < length xs) × ((d : Placed) → (get_or xs k d).instr ≡ i) × ((d : Placed) → (get_or xs k d).at ≡ a)

instr_step : (x : Placed) (xs : List Placed) (a : ℕ) (i : Instr80) (b : Bool) → eqb x.at a ≡ b → (instr_of_placed (placed_in xs a) ≡ Some i → IsAmong xs a i) → instr_of_placed (placed_in (x ∷ xs) a) ≡ Some i → IsAmong (x ∷ xs) a i
instr_step x xs a i true e rest h = (0, omega arith, λ d. (let s : Some x.instr ≡ Some i = rw e at h in same_Some x.instr i s), λ d. eqb-true x.at a e)
instr_step x xs a i false e rest h = let later = rest (rw e at h) in (suc later.0, omega (arith, later.1), later.2, later.3)

pub instr_among : (xs : List Placed) (a : ℕ) (i : Instr80) → instr_of_placed (placed_in xs a) ≡ Some i → IsAmong xs a i
instr_among [] a i h = absurd (cc)
instr_among (x ∷ xs) a i h = instr_step x xs a i (eqb x.at a) refl (instr_among xs a i) h

pub named_start : (p : Program) (a t : ℕ) (i : Instr80) → IsProgram p → instr_at p a ≡ Some i → named_by i ≡ Some t → is_start p t ≡ true
named_start p a t i is here named =
    let at = instr_among p.instrs a i here in
    let d : Placed = record { at = 0; line = 0; instr = i } in
    named_in p p.instrs at.0 t d is.named at.1 (ap named_by (at.2 d) ∙ named)

-- the edges of an instruction, by the two that there may be
pub edges_wired : (p : Program) (a : ℕ) (i : Instr80) (node : Option Node) (goes_on : Bool) → IsProgram p → instr_at p a ≡ Some i → ((t : ℕ) → node ≡ Some (Start t) → named_by i ≡ Some t) → ((next : List Node) → edges next i ≡ option_to_list node ++ cond goes_on next []) → ([] ++ edges_if p node) ++ edges_if p (then_some goes_on (Start (a + length80 i))) ≡ successors p (Start a)
edges_wired p a i node goes_on is here named split =
    ap (λ xs. xs ++ edges_if p (then_some goes_on (Start (a + length80 i)))) (by_node node named)
    ∙ ap (λ xs. option_to_list node ++ xs) (by_next goes_on)
    ∙ sym (split (edge_to p (a + length80 i)))
    ∙ ap (edges_at p a) (sym here)
  where
    by_node : (o : Option Node) → ((t : ℕ) → o ≡ Some (Start t) → named_by i ≡ Some t) → edges_if p o ≡ option_to_list o
    by_node None n = refl
    by_node (Some (Start t)) n = let start : is_start p t ≡ true = named_start p a t i is here (n t refl) in rw start
    by_node (Some Return) n = refl

    by_next : (b : Bool) → edges_if p (then_some b (Start (a + length80 i))) ≡ cond b (edge_to p (a + length80 i)) []
    by_next true = refl
    by_next false = refl

-- the next place that is taken
pub taken_more : (p : Program) (i : ℕ) → i < length (taken_places p) → start_nodes (take i (taken_places p)) ++ edge_if_node p (Start (get_or (taken_places p) i 0)) ≡ start_nodes (take (i + 1) (taken_places p))
taken_more p i lt =
    let start : is_start p (get_or (taken_places p) i 0) ≡ true = taken_are p i 0 lt in
    rw start (sym (map_more (λ (a : ℕ). Start a) (taken_places p) i 0 lt))

-- the instructions by their places
pub placed_at : (p : Program) (k : ℕ) (d : Placed) → IsProgram p → k < length p.instrs → instr_at p (get_or p.instrs k d).at ≡ Some (get_or p.instrs k d).instr
placed_at p k d is lt = ap instr_of_placed (found_here p.instrs 0x100 (p.top - 2) k d is.instrs lt)

pub start_at : (p : Program) (k : ℕ) (d : Placed) → k < length p.instrs → node_at p k ≡ Start (get_or p.instrs k d).at
start_at p k d lt = node_at-start p k (omega (arith, lt, length-starts p.instrs)) ∙ ap (λ (a : ℕ). Start a) (get_or-map (λ (x : Placed). x.at) p.instrs k d 0 lt)
