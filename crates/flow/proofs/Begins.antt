-- Where the search begins, nothing is found but what is used.
use Rattle.std.proofs.Common.{◌≡◌, ℕ, ◌+◌, ◌<◌, ◌≤◌, true, List, [], ◌∷◌, length, get_or, map, refl, sym, ap, subst, ◌∙◌, ⊎_elim, arith}
use Rattle.std.specs.List.{Contains, count_by}
use Rattle.std.proofs.lemmas.Bool.{both_ways, cases_lt}
use Rattle.std.proofs.lemmas.List.{length-map, length_push, get_or-map, get_or_append_left, get_or_push, get_or_past}
use Rattle.std.proofs.lemmas.List.Sums.{sum_by_push, sum_by-cons}
use Rattle.cells.specs.Parts.{has}
use Rattle.i80.specs.declared.Instr80.TheVariants.{Nop}
use Rattle.i80.specs.Columns.{uses80, defs80}
use Rattle.asm80_types.specs.declared.program.Placed.{Placed}
use Rattle.asm80_types.specs.Program.{Program, IsProgram}
use Rattle.asm80_types.proofs.Lookup.{length-starts}
use Rattle.flow.specs.declared.node.Node.TheVariants.{Return}
use Rattle.flow.specs.declared.search.Vertex.{Vertex}
use Rattle.flow.specs.Begin.{vertex_placed, vertex_return, first_vertices}
use Rattle.flow.specs.Graph.{nodes}
use Rattle.flow.specs.Need.{uses_at, defines_at, parts_at}
use Rattle.flow.specs.Search.{vertex, no_vertex, node_at, row, AreVerticesOf, IsPassedOn, IsQueue}
use Rattle.flow.specs.Wiring.{IsWired}
use Rattle.flow.proofs.Needs.{need_here}
use Rattle.flow.proofs.Numbers.{length-nodes, node_at-return}
use Rattle.flow.proofs.Queue.{one_if}
use Rattle.flow.proofs.Wires.{placed_at, start_at}

abbrev some_placed : Placed
some_placed = record { at = 0; line = 0; instr = Nop }

length-first : (p : Program) → length (first_vertices p) ≡ length p.instrs + 1
length-first p = length_push (map vertex_placed p.instrs) vertex_return ∙ ap (λ n. n + 1) (length-map p.instrs vertex_placed)

pub sized_first : (p : Program) → length (first_vertices p) ≡ length (nodes p)
sized_first p = omega (arith, length-first p, length-nodes p, length-starts p.instrs)

first-instr : (p : Program) (k : ℕ) → k < length p.instrs → vertex (first_vertices p) k ≡ vertex_placed (get_or p.instrs k some_placed)
first-instr p k lt = get_or_append_left (map vertex_placed p.instrs) (vertex_return ∷ []) no_vertex k (omega (arith, lt, length-map p.instrs vertex_placed)) ∙ get_or-map vertex_placed p.instrs k some_placed no_vertex lt

first-return : (p : Program) → vertex (first_vertices p) (length p.instrs) ≡ vertex_return
first-return p = get_or_push (map vertex_placed p.instrs) vertex_return no_vertex (length p.instrs) (length-map p.instrs vertex_placed)

-- a vertex has the columns of its node
abbrev HasColumns : Program → ℕ → Vertex → Type 0
HasColumns p k v = (v.defines ≡ defines_at p (node_at p k)) × (v.need ≡ uses_at p (node_at p k)) × (v.waits ≡ true)

columns_placed : (p : Program) → IsProgram p → (k : ℕ) → k < length p.instrs → HasColumns p k (vertex_placed (get_or p.instrs k some_placed))
columns_placed p is k lt =
    let at = placed_at p k some_placed is lt in
    (sym (ap (defines_at p) (start_at p k some_placed lt) ∙ ap (parts_at defs80) at), sym (ap (uses_at p) (start_at p k some_placed lt) ∙ ap (parts_at uses80) at), refl)

columns_return : (p : Program) → HasColumns p (length p.instrs) vertex_return
columns_return p =
    let node : node_at p (length p.instrs) ≡ Return = ap (node_at p) (sym (length-starts p.instrs)) ∙ node_at-return p in
    (sym (ap (defines_at p) node), sym (ap (uses_at p) node), refl)

columns : (p : Program) → IsProgram p → (k : ℕ) → k < length (nodes p) → HasColumns p k (vertex (first_vertices p) k)
columns p is k lt =
    ⊎_elim
    (λ instr. subst (HasColumns p k) (sym (first-instr p k instr)) (columns_placed p is k instr))
    (λ ge.
    let last : k ≡ length p.instrs = omega (arith, lt, ge, length-nodes p, length-starts p.instrs) in
    subst (λ j. HasColumns p j (vertex (first_vertices p) j)) (sym last) (subst (HasColumns p (length p.instrs)) (sym (first-return p)) (columns_return p)))
    (cases_lt k (length p.instrs))

pub first_are : (p : Program) → IsProgram p → AreVerticesOf p (first_vertices p)
first_are p is = record {
  sized = sized_first p;
  defines = λ k lt. (columns p is k lt).0;
  uses = λ k x lt u. ap (λ m. has m x) (columns p is k lt).1 ∙ u;
  sound = λ k x lt h. need_here p (node_at p k) x (sym (ap (λ m. has m x) (columns p is k lt).1) ∙ h);
}

pub first_passed_on : (p : Program) (ss : List (List ℕ)) → IsProgram p → IsWired p ss → IsPassedOn ss (first_vertices p)
first_passed_on p ss is w = record {
  passed = λ j k x among idle left. ⊎_elim
      (λ lt. absurd (both_ways (vertex (first_vertices p) k).waits idle (columns p is k lt).2))
      (λ ge.
      let none : row ss k ≡ [] = get_or_past ss k [] (omega (arith, ge, w.sized)) in
      let no_place = subst (λ xs. Contains xs j) none among in
      absurd (omega (arith, no_place.1)))
      (cases_lt k (length (nodes p)));
}

all_wait : (xs : List Placed) → count_by (λ (v : Vertex). v.waits) (map vertex_placed xs) ≡ length xs
all_wait [] = refl
all_wait (x ∷ xs) = omega (arith, sum_by-cons (λ (v : Vertex). one_if v.waits) (vertex_placed x) (map vertex_placed xs), all_wait xs)

pub first_queue : (p : Program) (work : List ℕ) (capacity : ℕ) → IsProgram p → length work ≡ length (nodes p) → ((k : ℕ) → k < length work → get_or work k 0 ≡ k) → length work ≤ capacity → IsQueue (first_vertices p) work capacity
first_queue p work capacity is count each room = record {
  within = λ k lt. omega (arith, each k lt, lt, count, sized_first p);
  waits = λ k lt. subst (λ j. (vertex (first_vertices p) j).waits ≡ true) (sym (each k lt)) (columns p is k (omega (arith, lt, count))).2;
  once = λ j k lt lt' same. sym (each j lt) ∙ same ∙ each k lt';
  count = omega (arith, sum_by_push (λ (v : Vertex). one_if v.waits) (map vertex_placed p.instrs) vertex_return, all_wait p.instrs, count, length-nodes p, length-starts p.instrs);
  room = omega (arith, room, count, sized_first p);
}
