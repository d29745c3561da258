-- What is needed at each place is a set of parts.
use Rattle.std.proofs.Common.{◌≡◌, ◌⊎◌, inl, inr, ℕ, Bool, true, false, List, length, Option, None, refl, subst, arith}
use Rattle.std.specs.Prelude.{IsTrue, ◌==◌}
use Rattle.std.specs.List.{Contains}
use Rattle.std.proofs.lemmas.Bool.{eqb-true}
use Rattle.cells.specs.declared.Part.{Part}
use Rattle.cells.specs.Parts.{Parts, nothing, has}
use Rattle.i80.specs.declared.Instr80.{Instr80}
use Rattle.i80.specs.Columns.{uses80}
use Rattle.asm80_types.specs.Program.{Program, placed_in, instr_at, is_start, starts}
use Rattle.asm80_types.proofs.Standing.{no_instr}
use Rattle.flow.specs.declared.node.Node.{Node}
use Rattle.flow.specs.declared.node.Node.TheVariants.{Start, Return}
use Rattle.flow.specs.declared.search.Vertex.{Vertex}
use Rattle.flow.specs.Graph.{IsEdge, edges_at}
use Rattle.flow.specs.Need.{Need, NeedsAreClosed, parts_at, uses_at, defines_at}
use Rattle.flow.specs.Search.{vertex, AreVerticesOf, IsPassedOn, IsQueue}
use Rattle.flow.specs.Solving.{AreNeeds, HasNeeds}
use Rattle.flow.specs.Wiring.{IsWired}
use Rattle.flow.proofs.Complete.{are_needs}
use Rattle.flow.proofs.Numbers.{number_of_return}
use Rattle.flow.proofs.Sets.{has-nothing}
use Rattle.flow.proofs.Wires.{start_number}

no_need : (p : Program) (a : ℕ) (x : Part) → instr_at p a ≡ None → (has (uses_at p (Start a)) x ≡ true) ⊎ ((r : Node) × IsEdge p (Start a) r × (has (defines_at p (Start a)) x ≡ false) × Need p r x) → ⊥
no_need p a x e (inl u) =
    let here : has nothing x ≡ true = subst (λ (o : Option Instr80). has (parts_at uses80 o) x ≡ true) e u in
    let none = has-nothing x in
    cc
no_need p a x e (inr s) =
    let edge = subst (λ (o : Option Instr80). Contains (edges_at p a o) s.0) e s.1 in
    absurd (omega (arith, edge.1))

-- nothing is needed where no instruction starts
pub none_needed : (p : Program) (a : ℕ) → NeedsAreClosed p → is_start p a ≡ false → AreNeeds p (Start a) nothing
none_needed p a closed h = λ x.
    let no : (has nothing x ≡ true) → Need p (Start a) x = λ e. let none = has-nothing x in absurd (cc) in
    (no, λ n. absurd (no_need p a x (no_instr (placed_in p.instrs a) h) (closed.only (Start a) x n)))

pub all_needs : (p : Program) (ss : List (List ℕ)) (vs : List Vertex) (work : List ℕ) (capacity : ℕ) → NeedsAreClosed p → IsWired p ss → AreVerticesOf p vs → IsPassedOn ss vs → IsQueue vs work capacity → IsTrue (length work == 0) → HasNeeds p
all_needs p ss vs work capacity closed w a passed queue solved = (
  record { at = λ q. (each q (is_start p q) refl).0; returned = (vertex vs (length (starts p))).need },
  record { at = λ q. (each q (is_start p q) refl).1; returned = are_needs p ss vs work capacity (length (starts p)) Return w a passed queue empty (number_of_return p) },
)
  where
    empty : length work ≡ 0
    empty = eqb-true (length work) 0 solved

    each : (q : ℕ) (x : Bool) → is_start p q ≡ x → (k : Parts) × AreNeeds p (Start q) k
    each q true e = let n = start_number p q e in ((vertex vs n.0).need, are_needs p ss vs work capacity n.0 (Start q) w a passed queue empty n.1)
    each q false e = (nothing, none_needed p q closed e)
