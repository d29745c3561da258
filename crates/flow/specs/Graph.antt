-- The flow graph of a program: its nodes are the instructions and Return, where control is while it goes back to an address that was
-- stored or loaded. The edges lead to where control may go next.
use Rattle.std.specs.Prelude.{ℕ, ◌+◌, cond, List, [], ◌∷◌, ◌++◌, map, length, Option, Some, None}
use Rattle.std.specs.List.{Contains, sum_by}
use Rattle.i80.specs.declared.Goal.TheVariants.{At, Boot, Bdos}
use Rattle.i80.specs.declared.Instr80.{Instr80}
use Rattle.i80.specs.declared.Instr80.TheVariants.{Pchl, Jmp, Jif, Call, Cif, Ret, Rif, Rst0}
use Rattle.i80.specs.Columns.{length80}
use Rattle.asm80_types.specs.Program.{Program, instr_at, is_start, starts}
use Rattle.asm80_types.specs.Taken.{taken_places}
use Rattle.flow.specs.declared.node.Node.{Node}
use Rattle.flow.specs.declared.node.Node.TheVariants.{Start, Return}

-- the edges of an instruction, where `next` is the edge to the place after it (Intel 8080 Assembly Language Programming Manual,
-- "Jump instructions", "Call subroutine instructions", "Return from subroutine instructions"). A call of an instruction comes back
-- by a return, and so by way of Return. The system at 5 comes back behind a call of it; where it was jumped to, it returns to the
-- address on the stack. At 0 the program ends (CP/M 2.2 Operating System Manual, "BDOS functions")
abbrev pub edges : List Node → Instr80 → List Node
edges next (Jmp (At t)) = Start t ∷ []
edges next (Jmp Boot) = []
edges next (Jmp Bdos) = Return ∷ []
edges next (Jif c (At t)) = Start t ∷ next
edges next (Jif c Boot) = next
edges next (Jif c Bdos) = Return ∷ next
edges next (Call (At t)) = Start t ∷ []
edges next (Call Boot) = []
edges next (Call Bdos) = next
edges next (Cif c (At t)) = Start t ∷ next
edges next (Cif c Boot) = next
edges next (Cif c Bdos) = next
edges next Ret = Return ∷ []
edges next (Rif c) = Return ∷ next
edges next Pchl = Return ∷ []
edges next Rst0 = []
edges next i = next

-- the edge to a place, where an instruction starts there
abbrev pub edge_to : Program → ℕ → List Node
edge_to p a = cond (is_start p a) (Start a ∷ []) []

abbrev pub edges_at : Program → ℕ → Option Instr80 → List Node
edges_at p a None = []
edges_at p a (Some i) = edges (edge_to p (a + length80 i)) i

-- where the edges of a node lead: those of Return to every place that is taken
abbrev pub successors : Program → Node → List Node
successors p (Start a) = edges_at p a (instr_at p a)
successors p Return = map (λ (a : ℕ). Start a) (taken_places p)

abbrev pub IsEdge : Program → Node → Node → Type 0
IsEdge p q r = Contains (successors p q) r

-- the nodes, and the number of their edges
abbrev pub nodes : Program → List Node
nodes p = map (λ (a : ℕ). Start a) (starts p) ++ Return ∷ []

abbrev pub edge_count : Program → ℕ
edge_count p = sum_by (λ q. length (successors p q)) (nodes p)
