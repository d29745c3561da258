-- Which parts are still needed: some path comes to an instruction that uses the part, and no earlier one on it defines the part.
use Rattle.std.specs.Prelude.{◌≡◌, ◌⊎◌, ℕ, true, false, List, [], ◌∷◌, ◌++◌, Option, Some, None, All}
use Rattle.std.specs.List.{Contains}
use Rattle.cells.specs.declared.Part.{Part}
use Rattle.cells.specs.Parts.{Parts, nothing, has}
use Rattle.i80.specs.declared.Instr80.{Instr80}
use Rattle.i80.specs.Columns.{uses80, defs80}
use Rattle.asm80_types.specs.Program.{Program, instr_at}
use Rattle.asm80_types.specs.Taken.{taken_places}
use Rattle.flow.specs.declared.node.Node.{Node}
use Rattle.flow.specs.declared.node.Node.TheVariants.{Start, Return}
use Rattle.flow.specs.Graph.{IsEdge}

abbrev pub parts_at : (Instr80 → Parts) → Option Instr80 → Parts
parts_at column None = nothing
parts_at column (Some i) = column i

-- the parts that a node uses, and those that it defines: its instruction's columns; Return uses and defines nothing
abbrev pub uses_at : Program → Node → Parts
uses_at p (Start a) = parts_at uses80 (instr_at p a)
uses_at p Return = nothing

abbrev pub defines_at : Program → Node → Parts
defines_at p (Start a) = parts_at defs80 (instr_at p a)
defines_at p Return = nothing

-- an edge leads from a node to the first of some nodes, if there is one
abbrev pub LeadsTo : Program → Node → List Node → Type 0
LeadsTo p q [] = Unit {0}
LeadsTo p q (r ∷ rs) = IsEdge p q r

-- a path: an edge leads from each of its nodes to the next one
abbrev pub IsPath : Program → List Node → Type 0
IsPath p [] = Unit {0}
IsPath p (q ∷ qs) = LeadsTo p q qs × IsPath p qs

-- a path begins at a node
abbrev pub BeginsAt : Node → List Node → Type 0
BeginsAt q [] = Unit {0}
BeginsAt q (r ∷ rs) = q ≡ r

-- the part is needed at the node: a path begins there and ends at a node that uses the part, and none of those earlier on it
-- defines it
pub record Need (p : Program) (q : Node) (x : Part) : Type 0 where
  pub earlier : List Node
  pub user : Node
  pub path : IsPath p (earlier ++ user ∷ [])
  pub begins : BeginsAt q (earlier ++ user ∷ [])
  pub uses : has (uses_at p user) x ≡ true
  pub kept : All (λ r. has (defines_at p r) x ≡ false) earlier

-- what is needed at a node is what it uses, and what is needed at the end of one of its edges and not defined at the node; so at
-- Return, what is needed at a place that is taken
pub record NeedsAreClosed (p : Program) : Type 0 where
  pub uses : (q : Node) (x : Part) → has (uses_at p q) x ≡ true → Need p q x
  pub passes : (q r : Node) (x : Part) → IsEdge p q r → has (defines_at p q) x ≡ false → Need p r x → Need p q x
  pub only : (q : Node) (x : Part) → Need p q x → (has (uses_at p q) x ≡ true) ⊎ ((r : Node) × IsEdge p q r × (has (defines_at p q) x ≡ false) × Need p r x)
  pub returns : (a : ℕ) (x : Part) → Contains (taken_places p) a → Need p (Start a) x → Need p Return x
