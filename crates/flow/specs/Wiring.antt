-- How the edges of a program are kept: for each node, the numbers of the nodes with an edge to it.
use Rattle.std.specs.Prelude.{◌≡◌, ◌⊎◌, ℕ, ◌+◌, ◌<◌, List, [], ◌∷◌, map, length, take, Option, Some, None}
use Rattle.std.specs.List.{Contains, sum_by}
use Rattle.asm80_types.specs.Program.{Program}
use Rattle.flow.specs.declared.node.Node.{Node}
use Rattle.flow.specs.declared.sources.Row.{Row}
use Rattle.flow.specs.declared.sources.Row.TheVariants.{None as NoRow, One, More}
use Rattle.flow.specs.declared.node.Node.TheVariants.{Start, Return}
use Rattle.flow.specs.Graph.{nodes, edge_to, successors, edge_count, IsEdge}
use Rattle.flow.specs.Search.{node_at, row}

abbrev pub items_of : Row → List ℕ
items_of NoRow = []
items_of (One number) = number
items_of (More numbers) = numbers.items

abbrev pub rows_of : List Row → List (List ℕ)
rows_of rows = map items_of rows

-- the number of a node
pub record IsNumber (p : Program) (k : ℕ) (q : Node) : Type 0 where
  pub within : k < length (nodes p)
  pub stands : node_at p k ≡ q

-- the edge to a node, where it is one of the program
abbrev pub edge_if_node : Program → Node → List Node
edge_if_node p (Start a) = edge_to p a
edge_if_node p Return = Return ∷ []

abbrev pub edges_if : Program → Option Node → List Node
edges_if p None = []
edges_if p (Some q) = edge_if_node p q

-- a node's number is kept where an edge from it leads
abbrev pub IsKept : Program → List (List ℕ) → ℕ → Node → Type 0
IsKept p ss i r = (k : ℕ) × (k < length (nodes p)) × (node_at p k ≡ r) × Contains (row ss k) i

-- the edges of the first so many nodes are kept, and of the next one some edges
pub record IsWiredTo (p : Program) (ss : List (List ℕ)) (j : ℕ) (some : List Node) : Type 0 where
  pub sized : length ss ≡ length (nodes p)
  pub into : (i k : ℕ) → Contains (row ss k) i → ((i < j) × IsEdge p (node_at p i) (node_at p k)) ⊎ ((i ≡ j) × Contains some (node_at p k))
  pub onward : (i : ℕ) (r : Node) → i < j → IsEdge p (node_at p i) r → IsKept p ss i r
  pub onward_here : (r : Node) → Contains some r → IsKept p ss j r
  pub edges : sum_by length ss ≡ sum_by (λ q. length (successors p q)) (take j (nodes p)) + length some

-- the edges of all nodes are kept, and no others
pub record IsWired (p : Program) (ss : List (List ℕ)) : Type 0 where
  pub sized : length ss ≡ length (nodes p)
  pub into : (i k : ℕ) → Contains (row ss k) i → (i < length (nodes p)) × IsEdge p (node_at p i) (node_at p k)
  pub onward : (i : ℕ) (r : Node) → i < length (nodes p) → IsEdge p (node_at p i) r → IsKept p ss i r
  pub edges : sum_by length ss ≡ edge_count p
