-- The search for the needs: for each node the parts that are found needed so far, and a work list of the nodes whose edges are still
-- to be visited.
use Rattle.std.specs.Prelude.{◌≡◌, ◌≢◌, ◌⊎◌, ℕ, ◌+◌, ◌-◌, ◌*◌, ◌<◌, ◌≤◌, Bool, true, false, ◌&&◌, ◌||◌, not, List, [], ◌∷◌, length, slice_index_or, slice_index}
use Rattle.std.specs.List.{Contains, sum_by, count_by}
use Rattle.cells.specs.declared.Part.{Part}
use Rattle.cells.specs.Parts.{Parts, nothing, has, weight}
use Rattle.asm80_types.specs.Program.{Program}
use Rattle.flow.specs.declared.node.Node.{Node}
use Rattle.flow.specs.declared.node.Node.TheVariants.{Return}
use Rattle.flow.specs.declared.search.Vertex.{Vertex}
use Rattle.flow.specs.Graph.{nodes}
use Rattle.flow.specs.Need.{Need, uses_at, defines_at}

-- the node of a number, and what is known of it
abbrev pub node_at : Program → ℕ → Node
node_at p k = slice_index_or (nodes p) k Return

abbrev pub no_vertex : Vertex
no_vertex = record { defines = nothing; need = nothing; waits = false }

abbrev pub vertex : List Vertex → ℕ → Vertex
vertex vs k = slice_index_or vs k no_vertex

-- the numbers of the nodes with an edge to a node
abbrev pub row : List (List ℕ) → ℕ → List ℕ
row ss k = slice_index_or ss k []

-- the part is in the one set and not in the other
abbrev pub is_left : Parts → Parts → Part → Bool
is_left k m x = has k x && not (has m x)

-- how many parts a set has
abbrev pub size : Parts → ℕ
size k = weight k.a 1 + weight k.b 1 + weight k.c 1 + weight k.d 1 + weight k.e 1 + weight k.h 1 + weight k.l 1 + weight k.s 1 + weight k.z 1 + weight k.ac 1 + weight k.p 1 + weight k.cy 1

-- how often a node can still be taken from the work list: once if it waits there, and once for each part that its set has not yet
abbrev pub credit : Vertex → ℕ
credit v = (12 - size v.need) + weight v.waits 1

-- how many visits of edges can still come
abbrev pub visits_left : List (List ℕ) → List Vertex → ℕ
visits_left [] vs = 0
visits_left (s ∷ ss) [] = 0
visits_left (s ∷ ss) (v ∷ vs) = length s * credit v + visits_left ss vs

-- the work list has the nodes that wait, each once; there is room for all
pub record IsQueue (vs : List Vertex) (work : List ℕ) (capacity : ℕ) : Type 0 where
  pub within : (k : ℕ) → k < length work → slice_index work k < length vs
  pub waits : (k : ℕ) → k < length work → (vertex vs (slice_index work k)).waits ≡ true
  pub once : (j k : ℕ) → j < length work → k < length work → slice_index work j ≡ slice_index work k → j ≡ k
  pub count : count_by (λ (v : Vertex). v.waits) vs ≡ length work
  pub room : length vs ≤ capacity

-- a node was visited from the end of one of its edges, where some parts are needed: of these it needs what it does not define. It
-- waits if its set has grown
pub record IsVisited (old : List Vertex) (from : ℕ) (passed : Parts) (new : List Vertex) : Type 0 where
  pub same_length : length new ≡ length old
  pub others : (k : ℕ) → k ≢ from → vertex new k ≡ vertex old k
  pub defines : (vertex new from).defines ≡ (vertex old from).defines
  pub need : (x : Part) → has (vertex new from).need x ≡ (has (vertex old from).need x || is_left passed (vertex old from).defines x)
  pub woken : (vertex new from ≡ vertex old from) ⊎ ((vertex new from).waits ≡ true)
  pub fewer : sum_by credit new ≤ sum_by credit old
  pub cheaper : (ss : List (List ℕ)) → visits_left ss new ≤ visits_left ss old

-- all of some nodes were visited
pub record IsSpread (sources : List ℕ) (passed : Parts) (old new : List Vertex) : Type 0 where
  pub same_length : length new ≡ length old
  pub defines : (k : ℕ) → (vertex new k).defines ≡ (vertex old k).defines
  pub grows : (k : ℕ) (x : Part) → has (vertex old k).need x ≡ true → has (vertex new k).need x ≡ true
  pub passes : (k : ℕ) (x : Part) → Contains sources k → is_left passed (vertex old k).defines x ≡ true → has (vertex new k).need x ≡ true
  pub only : (k : ℕ) (x : Part) → has (vertex new k).need x ≡ true → (has (vertex old k).need x ≡ true) ⊎ (Contains sources k × (is_left passed (vertex old k).defines x ≡ true))
  pub woken : (k : ℕ) → (vertex new k ≡ vertex old k) ⊎ ((vertex new k).waits ≡ true)
  pub fewer : sum_by credit new ≤ sum_by credit old
  pub cheaper : (ss : List (List ℕ)) → visits_left ss new ≤ visits_left ss old

-- the vertices are those of a program's nodes; what a node uses is found, and what is found is needed
pub record AreVerticesOf (p : Program) (vs : List Vertex) : Type 0 where
  pub sized : length vs ≡ length (nodes p)
  pub defines : (k : ℕ) → k < length (nodes p) → (vertex vs k).defines ≡ defines_at p (node_at p k)
  pub uses : (k : ℕ) (x : Part) → k < length (nodes p) → has (uses_at p (node_at p k)) x ≡ true → has (vertex vs k).need x ≡ true
  pub sound : (k : ℕ) (x : Part) → k < length (nodes p) → has (vertex vs k).need x ≡ true → Need p (node_at p k) x

-- behind each edge to a node that does not wait, what is found there is found before it too, unless it is defined there
pub record IsPassedOn (ss : List (List ℕ)) (vs : List Vertex) : Type 0 where
  pub passed : (j k : ℕ) (x : Part) → Contains (row ss k) j → (vertex vs k).waits ≡ false → is_left (vertex vs k).need (vertex vs j).defines x ≡ true → has (vertex vs j).need x ≡ true
