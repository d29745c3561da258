-- A table of the ids of nodes, with open addressing: each id stands at the home slot of its node, or behind it where the slots from
-- there were taken when it came. Slots are counted round the end of the table.
use Rattle.std.specs.Prelude.{◌≡◌, ℕ, ◌+◌, ◌*◌, ◌/◌, ◌%◌, ◌^◌, ◌<◌, List, length, Option, Some, None, is_none, count_by, slice_index_or}
use Rattle.xlt_pool.specs.declared.node.Node.{Node}
use Rattle.xlt_pool.specs.Contents.{NodeStandsAt, IsAbsent, AreDistinct}

-- one field mixed into a hash, in 64 bits
abbrev pub mixed : ℕ → ℕ → ℕ
mixed hash field = (((hash + field) % 2 ^ 64) * 0x9E3779B97F4A7C15) % 2 ^ 64

-- the slot at which the search for a node begins, in a table of so many
unfoldable pub home_of : Node → ℕ → ℕ
home_of node size = (mixed (mixed (mixed (mixed (mixed 0 node.op) node.num) node.a) node.b) node.c / 2 ^ 32) % size

-- an id stands in a slot
abbrev pub HasId : List (Option ℕ) → ℕ → ℕ → Type 0
HasId slots slot id = slice_index_or slots slot None ≡ Some id

-- the id stands so many slots behind a home, and each slot before it has an earlier id
pub record IsReached (slots : List (Option ℕ)) (size home id : ℕ) : Type 0 where
  pub distance : ℕ
  pub stands : HasId slots ((home + distance) % size) id
  pub before : (k : ℕ) → k < distance → (earlier : ℕ) × HasId slots ((home + k) % size) earlier × (earlier < id)

-- the table of these nodes; one slot more than they need is empty, so that every search ends
pub record IsTable (nodes : List Node) (slots : List (Option ℕ)) : Type 0 where
  pub distinct : AreDistinct nodes
  pub reached : (id : ℕ) (node : Node) → NodeStandsAt nodes id node → IsReached slots (length slots) (home_of node (length slots)) id
  pub held : (k id : ℕ) → HasId slots k id → id < length nodes
  pub once : (j k id : ℕ) → HasId slots j id → HasId slots k id → j ≡ k
  pub empty : count_by is_none slots + length nodes ≡ length slots
  pub room : length nodes < length slots

-- the search for a node that is not there ends at this slot
pub record IsFreeFor (nodes : List Node) (slots : List (Option ℕ)) (node : Node) (slot : ℕ) : Type 0 where
  pub absent : IsAbsent nodes node
  pub distance : ℕ
  pub ends : slot ≡ (home_of node (length slots) + distance) % length slots
  pub before : (k : ℕ) → k < distance → (id : ℕ) × HasId slots ((home_of node (length slots) + k) % length slots) id
