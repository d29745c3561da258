-- What a pool has: a list of nodes, no two of them equal, and room for so many more.
use Rattle.std.specs.Prelude.{◌≡◌, ℕ, ◌+◌, List, [], ◌∷◌, ◌++◌, length, Some, slice_get}
use Rattle.xlt_pool.specs.declared.node.Node.{Node}

pub record Contents : Type 0 where
  pub nodes : List Node
  pub spare : ℕ

-- the node stands at this place of the list
abbrev pub NodeStandsAt : List Node → ℕ → Node → Type 0
NodeStandsAt nodes place node = slice_get nodes place ≡ Some node

-- the node stands nowhere in the list
abbrev pub IsAbsent : List Node → Node → Type 0
IsAbsent nodes node = (place : ℕ) → ¬ NodeStandsAt nodes place node

-- no node stands at two places
abbrev pub AreDistinct : List Node → Type 0
AreDistinct nodes = (i j : ℕ) (node : Node) → NodeStandsAt nodes i node → NodeStandsAt nodes j node → i ≡ j

-- a node that is asked for is held, at this place
pub record IsFound (old : Contents) (node : Node) (place : ℕ) (new : Contents) : Type 0 where
  pub stands : NodeStandsAt old.nodes place node
  pub unchanged : new ≡ old

-- it is new, and goes last
pub record IsAdded (old : Contents) (node : Node) (place : ℕ) (new : Contents) : Type 0 where
  pub absent : IsAbsent old.nodes node
  pub last : place ≡ length old.nodes
  pub nodes : new.nodes ≡ old.nodes ++ node ∷ []
  pub spare : new.spare + 1 ≡ old.spare

-- it is new, and there is no room
pub record HasNoRoom (old : Contents) (node : Node) (new : Contents) : Type 0 where
  pub absent : IsAbsent old.nodes node
  pub full : old.spare ≡ 0
  pub unchanged : new ≡ old
