-- How a pool keeps its nodes.
use Rattle.std.specs.Prelude.{◌≡◌, ℕ, ◌-◌, ◌^◌, ◌<◌, ◌≤◌, length, slice_index_or}
use Rattle.std.specs.Vec.{vec_capacity}
use Rattle.xlt_pool.specs.declared.pool.Pool.TheInside.{Inside}
use Rattle.xlt_pool.specs.Contents.{Contents}
use Rattle.xlt_pool.specs.Table.{HasId, IsTable}

abbrev pub contents_of : Inside → Contents
contents_of pool = record { nodes = pool.nodes.items; spare = pool.room - length pool.nodes.items }

-- the room is reserved, its table can take one id more, and each id stands at the place that is noted for it
pub record IsPool (pool : Inside) : Type 0 where
  pub table : IsTable pool.nodes.items pool.slots.items
  pub fits : length pool.nodes.items ≤ pool.room
  pub small : pool.room < 2 ^ 32
  pub reserved : pool.room ≤ vec_capacity pool.nodes
  pub slots : pool.room < length pool.slots.items
  pub counted : length pool.places.items ≡ length pool.nodes.items
  pub placed : (id : ℕ) → id < length pool.nodes.items → HasId pool.slots.items (slice_index_or pool.places.items id 0) id
  pub noted : pool.room ≤ vec_capacity pool.places
