use Rattle.std.proofs.Common.{◌≡◌, ◌+◌, length, map, take}
use Rattle.std.specs.Vec.{vec_capacity}
use Rattle.flow.specs.Begin.{vertex_placed}
use Rattle.flow.proofs.begin.vertices_of.Given as goal

abbrev pub invariant-loop-placed : goal.invariant-loop-placed
invariant-loop-placed l = record {
  items : l.vertices.items ≡ map vertex_placed (take l.placed-index l.program.instrs);
  count : length l.vertices.items ≡ l.placed-index;
  room : vec_capacity l.vertices ≡ length l.instrs + 1;
}
