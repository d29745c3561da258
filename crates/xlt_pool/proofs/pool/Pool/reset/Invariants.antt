use Rattle.std.proofs.Common.{◌≡◌, ◌+◌, ◌≤◌, length, take}
use Rattle.xlt_pool.proofs.pool.Pool.reset.Given as goal

abbrev pub invariant-loop-mark : goal.invariant-loop-mark
invariant-loop-mark l = record {
  within : l.mark.0 ≤ length l.self.nodes;
  kept : take l.mark.0 l.self.nodes ≡ take l.mark.0 l.fn.self.nodes;
  room : l.self.spare + length l.self.nodes ≡ l.fn.self.spare + length l.fn.self.nodes;
}

abbrev pub decreases-loop-mark : goal.decreases-loop-mark
decreases-loop-mark l = length l.self.nodes
