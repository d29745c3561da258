use Rattle.std.proofs.Common.{◌≡◌, ◌≤◌, ℕ, ◌++◌, map, drop}
use Rattle.asm80_types.specs.Program.{Program}
use Rattle.flow.specs.Cut.{Marks, blocks_from, EndsInMemory}
use Rattle.flow.proofs.cut.Cut.add_from.Given as goal

abbrev pub invariant-loop-placed : goal.invariant-loop-placed
invariant-loop-placed l = record {
  last : EndsInMemory l.last;
  count : l.block.count ≤ 16;
  leaders : (p : Program) → Marks l.entered p → l.self.leaders.items ++ map (λ (b : ℕ × ℕ). b.0) (blocks_from p l.block.leader l.block.count l.last (drop l.placed-index l.rest)) ≡ l.fn.self.leaders.items ++ map (λ (b : ℕ × ℕ). b.0) (blocks_from p l.first.at 1 l.first l.rest);
  counts : (p : Program) → Marks l.entered p → l.self.counts.items ++ map (λ (b : ℕ × ℕ). b.1) (blocks_from p l.block.leader l.block.count l.last (drop l.placed-index l.rest)) ≡ l.fn.self.counts.items ++ map (λ (b : ℕ × ℕ). b.1) (blocks_from p l.first.at 1 l.first l.rest);
}
