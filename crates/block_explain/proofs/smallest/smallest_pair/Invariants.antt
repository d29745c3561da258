use Rattle.sym_terms.specs.Trees.{tree_in}
use Rattle.sym_terms.proofs.Size.{size}
use Rattle.block_explain.specs.Smallest.{TermPair, Smallest}
use Rattle.block_explain.specs.Pairs.{trees_of, AreBothGiven}
use Rattle.block_explain.proofs.smallest.smallest_pair.Given as goal

abbrev pub invariant-loop-operands : goal.invariant-loop-operands
invariant-loop-operands l = record {
  given : AreBothGiven l.terms l.smallest;
  goes : (q : TermPair) → Smallest (trees_of l.terms l.smallest) q → Smallest (trees_of l.terms l.fn.pair) q;
}

abbrev pub decreases-loop-operands : goal.decreases-loop-operands
decreases-loop-operands l = size (tree_in l.terms l.smallest.ours)
