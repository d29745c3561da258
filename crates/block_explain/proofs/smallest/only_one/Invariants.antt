use Rattle.std.proofs.Common.{◌≡◌, filter, length}
use Rattle.block_explain.specs.Smallest.{is_not_one}
use Rattle.block_explain.specs.Pairs.{trees_of_all, AreAllGiven}
use Rattle.block_explain.proofs.smallest.only_one.Given as goal

abbrev pub invariant-loop-first : goal.invariant-loop-first
invariant-loop-first l = record {
  given : AreAllGiven l.terms l.rest;
  same : filter is_not_one (trees_of_all l.terms l.rest) ≡ filter is_not_one (trees_of_all l.terms l.pairs);
}

abbrev pub decreases-loop-first : goal.decreases-loop-first
decreases-loop-first l = length l.rest
