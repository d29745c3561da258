use Rattle.std.proofs.Common.{◌≡◌, ◌∙◌, Some, None, sym, ap}
use Rattle.block_explain.specs.Smallest.{here, deeper, only_difference}
use Rattle.block_explain.specs.Pairs.{trees_of, trees_if_any}
use Rattle.block_explain.proofs.Smaller.{difference_smaller}
use Rattle.block_explain.proofs.smallest.smallest_pair.Goals as goal

pub loop-operands-preserved : goal.loop-operands-preserved
loop-operands-preserved c =
    let pool = c.args.terms.now in
    let found = c.only_difference.ensures in
    let is : only_difference (trees_of pool c.loop-operands.smallest) ≡ Some (trees_of pool c.in-Some.operands) = sym found.is ∙ ap (trees_if_any pool) c.in-Some.is in
    record { given = rw c.in-Some.is at found.given; goes = λ q h. c.loop-operands.invariant.goes q (deeper is h) }

pub loop-operands-smaller : goal.loop-operands-smaller
loop-operands-smaller c =
    let pool = c.args.terms.now in
    let is : only_difference (trees_of pool c.loop-operands.smallest) ≡ Some (trees_of pool c.in-Some.operands) = sym c.only_difference.ensures.is ∙ ap (trees_if_any pool) c.in-Some.is in
    difference_smaller (trees_of pool c.loop-operands.smallest) (trees_of pool c.in-Some.operands) is

pub returns-clause-smallest : goal.returns-clause-smallest
returns-clause-smallest c =
    let pool = c.args.terms.now in
    let none : only_difference (trees_of pool c.loop-operands.smallest) ≡ None = sym c.only_difference.ensures.is ∙ ap (trees_if_any pool) c.in_default.is in
    c.loop-operands.invariant.goes (trees_of pool c.loop-operands.smallest) (here none)
