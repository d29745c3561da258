use Rattle.std.proofs.Common.{◌≡◌, ◌∙◌, [], sym, ap}
use Rattle.std.specs.Prelude.{filter}
use Rattle.sym_terms.specs.Trees.{tree_in, entries_of}
use Rattle.block_explain.specs.Smallest.{operand_pairs, only_one, is_not_one}
use Rattle.block_explain.proofs.Leaves.{no_pairs}
use Rattle.block_explain.proofs.smallest.only_difference.Goals as goal

pub returns-in-Num : goal.returns-in-Num
returns-in-Num c =
    let pool = c.args.terms.now in
    let none : operand_pairs (tree_in pool c.args.whole.ours) (tree_in pool c.args.whole.theirs) ≡ [] = ap (λ s. operand_pairs s (tree_in pool c.args.whole.theirs)) c.head.ensures.tree ∙ no_pairs (entries_of pool.nodes) c.head.result (tree_in pool c.args.whole.theirs) c.in-Num.is in
    record { given = tt; is = sym (ap (λ ps. only_one (filter is_not_one ps)) none) }
