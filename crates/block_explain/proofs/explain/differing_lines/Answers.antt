use Rattle.std.proofs.Common.{◌∙◌, ap}
use Rattle.std.specs.String.{string_bytes}
use Rattle.std.proofs.lemmas.Result.{IfOk-weaker}
use Rattle.block_explain.specs.Words.{words}
use Rattle.block_explain.specs.Explained.{differs_lines}
use Rattle.block_explain.specs.Pairs.{trees_of}
use Rattle.block_explain.proofs.explain.differing_lines.Goals as goal

pub returns : goal.returns
returns c =
    let found = trees_of c.args.terms.now c.smallest_pair-smallest.result in
    let other = string_bytes c.in_ok-other.other in
    IfOk-weaker c.format.result _ _ (λ text e. record {
      found = found;
      smallest = c.smallest_pair-smallest.ensures.smallest;
      is = e ∙ ap (λ t. differs_lines t other) c.in_ok-one.ensures ∙ ap (λ t. differs_lines (words found.ours) t) c.in_ok-other.ensures;
    }) c.format.ensures.ok
