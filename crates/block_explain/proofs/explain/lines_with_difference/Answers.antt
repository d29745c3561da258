use Rattle.std.proofs.Common.{◌∙◌, ◌++◌, ap}
use Rattle.std.specs.String.{string_bytes}
use Rattle.std.proofs.lemmas.Result.{IfOk-weaker}
use Rattle.block_explain.proofs.explain.lines_with_difference.Goals as goal

pub returns : goal.returns
returns c =
    let differing = string_bytes c.in_ok-differing.differing in
    IfOk-weaker c.format.result _ _ (λ text e. record {
      differing = differing;
      differ = c.in_ok-differing.ensures;
      is = e ∙ ap (λ t. t ++ differing) c.in_ok-sides.ensures;
    }) c.format.ensures.ok
