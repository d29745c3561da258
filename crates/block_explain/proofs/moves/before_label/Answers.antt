use Rattle.std.proofs.Common.{◌∙◌, ◌++◌, ap}
use Rattle.std.proofs.lemmas.Result.{IfOk-weaker}
use Rattle.block_explain.proofs.moves.before_label.Goals as goal

pub returns : goal.returns
returns c = IfOk-weaker c.format.result _ _ (λ text e. e ∙ ap (λ t. c.args.before.now ++ t) c.in_ok-label.ensures) c.format.ensures.ok
