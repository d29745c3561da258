-- The text is those lines.
use Rattle.std.proofs.Common.{◌∙◌}
use Rattle.std.proofs.lemmas.Result.{IfOk-weaker}
use Rattle.cmd_sample.proofs.Texts.{counting_text}
use Rattle.cmd_sample.proofs.counting.Goals as goal

pub returns : goal.returns
returns c = IfOk-weaker c.format.result _ _ (λ text e. e ∙ counting_text c.args.number) c.format.ensures.ok
