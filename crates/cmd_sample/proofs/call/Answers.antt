-- The text is the line of the call.
use Rattle.std.proofs.Common.{◌∙◌}
use Rattle.std.proofs.lemmas.Result.{IfOk-weaker}
use Rattle.cmd_sample.proofs.Texts.{call_text}
use Rattle.cmd_sample.proofs.call.Goals as goal

pub returns : goal.returns
returns c = IfOk-weaker c.format.result _ _ (λ text e. e ∙ call_text c.args.number) c.format.ensures.ok
