-- The text is those lines.
use Rattle.std.proofs.Common.{◌∙◌}
use Rattle.std.proofs.lemmas.Result.{IfOk-weaker}
use Rattle.cmd_sample.proofs.Texts.{writing_text}
use Rattle.cmd_sample.proofs.writing.Goals as goal

pub returns : goal.returns
returns c = IfOk-weaker c.format.result _ _ (λ text e. e ∙ writing_text c.args.number) c.format.ensures.ok
