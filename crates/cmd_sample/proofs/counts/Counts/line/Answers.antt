use Rattle.std.proofs.Common.{◌∙◌, append_assoc, refl}
use Rattle.std.proofs.lemmas.Result.{IfOk-weaker}
use Rattle.cmd_sample.proofs.counts.Counts.line.Goals as goal

-- the line in its three parts
pub returns : goal.returns
returns c = IfOk-weaker c.format.result _ _ (λ line e. e ∙ simp append_assoc refl) c.format.ensures.ok
