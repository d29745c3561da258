use Rattle.std.proofs.Common.{◌∙◌, ◌++◌, ap}
use Rattle.std.specs.Prelude.{codes}
use Rattle.std.proofs.lemmas.Result.{IfOk-weaker}
use Rattle.cmd_common.proofs.stop.address_line.Goals as goal

pub returns : goal.returns
returns c =
    IfOk-weaker c.format.result _ _
    (λ line is. is ∙ ap (λ digits. c.args.text.now ++ (digits ++ (c.args.mark.now ++ (c.args.why.now ++ codes "\n")))) c.in_ok-digits.ensures)
    c.format.ensures.ok
