use Rattle.std.proofs.Common.{◌∙◌, ◌++◌, ap}
use Rattle.std.specs.Prelude.{codes}
use Rattle.std.proofs.lemmas.Result.{IfOk-weaker}
use Rattle.cmd_common.specs.Lines.{stopped_line}
use Rattle.cmd_common.proofs.stop.odd_call_line.Goals as goal

pub returns : goal.returns
returns c =
    let why = c.as_str.ensures.value ∙ c.in_ok-why.ensures.ok ∙ ap (λ digits. codes "call " ++ digits) c.in_ok-digits.ensures in
    IfOk-weaker c.stopped_line.result _ _ (λ line is. is ∙ ap (stopped_line c.args.offset) why) c.stopped_line.ensures
