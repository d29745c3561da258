use Rattle.std.proofs.Common.{◌∙◌, sym, ap, ap₂}
use Rattle.std.proofs.lemmas.Result.{IfOk-weaker}
use Rattle.cmd_common.specs.Names.{names_read}
use Rattle.cmd_runs.specs.Lasts.{closing_line}
use Rattle.cmd_runs.proofs.last.closing_line.Goals as goal

pub returns-in-Ok-None : goal.returns-in-Ok-None
returns-in-Ok-None c = IfOk-weaker c.ended_line.result _ _ (λ line is names. is ∙ sym (ap₂ (closing_line names) c.in-Ok-None.is-1 c.in-Ok-None.is-0)) c.ended_line.ensures

pub returns-in-Ok-Some : goal.returns-in-Ok-Some
returns-in-Ok-Some c = IfOk-weaker c.both_line.result _ _ (λ line is names. is ∙ sym (ap₂ (closing_line names) c.in-Ok-Some.is-1 c.in-Ok-Some.is-0)) c.both_line.ensures

pub returns-in-Err-default : goal.returns-in-Err-default
returns-in-Err-default c =
    let given = names_read c.one.result in
    IfOk-weaker c.line.result _ _ (λ line is names. is ∙ sym (ap (closing_line given c.args.second) c.in-Err-default.is-0) ∙ c.requires given names) c.line.ensures
