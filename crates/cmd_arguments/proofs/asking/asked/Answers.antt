use Rattle.std.proofs.Common.{◌∙◌, ap₂, fold, map}
use Rattle.std.proofs.lemmas.Result.{IfOk-weaker}
use Rattle.clap.specs.Words.{with_rule}
use Rattle.cmd_arguments.specs.Asked.{option_rule, flag_rule}
use Rattle.cmd_arguments.proofs.asking.asked.Goals as goal

pub returns : goal.returns
returns c =
    let flags = c.in_ok-with_flags.ensures ∙ ap₂ (λ a os. fold with_rule a (map flag_rule os)) c.in_ok-with_names.ensures c.flags.ensures in
    IfOk-weaker c.with_options-2.result _ _
    (λ _ is. is ∙ ap₂ (λ a os. fold with_rule a (map option_rule os)) flags c.options.ensures)
    c.with_options-2.ensures
