use Rattle.std.proofs.Common.{ap₂, sym, ◌∙◌, arith}
use Rattle.clap.specs.Words.{with_rule}
use Rattle.cmd_arguments.specs.Asked.{rule_with}
use Rattle.cmd_arguments.proofs.Rules.{rules_more}
use Rattle.cmd_arguments.proofs.asking.with_options.Goals as goal

pub loop-option-preserved : goal.loop-option-preserved
loop-option-preserved c =
    c.in_ok-command.ensures.shape c.option_argument.ensures.local
    ∙ ap₂ with_rule c.loop-option.invariant c.option_argument.ensures.rule
    ∙ sym (rules_more (rule_with c.args.action) _ c.args.options.now c.loop-option.option-index _ (omega arith))
