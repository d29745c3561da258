use Rattle.std.proofs.Common.{◌≡◌, fold, map, take}
use Rattle.clap.specs.Words.{app_of, with_rule}
use Rattle.cmd_arguments.specs.Asked.{rule_with}
use Rattle.cmd_arguments.proofs.asking.with_options.Given as goal

abbrev pub invariant-loop-option : goal.invariant-loop-option
invariant-loop-option l = app_of l.command ≡ fold with_rule (app_of l.fn.command) (map (rule_with l.action) (take l.option-index l.options))
