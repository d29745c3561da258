use Rattle.std.proofs.Common.{◌≡◌, ◌∙◌, ◌+◌, ◌<◌, ℕ, Bool, false, List, length, get_or, drop, sym, ap, arith}
use Rattle.std.specs.List.{find}
use Rattle.std.specs.Str.{bytes_eq}
use Rattle.std.proofs.lemmas.Grind.{common_steps}
use Rattle.cmd_arguments.specs.declared.table.CommandName.{CommandName}
use Rattle.cmd_arguments.specs.Table.{command_word, commands}
use Rattle.cmd_arguments.proofs.table.CommandName.of_word.Goals as goal

-- one that does not pass is none that is found
goes_on : (passes : CommandName → Bool) (names : List CommandName) (k : ℕ) (d : CommandName) → k < length names → passes (get_or names k d) ≡ false →
    find passes (drop (k + 1) names) ≡ find passes (drop k names)
goes_on passes names k d within fails = grind (arith, common_steps)

pub loop-command-preserved : goal.loop-command-preserved
loop-command-preserved c =
    goes_on (λ name. bytes_eq (command_word name) c.args.word.now) commands c.loop-command.command-index _ c.loop-command-test.true
    (ap (λ w. bytes_eq w c.args.word.now) (sym c.word.ensures) ∙ sym c.eq.ensures ∙ c.if-eq.false)
    ∙ c.loop-command.invariant
