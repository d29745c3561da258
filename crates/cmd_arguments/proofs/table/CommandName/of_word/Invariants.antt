use Rattle.std.proofs.Common.{◌≡◌, drop}
use Rattle.std.specs.List.{find}
use Rattle.std.specs.Str.{bytes_eq}
use Rattle.cmd_arguments.specs.Table.{command_named, command_word, commands}
use Rattle.cmd_arguments.proofs.table.CommandName.of_word.Given as goal

abbrev pub invariant-loop-command : goal.invariant-loop-command
invariant-loop-command l = find (λ c. bytes_eq (command_word c) l.word) (drop l.command-index commands) ≡ command_named l.word
