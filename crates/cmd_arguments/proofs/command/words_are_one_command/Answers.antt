use Rattle.cmd_arguments.proofs.Commands.{one_command}
use Rattle.cmd_arguments.proofs.command.words_are_one_command.Goals as goal

pub returns : goal.returns
returns c = one_command
