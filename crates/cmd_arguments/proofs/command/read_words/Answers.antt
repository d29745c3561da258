use Rattle.std.proofs.Common.{map, sym}
use Rattle.std.proofs.lemmas.Result.{IfOk-weaker}
use Rattle.std.specs.String.{string_bytes}
use Rattle.cmd_arguments.proofs.Commands.{reads_command}
use Rattle.cmd_arguments.proofs.command.read_words.Goals as goal

pub returns-in-Some-of_word : goal.returns-in-Some-of_word
returns-in-Some-of_word c =
    IfOk-weaker c.read_rest.result _ _
    (λ r. reads_command (map string_bytes c.args.words.now) c.in-Some.first.now (map string_bytes c.in-Some.rest.now) c.in-Some-of_word.name r c.in-Some.ensures.first (sym c.in-Some-of_word.ensures))
    c.read_rest.ensures
