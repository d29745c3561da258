use Rattle.std.proofs.Common.{◌∙◌, ap}
use Rattle.clap.specs.Words.{found_of, one_text}
use Rattle.cmd_arguments.specs.Table.{long_name}
use Rattle.cmd_arguments.proofs.Rows.{flag_told}
use Rattle.cmd_arguments.proofs.given.has_flag.Goals as goal

pub returns : goal.returns
returns c =
    let f = found_of c.args.matches.now in
    let id = ap (one_text f) c.name.ensures in
    flag_told f (long_name c.args.flag) c.get_flag.result (λ e. c.get_flag.ensures.none (id ∙ e)) (λ e. c.get_flag.ensures.value (id ∙ e)) (λ e. c.get_flag.ensures.other (id ∙ e))
