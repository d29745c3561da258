use Rattle.std.proofs.Common.{sym, arith, ◌∙◌}
use Rattle.std.proofs.lemmas.Bool.{false≢true}
use Rattle.std.proofs.lemmas.Str.Pattern.{starts_char}
use Rattle.cmd_arguments.proofs.Numbers.{number_from_parse}
use Rattle.cmd_arguments.proofs.values.number_in.Goals as goal

pub returns-then-not-starts_with : goal.returns-then-not-starts_with
returns-then-not-starts_with c =
    let text = c.args.text.now in
    let begins = starts_char 43 text c.starts_with.result c.starts_with.ensures.cases (omega arith) (omega arith) in
    c.ok.ensures.value
    ∙ number_from_parse c.args.base c.args.most text c.from_str_radix.result (omega arith) (omega arith) c.requires.most (omega arith)
    (λ e. false≢true (sym c.if-not-starts_with.true ∙ begins.1 e))
    c.from_str_radix.ensures.value
