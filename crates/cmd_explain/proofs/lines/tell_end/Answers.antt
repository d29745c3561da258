use Rattle.std.proofs.Common.{◌∙◌, ◌++◌, sym, ap}
use Rattle.std.specs.Prelude.{codes}
use Rattle.std.proofs.lemmas.Result.{on_ok_weaker}
use Rattle.cmd_explain.specs.Lines.{statement_words, ends_at}
use Rattle.cmd_explain.proofs.lines.tell_end.Goals as goal

pub returns-in_ok-before-in-Some : goal.returns-in_ok-before-in-Some
returns-in_ok-before-in-Some c =
    let old = c.args.told.now.items in
    let words = statement_words c.in-Some.line.now.stmt ++ codes "\n" in
    on_ok_weaker c.tell_named.result
    (λ told. told ∙ ap (λ b. old ++ (b ++ words)) (c.as_str.ensures.value ∙ c.in_ok-before-in-Some.ensures.ok) ∙ ap (λ l. old ++ ends_at l) (sym c.in-Some.ensures.cases.0))
    c.tell_named.ensures
