use Rattle.std.proofs.Common.{◌≡◌, ◌∙◌, ◌+◌, ◌++◌, suc, ap, add-one}
use Rattle.std.proofs.lemmas.Result.{IfOk-weaker}
use Rattle.std.specs.Prelude.{codes}
use Rattle.std.specs.Fmt.{decimal}
use Rattle.block_explain.proofs.terms.load_words.Goals as goal

pub returns : goal.returns
returns c =
    let number : c.from.result + 1 ≡ suc c.args.index = add-one c.from.result ∙ ap suc c.from.ensures in
    IfOk-weaker c.format.result _ _ (λ text e. e ∙ ap (λ n. c.args.what.now ++ (codes " " ++ decimal n)) number) c.format.ensures.ok
