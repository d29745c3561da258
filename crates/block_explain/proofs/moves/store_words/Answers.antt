use Rattle.std.proofs.Common.{◌∙◌, ◌++◌, ap}
use Rattle.std.proofs.lemmas.Result.{IfOk-weaker}
use Rattle.std.specs.Prelude.{codes}
use Rattle.std.specs.String.{string_bytes}
use Rattle.sym_terms.specs.Trees.{tree_in}
use Rattle.block_explain.specs.Words.{words}
use Rattle.block_explain.proofs.moves.store_words.Goals as goal

pub returns : goal.returns
returns c = IfOk-weaker c.format.result _ _ (λ text e. e ∙ ap (λ t. c.args.what.now ++ (t ++ (codes " at " ++ string_bytes c.in_ok-at.at))) c.in_ok-value.ensures ∙ ap (λ t. c.args.what.now ++ (words (tree_in c.args.terms.now c.args.value) ++ (codes " at " ++ t))) c.in_ok-at.ensures) c.format.ensures.ok
