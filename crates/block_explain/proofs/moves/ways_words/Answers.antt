use Rattle.std.proofs.Common.{◌∙◌, ◌++◌, ap}
use Rattle.std.proofs.lemmas.Result.{IfOk-weaker}
use Rattle.std.specs.Prelude.{codes}
use Rattle.std.specs.String.{string_bytes}
use Rattle.sym_micro.specs.Exits.{tree_of_way}
use Rattle.block_explain.specs.Moves.{way_words}
use Rattle.block_explain.proofs.moves.ways_words.Goals as goal

pub returns : goal.returns
returns c = IfOk-weaker c.format.result _ _ (λ text e. e ∙ ap (λ t. c.args.condition.now ++ (codes " then " ++ (t ++ (codes " else " ++ string_bytes c.in_ok-otherwise.otherwise)))) c.in_ok-where_so.ensures ∙ ap (λ t. c.args.condition.now ++ (codes " then " ++ (way_words (tree_of_way c.args.terms.now c.args.where_so) ++ (codes " else " ++ t)))) c.in_ok-otherwise.ensures) c.format.ensures.ok
