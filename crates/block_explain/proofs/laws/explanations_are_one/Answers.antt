use Rattle.block_explain.specs.Explained.{told}
use Rattle.block_explain.proofs.OneText.{one_text}
use Rattle.block_explain.proofs.laws.explanations_are_one.Goals as goal

pub returns : goal.returns
returns c = λ reason x y s t g h. one_text (told reason x y) s t g h
