use Rattle.std.proofs.Common.{arith}
use Rattle.asm80_text.proofs.Unambiguous.{one_expression}
use Rattle.asm80_text.proofs.parser.expression_has_one_tree.Goals as goal

pub returns : goal.returns
returns c = λ ts r s e f a b x y. let h = one_expression 5 ts r s e f (omega arith) a b x y in (h.trees, h.rests)
