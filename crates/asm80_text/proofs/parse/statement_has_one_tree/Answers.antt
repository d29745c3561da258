use Rattle.asm80_text.proofs.Alone.{one_statement}
use Rattle.asm80_text.proofs.parse.statement_has_one_tree.Goals as goal

pub returns : goal.returns
returns g c = λ ts l m o p a b x y. let h = one_statement g.N.Notation.spelling c.spelling_is_coherent.ensures x y in (h.labels, h.ops, h.args)
