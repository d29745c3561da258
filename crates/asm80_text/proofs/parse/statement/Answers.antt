use Rattle.std.proofs.Common.{refl, ◌∙◌}
use Rattle.std.proofs.lemmas.Result.{err_from_is_err_and}
use Rattle.asm80_text.proofs.Bodies.{statement_read, statement_fails}
use Rattle.asm80_text.proofs.Lawful.{lawful_statement}
use Rattle.asm80_text.proofs.parse.statement.Goals as goal

pub returns-in_err-op-clause-value : goal.returns-in_err-op-clause-value
returns-in_err-op-clause-value g c =
    let p = err_from_is_err_and c.from_residual.result c.from_residual.ensures.1 in
    rw (p.1, p.2) (statement_fails g.N.Notation.spelling c.args.line _ _ _ c.in_err-op.field-0.0 c.past_number.ensures c.label_of.ensures.rest c.in_err-op.ensures)

pub returns-clause-value : goal.returns-clause-value
returns-clause-value g c = rw c.from_vec.ensures (statement_read g.N.Notation.spelling c.args.line _ _ _ _ c.past_number.ensures refl (c.copied.ensures ∙ c.label_of.ensures.label) c.label_of.ensures.rest c.in_ok-op.ensures)

pub returns-clause-well_formed : goal.returns-clause-well_formed
returns-clause-well_formed g c = lawful_statement g.N.Notation.spelling c.spelling_is_coherent.ensures c.args.line _ _ c.requires (returns-clause-value g c)
