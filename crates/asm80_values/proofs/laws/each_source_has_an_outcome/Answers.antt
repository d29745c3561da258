use Rattle.asm80_values.proofs.Sources80.{never_without}
use Rattle.asm80_values.proofs.laws.each_source_has_an_outcome.Goals as goal

pub returns : goal.returns
returns g c bytes top allowed no_program no_rule =
    c.each_stream_has_an_outcome.ensures bytes
    (never_without g.N.Notation.spelling bytes top allowed (λ ss gives none. c.statements_without_a_refusal_are_a_program.ensures.source bytes ss top gives allowed none) no_program no_rule)
