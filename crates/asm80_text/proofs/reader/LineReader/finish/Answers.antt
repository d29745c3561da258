use Rattle.std.proofs.Common.{◌∙◌, ap, sym, Ok, Err}
use Rattle.asm80_text.specs.Reader.{Reader}
use Rattle.asm80_text.proofs.Steps.{finish_fault, finish_none}
use Rattle.asm80_text.proofs.Unique.{agrees}
use Rattle.asm80_text.proofs.reader.LineReader.finish.Goals as goal

pub returns-in-Some-clause-outcome : goal.returns-in-Some-clause-outcome
returns-in-Some-clause-outcome g c = λ stream h. finish_fault g.N.Notation.spelling stream c.step.new.self c.in-Some.fault (sym (ap (λ (r : Reader). r.fault) c.reader.view_is) ∙ c.in-Some.is) (λ ne. c.step.ensures.grows ne stream h)

pub returns-in-None-clause-outcome : goal.returns-in-None-clause-outcome
returns-in-None-clause-outcome g c = λ stream h. finish_none g.N.Notation.spelling stream c.step.new.self _ (sym (ap (λ (r : Reader). r.statements) c.reader.view_is)) (sym (ap (λ (r : Reader). r.fault) c.reader.view_is) ∙ c.in-None.is) (λ ne. c.step.ensures.grows ne stream h)

pub returns-in-Some-clause-only : goal.returns-in-Some-clause-only
returns-in-Some-clause-only g c = λ stream statements fault h gives. agrees g.N.Notation.spelling c.spelling_is_coherent.ensures stream (Err c.in-Some.fault) statements fault (returns-in-Some-clause-outcome g c stream h) gives

pub returns-in-None-clause-only : goal.returns-in-None-clause-only
returns-in-None-clause-only g c = λ stream statements fault h gives. agrees g.N.Notation.spelling c.spelling_is_coherent.ensures stream (Ok c.reader.inside.statements) statements fault (returns-in-None-clause-outcome g c stream h) gives
