use Rattle.std.proofs.Common.{refl, sym, ap, ◌∙◌}
use borrow.Author.Tests.{eqb-true}
use Rattle.asm80_text.specs.Reader.{Reader}
use Rattle.asm80_text.proofs.Steps.{advance_on, all_taken, nothing_taken}
use Rattle.asm80_text.proofs.Unique.{found_in, holds_fault}
use Rattle.asm80_text.proofs.reader.LineReader.feed.Goals as goal

pub loop-rest-init : goal.loop-rest-init
loop-rest-init g c = record { grows = nothing_taken g.N.Notation.spelling c.args.piece.now c.args.self.now; stands = λ _. refl; closed = λ _. refl }

pub loop-rest-preserved : goal.loop-rest-preserved
loop-rest-preserved g c = record {
  grows = advance_on g.N.Notation.spelling c.args.piece.now _ _ c.args.self.now c.loop-rest.self c.advance-rest.new.self c.advance-rest.ensures.stands c.loop-rest.invariant.grows c.advance-rest.ensures.grows;
  stands = λ ne. let same = c.loop-rest.invariant.stands ne in c.advance-rest.ensures.stands (λ e. ne (ap (λ (r : Reader). r.fault) (sym same) ∙ e)) ∙ same;
  closed = λ shut. let same = c.loop-rest.invariant.closed shut in c.advance-rest.ensures.closed (ap (λ (r : Reader). r.is_closed) same ∙ shut) ∙ same;
}

pub returns-clause-grows : goal.returns-clause-grows
returns-clause-grows g c = all_taken g.N.Notation.spelling c.args.piece.now c.loop-rest.rest.now c.args.self.now c.loop-rest.self (eqb-true _ _ (sym c.is_empty.ensures ∙ c.loop-rest-test.false)) c.loop-rest.invariant.grows

pub returns-clause-found : goal.returns-clause-found
returns-clause-found g c = λ stream n rule h b. found_in g.N.Notation.spelling c.spelling_is_coherent.ensures _ c.loop-rest.self n rule _ c.answer.ensures (λ ne. returns-clause-grows g c ne stream h) b

pub returns-clause-answer : goal.returns-clause-answer
returns-clause-answer g c = c.answer.ensures

pub returns-clause-faulty : goal.returns-clause-faulty
returns-clause-faulty g c = λ stream n rule h e. holds_fault g.N.Notation.spelling _ c.loop-rest.self n rule _ c.answer.ensures (λ ne. returns-clause-grows g c ne stream h) e

pub returns-clause-stands : goal.returns-clause-stands
returns-clause-stands g c = c.loop-rest.invariant.stands

pub returns-clause-closed : goal.returns-clause-closed
returns-clause-closed g c = c.loop-rest.invariant.closed
