use Rattle.std.proofs.Common.{refl, sym, ap, ◌∙◌}
use borrow.Author.Tests.{eqb-true}
use Rattle.asm86.specs.Reader.{TextReader}
use Rattle.asm86.proofs.Steps.{advance_on, all_taken, nothing_taken}
use Rattle.asm86.proofs.Whole.{faulty_in, found_in}
use Rattle.asm86.proofs.reader.Text86.feed.Goals as goal

pub loop-rest-init : goal.loop-rest-init
loop-rest-init c = record { grows = nothing_taken c.args.piece.now c.args.self.now; stands = λ _. refl; ended = λ _. refl }

pub loop-rest-preserved : goal.loop-rest-preserved
loop-rest-preserved c = record {
  grows = advance_on c.args.piece.now _ _ c.args.self.now c.loop-rest.self c.advance-rest.new.self c.advance-rest.ensures.stands c.loop-rest.invariant.grows c.advance-rest.ensures.grows;
  stands = λ ne. let same = c.loop-rest.invariant.stands ne in c.advance-rest.ensures.stands (λ e. ne (ap (λ (r : TextReader). r.fault) (sym same) ∙ e)) ∙ same;
  ended = λ h. let same = c.loop-rest.invariant.ended h in c.advance-rest.ensures.ended (rw same h) ∙ same;
}

pub returns-clause-grows : goal.returns-clause-grows
returns-clause-grows c = all_taken c.args.piece.now c.loop-rest.rest.now c.args.self.now c.loop-rest.self (eqb-true _ _ (sym c.is_empty.ensures ∙ c.loop-rest-test.false)) c.loop-rest.invariant.grows

pub returns-clause-faulty : goal.returns-clause-faulty
returns-clause-faulty c = λ stream n rule h e. faulty_in _ c.loop-rest.self n rule _ c.answer.ensures (λ ne. returns-clause-grows c ne stream h) e

pub returns-clause-found : goal.returns-clause-found
returns-clause-found c = λ stream n rule h b. found_in _ c.loop-rest.self n rule _ c.answer.ensures (λ ne. returns-clause-grows c ne stream h) b
