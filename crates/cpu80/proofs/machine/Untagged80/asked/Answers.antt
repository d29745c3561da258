use Rattle.std.proofs.Common.{◌≡◌, ◌∙◌, Some, None, ap, sym}
use Rattle.std.proofs.lemmas.Result.{IfOk-from_err}
use Rattle.dialogue.specs.Fits.{waits_in}
use Rattle.cpu80.specs.ProcessorState.{untagged_state}
use Rattle.cpu80.specs.Standing.{said_by}
use Rattle.cpu80.proofs.machine.Untagged80.asked.Goals as goal

not_none : {X : Type 0} (x : X) → Some x ≡ None → ⊥
not_none x e = cc

pub request_of-requires : goal.request_of-requires
request_of-requires c = record {
  function = Some c.args.self.now.processor.registers.c;
  d = Some c.args.self.now.processor.registers.d;
  e = Some c.args.self.now.processor.registers.e;
  dma = c.args.self.now.processor.dma;
  given = c.args.self.now.asked c.in-Answer.shape _ c.in-Answer.is;
}

pub returns-in_err-request-in-Answer : goal.returns-in_err-request-in-Answer
returns-in_err-request-in-Answer c =
    let r = c.from_residual in
    record {
      event = IfOk-from_err r.result _ r.ensures.0;
      said = IfOk-from_err r.result _ r.ensures.0;
      lawful = IfOk-from_err r.result _ r.ensures.0;
      idle = λ none. absurd (not_none _ (ap (λ p. waits_in (said_by p (untagged_state c.args.self.now.processor).mem)) (sym c.in-Answer.is) ∙ none));
    }

pub returns-in-Byte : goal.returns-in-Byte
returns-in-Byte c =
    let mem = (untagged_state c.args.self.now.processor).mem in
    record {
      event = ap (λ p. waits_in (said_by p mem)) (sym c.in-Byte.is);
      said = ap (λ p. said_by p mem) (sym c.in-Byte.is);
      lawful = tt;
      idle = λ none. absurd (not_none _ (ap (λ p. waits_in (said_by p mem)) (sym c.in-Byte.is) ∙ none));
    }

pub returns-in-Taking : goal.returns-in-Taking
returns-in-Taking c =
    let mem = (untagged_state c.args.self.now.processor).mem in
    record {
      event = ap (λ p. waits_in (said_by p mem)) (sym c.in-Taking.is);
      said = ap (λ p. said_by p mem) (sym c.in-Taking.is);
      lawful = tt;
      idle = λ none. absurd (not_none _ (ap (λ p. waits_in (said_by p mem)) (sym c.in-Taking.is) ∙ none));
    }
