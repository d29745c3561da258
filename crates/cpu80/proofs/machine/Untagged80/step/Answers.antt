use Rattle.std.proofs.Common.{◌∙◌, ap, refl, sym}
use Rattle.dialogue.specs.Calls.{stepped_by}
use Rattle.dialogue.proofs.Called.{told}
use Rattle.cpu80.specs.declared.machine.Pending.{Pending}
use Rattle.cpu80.specs.declared.machine.Pending.TheVariants.{Nothing, Answer, Byte, Taking, Ending}
use Rattle.cpu80.specs.ProcessorState.{untagged_state}
use Rattle.cpu80.specs.Standing.{standing, status_of, said_by, Keeps}
use Rattle.cpu80.specs.State.{UntaggedState}
use Rattle.cpu80.specs.Step.{Fetch, step_untagged, return_at}
use Rattle.cpu80.proofs.machine.Untagged80.step.Goals as goal

-- what a step keeps is so of the machine that it leaves
kept : (fetch : Fetch) (u t : UntaggedState) (p : Pending) → Keeps (return_at fetch u u.place) u t p → Keeps (return_at fetch t t.place) t t p
kept fetch u t Nothing h = tt
kept fetch u t (Answer shape back) h = (ap (λ (s : UntaggedState). return_at fetch s s.place) h.1 ∙ h.0, refl)
kept fetch u t (Byte port back) h = (ap (λ (s : UntaggedState). return_at fetch s s.place) h.1 ∙ h.0, refl)
kept fetch u t (Taking port byte back) h = (ap (λ (s : UntaggedState). return_at fetch s s.place) h.1 ∙ h.0, refl)
kept fetch u t Ending h = tt

pub returns-in-Nothing : goal.returns-in-Nothing
returns-in-Nothing g c =
    let fetch = g.F.Fetch80.fetch c.args.code.now in
    let u = untagged_state c.args.self.now.processor in
    record {
      step = c.run_one.ensures.step ∙ ap (λ p. stepped_by (step_untagged fetch) u c.args.choice (said_by p u.mem)) (sym c.in-Nothing.is);
      told = λ none. told (step_untagged fetch u c.args.choice) (status_of c.run_one.result) u (standing c.run_one.new.self) c.run_one.ensures.step;
      said = c.run_one.ensures.said;
      machine = λ before. kept fetch u (untagged_state c.run_one.new.self.processor) c.run_one.new.self.pending c.run_one.ensures.kept;
    }
