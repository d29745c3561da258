use Rattle.std.proofs.Common.{◌≡◌, ◌∙◌, ℕ, ◌+◌, Some, refl, sym, ap, subst}
use Rattle.cells.specs.declared.Place.TheVariants.{At}
use Rattle.i80.specs.declared.Instr80.{Instr80}
use Rattle.i80.specs.declared.Instr80.TheVariants.{Jmp, Jif}
use Rattle.dialogue.specs.Calls.{settled}
use Rattle.dialogue.specs.Words.{wrap}
use Rattle.cpu80.specs.State.{UntaggedState}
use Rattle.cpu80.specs.Step.{Fetch, act, act_at, next_address, step_at, step_untagged, return_of, return_at}
use Rattle.cpu80.specs.ProcessorState.{untagged_state}
use Rattle.cpu80.specs.Standing.{standing, status_of, Keeps, goes_on_at}
use Rattle.cpu80.proofs.machine.Untagged80.run_one.Goals as goal

goes_on : (u : UntaggedState) (at : ℕ) (i : Instr80) → goes_on_at u (next_address at i) i ≡ return_of u at (Some i)
goes_on u at (Jmp t) = refl
goes_on u at (Jif c t) = refl
goes_on u at i = refl

-- the instruction that is found at the place that comes next is the step, and goes on where the step does
stepped : (fetch : Fetch) (u : UntaggedState) (at : ℕ) (i : Instr80) (choice : ℕ) → u.place ≡ At at → fetch u at ≡ Some i → act u (next_address at i) i choice ≡ step_untagged fetch u choice
stepped fetch u at i choice here found = sym (ap (λ q. step_at fetch u q choice) here ∙ ap (λ o. act_at u at o choice) found)

returned : (fetch : Fetch) (u : UntaggedState) (at : ℕ) (i : Instr80) → u.place ≡ At at → fetch u at ≡ Some i → goes_on_at u (next_address at i) i ≡ return_at fetch u u.place
returned fetch u at i here found = goes_on u at i ∙ sym (ap (return_at fetch u) here ∙ ap (return_of u at) found)

pub returns-in_default : goal.returns-in_default
returns-in_default g c =
    let u = untagged_state c.args.self.now.processor in
    record {
      step = c.end.ensures.step ∙ sym (ap (λ q. settled u (step_at (g.F.Fetch80.fetch c.args.code.now) u q c.args.choice)) c.in_default.is);
      said = c.end.ensures.said;
      kept = c.end.ensures.kept _;
    }

pub returns-in-Some : goal.returns-in-Some
returns-in-Some g c =
    let u = untagged_state c.args.self.now.processor in
    let fetch = g.F.Fetch80.fetch c.args.code.now in
    let at = c.in-At.at in
    let i = c.in-Some.instr in
    let found : fetch u at ≡ Some i = sym c.fetch.ensures.value ∙ c.in-Some.is in
    record {
      step =
          subst (λ a. (status_of c.act.result, standing c.act.new.self) ≡ settled u a)
          (ap (λ k. act u (wrap (at + k)) i c.args.choice) c.length.ensures ∙ stepped fetch u at i c.args.choice c.in-At.is found)
          c.act.ensures.step;
      said = c.act.ensures.said;
      kept =
          subst (λ back. Keeps back u (untagged_state c.act.new.self.processor) c.act.new.self.pending)
          (ap (λ k. goes_on_at u (wrap (at + k)) i) c.length.ensures ∙ returned fetch u at i c.in-At.is found)
          c.act.ensures.kept;
    }
