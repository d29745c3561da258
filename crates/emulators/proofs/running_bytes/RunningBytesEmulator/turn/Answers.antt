use Rattle.std.proofs.Common.{◌≡◌, refl, sym, ap, ◌∙◌, subst, Option, Some}
use Rattle.std.proofs.lemmas.Bool.{false≢true}
use Rattle.std.proofs.lemmas.Result.{IfOk-from_err}
use Rattle.std.specs.Prelude.{IfSome, IsSome}
use Rattle.dialogue.specs.declared.request.Event.{Event}
use Rattle.dialogue.specs.Run.{Asks}
use Rattle.dialogue.specs.Lawful.{IsLawfulEvent}
use Rattle.dialogue.specs.Calls.{Standing}
use Rattle.cpu80.specs.State.{UntaggedState}
use Rattle.cpu80.specs.Call.{NoInstruction, OddCall}
use Rattle.cpu80.specs.Start.{address_of}
use Rattle.cpu80.specs.Step.{step_untagged}
use Rattle.i80_bytes.specs.Fetch.{fetch_of_bytes}
use Rattle.i80_bytes.specs.Standing.{byte_standing}
use Rattle.emulator_loop.specs.declared.emulator.Why.TheVariants.{OddCall as HasOdd}
use Rattle.emulator_loop.specs.declared.emulator.Turn.TheVariants.{Stopped}
use Rattle.emulator_loop.specs.Turns.{IsTurn}
use Rattle.emulators.specs.ByteCourses.{course_bytes_from}
use Rattle.emulators.proofs.MachineBytes.{ran_bytes, ended_bytes, stopped_bytes, asked_bytes}
use Rattle.emulators.proofs.running_bytes.RunningBytesEmulator.turn.Goals as goal

pub returns-in-Ran : goal.returns-in-Ran
returns-in-Ran c =
    let choice = c.args.self.now.choice in
    let u = (byte_standing c.args.self.now.machine).state in
    let v = (byte_standing c.step.new.self).state in
    let told = c.in-Ran.ensures.told c.requires.0 in
    record {
      turn = ran_bytes choice u v (λ e y. course_bytes_from choice v) told.0;
      still = tt;
      lawful = tt;
      ready = (told.1, c.step.ensures.machine c.requires.1);
    }

pub returns-in-Some : goal.returns-in-Some
returns-in-Some c =
    let choice = c.args.self.now.choice in
    let e : Event = c.in-Some.event in
    let u = (byte_standing c.args.self.now.machine).state in
    let v = (byte_standing c.step.new.self).state in
    let told = c.in-Asked.ensures.told c.requires.0 in
    let P : Option Event → Type 0 = λ o. IfSome o (λ e. Some e ≡ (byte_standing c.step.new.self).said) in
    let said : Some e ≡ (byte_standing c.step.new.self).said = subst P c.in-Some.is c.in_ok-event-in-Asked.ensures.said in
    let both : Some told.0 ≡ Some e = sym (said ∙ told.1.1) in
    let same : told.0 ≡ e = subst (λ o. IfSome o (λ x. told.0 ≡ x)) both refl in
    let asks : step_untagged fetch_of_bytes u choice ≡ Asks e v = told.1.0 ∙ ap (λ e. Asks e v) same in
    record {
      turn = asked_bytes choice u v e asks;
      still = tt;
      lawful = subst (λ o. IfSome o IsLawfulEvent) c.in-Some.is c.in_ok-event-in-Asked.ensures.lawful;
      ready = (sym said, c.step.ensures.machine c.requires.1);
    }

pub returns-in-Ended : goal.returns-in-Ended
returns-in-Ended c =
    let choice = c.args.self.now.choice in
    let u = (byte_standing c.args.self.now.machine).state in
    let told = c.in-Ended.ensures.told c.requires.0 in
    record {
      turn = ended_bytes choice u u (λ e y. course_bytes_from choice u) told.0;
      still = tt;
      lawful = tt;
      ready = tt;
    }

pub returns-in-NoInstruction : goal.returns-in-NoInstruction
returns-in-NoInstruction c =
    let choice = c.args.self.now.choice in
    let u = (byte_standing c.args.self.now.machine).state in
    let told = c.in-NoInstruction.ensures.told c.requires.0 in
    record {
      turn = stopped_bytes choice u u (λ e y. course_bytes_from choice u) (NoInstruction c.in-NoInstruction.at) told.0;
      still = ap (λ (x : Standing UntaggedState). course_bytes_from c.args.self.now.choice x.state) told.1;
      lawful = tt;
      ready = tt;
    }

pub returns-in-OddCall : goal.returns-in-OddCall
returns-in-OddCall c =
    let choice = c.args.self.now.choice in
    let u = (byte_standing c.args.self.now.machine).state in
    let f = c.in-OddCall.function in
    let told = c.in-OddCall.ensures.told c.requires.0 in
    let at : address_of u.place ≡ c.pc.result = sym (c.pc.ensures ∙ ap (λ (x : Standing UntaggedState). address_of x.state.place) told.1) in
    record {
      turn = subst (λ pc. IsTurn (course_bytes_from choice u) (course_bytes_from choice u) (λ e y. course_bytes_from choice u) (Stopped (HasOdd pc f))) at (stopped_bytes choice u u (λ e y. course_bytes_from choice u) (OddCall f) told.0);
      still = ap (λ (x : Standing UntaggedState). course_bytes_from c.args.self.now.choice x.state) told.1;
      lawful = tt;
      ready = tt;
    }

-- a machine that asks has an event
pub returns-in-None : goal.returns-in-None
returns-in-None c =
    let none = subst IsSome (sym c.in_ok-event-in-Asked.ensures.event ∙ c.in-None.is) c.in-Asked.ensures.said in
    absurd (false≢true none)

-- want of memory
pub returns-in_err-event-in-Asked : goal.returns-in_err-event-in-Asked
returns-in_err-event-in-Asked c =
    let r = c.from_residual in
    record {
      turn = IfOk-from_err r.result _ r.ensures.0;
      still = IfOk-from_err r.result _ r.ensures.0;
      lawful = IfOk-from_err r.result _ r.ensures.0;
      ready = IfOk-from_err r.result _ r.ensures.0;
    }
