use Rattle.std.proofs.Common.{◌≡◌, refl, sym, ap, ◌∙◌, subst, Option, Some}
use Rattle.std.proofs.lemmas.Bool.{false≢true}
use Rattle.std.proofs.lemmas.Result.{IfOk-from_err}
use Rattle.std.specs.Prelude.{IfSome, IsSome}
use Rattle.i86.specs.Code.{ReadsCode}
use Rattle.i86.specs.Decoder.{decoded}
use Rattle.dialogue.specs.declared.request.Event.{Event}
use Rattle.dialogue.specs.Run.{Asks}
use Rattle.dialogue.specs.Lawful.{IsLawfulEvent}
use Rattle.dialogue.specs.Calls.{Standing}
use Rattle.cpu86.specs.State.{State86}
use Rattle.cpu86.specs.Call.{NoInstruction, StackSegment, OddCall, replied86}
use Rattle.cpu86.specs.Step.{step86}
use Rattle.cpu86.specs.Standing.{standing, code_kept}
use Rattle.emulator_loop.specs.declared.emulator.Why.TheVariants.{OddCall as HasOdd}
use Rattle.emulator_loop.specs.declared.emulator.Turn.TheVariants.{Ran, Asks as HasAsked, Stopped}
use Rattle.emulator_loop.specs.Turns.{IsTurn}
use Rattle.emulators.specs.Courses.{course86_from}
use Rattle.emulators.proofs.Machine86.{ran86, ended86, stopped86, asked86}
use Rattle.emulators.proofs.running86.Running86Emulator.turn.Goals as goal

pub returns-in-Ran : goal.returns-in-Ran
returns-in-Ran c =
    let cpu = c.args.self.now.cpu in
    let choice = c.args.self.now.choice in
    let s = (standing cpu).state in
    let t = (standing c.step.new.self).state in
    let told = c.in-Ran.ensures.told (decoded (code_kept cpu)) c.requires.1 c.requires.0 in
    record {
      turn = subst (λ code. IsTurn (course86_from (code_kept cpu) choice s) (course86_from code choice t) (λ e y. course86_from code choice t) Ran) (sym c.step.ensures.code) (ran86 (code_kept cpu) choice s t (λ e y. course86_from (code_kept cpu) choice t) told.0);
      still = tt;
      lawful = tt;
      ready = (told.1, subst (λ code. ReadsCode code (decoded code)) (sym c.step.ensures.code) c.requires.1);
    }

pub returns-in-Some : goal.returns-in-Some
returns-in-Some c =
    let cpu = c.args.self.now.cpu in
    let choice = c.args.self.now.choice in
    let v : Event = c.in-Some.event in
    let s = (standing cpu).state in
    let t = (standing c.step.new.self).state in
    let told = c.in-Asked.ensures.told (decoded (code_kept cpu)) c.requires.1 c.requires.0 in
    let P : Option Event → Type 0 = λ o. IfSome o (λ e. Some e ≡ (standing c.step.new.self).said) in
    let said : Some v ≡ (standing c.step.new.self).said = subst P c.in-Some.is c.in_ok-event-in-Asked.ensures.said in
    let both : Some told.0 ≡ Some v = sym (said ∙ told.1.1) in
    let same : told.0 ≡ v = subst (λ o. IfSome o (λ x. told.0 ≡ x)) both refl in
    let asks : step86 (decoded (code_kept cpu)) s choice ≡ Asks v t = told.1.0 ∙ ap (λ e. Asks e t) same in
    record {
      turn = subst (λ code. IsTurn (course86_from (code_kept cpu) choice s) (course86_from code choice t) (λ e y. course86_from code choice (replied86 t e y choice)) (HasAsked v)) (sym c.step.ensures.code) (asked86 (code_kept cpu) choice s t v asks);
      still = tt;
      lawful = subst (λ o. IfSome o IsLawfulEvent) c.in-Some.is c.in_ok-event-in-Asked.ensures.lawful;
      ready = (sym said, subst (λ code. ReadsCode code (decoded code)) (sym c.step.ensures.code) c.requires.1);
    }

pub returns-in-Ended : goal.returns-in-Ended
returns-in-Ended c =
    let cpu = c.args.self.now.cpu in
    let choice = c.args.self.now.choice in
    let s = (standing cpu).state in
    let told = c.in-Ended.ensures.told (decoded (code_kept cpu)) c.requires.1 c.requires.0 in
    record {
      turn = ended86 (code_kept cpu) choice s s (λ e y. course86_from (code_kept cpu) choice s) told.0;
      still = tt;
      lawful = tt;
      ready = tt;
    }

pub returns-in-NoInstruction : goal.returns-in-NoInstruction
returns-in-NoInstruction c =
    let cpu = c.args.self.now.cpu in
    let choice = c.args.self.now.choice in
    let s = (standing cpu).state in
    let told = c.in-NoInstruction.ensures.told (decoded (code_kept cpu)) c.requires.1 c.requires.0 in
    record {
      turn = stopped86 (code_kept cpu) choice s s (λ e y. course86_from (code_kept cpu) choice s) (NoInstruction c.in-NoInstruction.at) told.0;
      still = ap (λ code. course86_from code choice (standing c.step.new.self).state) c.step.ensures.code ∙ ap (λ (x : Standing State86). course86_from (code_kept cpu) choice x.state) told.1;
      lawful = tt;
      ready = tt;
    }

pub returns-in-StackSegment : goal.returns-in-StackSegment
returns-in-StackSegment c =
    let cpu = c.args.self.now.cpu in
    let choice = c.args.self.now.choice in
    let s = (standing cpu).state in
    let told = c.in-StackSegment.ensures.told (decoded (code_kept cpu)) c.requires.1 c.requires.0 in
    record {
      turn = stopped86 (code_kept cpu) choice s s (λ e y. course86_from (code_kept cpu) choice s) (StackSegment c.in-StackSegment.at) told.0;
      still = ap (λ code. course86_from code choice (standing c.step.new.self).state) c.step.ensures.code ∙ ap (λ (x : Standing State86). course86_from (code_kept cpu) choice x.state) told.1;
      lawful = tt;
      ready = tt;
    }

pub returns-in-OddCall : goal.returns-in-OddCall
returns-in-OddCall c =
    let cpu = c.args.self.now.cpu in
    let choice = c.args.self.now.choice in
    let s = (standing cpu).state in
    let f = c.in-OddCall.function in
    let told = c.in-OddCall.ensures.told (decoded (code_kept cpu)) c.requires.1 c.requires.0 in
    let at : s.ip ≡ c.ip.result = sym (c.ip.ensures ∙ ap (λ (x : Standing State86). x.state.ip) told.1) in
    record {
      turn = subst (λ ip. IsTurn (course86_from (code_kept cpu) choice s) (course86_from (code_kept cpu) choice s) (λ e y. course86_from (code_kept cpu) choice s) (Stopped (HasOdd ip f))) at (stopped86 (code_kept cpu) choice s s (λ e y. course86_from (code_kept cpu) choice s) (OddCall f) told.0);
      still = ap (λ code. course86_from code choice (standing c.step.new.self).state) c.step.ensures.code ∙ ap (λ (x : Standing State86). course86_from (code_kept cpu) choice x.state) told.1;
      lawful = tt;
      ready = tt;
    }

-- a machine that asks has an event
pub returns-in-None : goal.returns-in-None
returns-in-None c =
    let none = subst IsSome (sym c.in_ok-event-in-Asked.ensures.event ∙ c.in-None.is) c.in-Asked.ensures.said in
    absurd (false≢true none)

-- want of memory
pub returns-in_err-event-in-Asked : goal.returns-in_err-event-in-Asked
returns-in_err-event-in-Asked c =
    let r = c.from_residual in
    record {
      turn = IfOk-from_err r.result _ r.ensures.0;
      still = IfOk-from_err r.result _ r.ensures.0;
      lawful = IfOk-from_err r.result _ r.ensures.0;
      ready = IfOk-from_err r.result _ r.ensures.0;
    }
