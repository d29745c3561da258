use Rattle.std.proofs.Common.{subst, ap, sym, ◌∙◌}
use Rattle.std.proofs.lemmas.Bool.{false≢true}
use Rattle.std.proofs.lemmas.Result.{IfOk-from_err}
use Rattle.cpu80_tagged.specs.ProcessorState.{tagged_state}
use Rattle.cpu80_tagged.specs.Machine.{IsEventAsked}
use Rattle.emulators.specs.Courses.{course80_from}
use Rattle.emulators.proofs.Machine80.{ran80, ended80, left80, stayed80, still80, asked80}
use Rattle.emulators.proofs.running80.Running80Emulator.turn.Goals as goal

pub returns-in-Ran : goal.returns-in-Ran
returns-in-Ran c =
    let p = c.args.self.now.program.now in
    let s = tagged_state c.args.self.now.cpu in
    record {
      turn = ran80 p s (tagged_state c.step.new.self) (λ e y. course80_from p s) c.in-Ran.ensures.step;
      still = tt;
      lawful = tt;
      ready = c.step.ensures.machine;
    }

pub returns-in-Some : goal.returns-in-Some
returns-in-Some c =
    let p = c.args.self.now.program.now in
    let s = tagged_state c.args.self.now.cpu in
    let t = tagged_state c.step.new.self in
    let asked = subst (IsEventAsked p c.step.new.self) c.in-Some.is (c.in_ok-event-in-Asked.ensures.asked p c.step.ensures.machine) in
    record {
      turn = asked80 p s t c.in-Some.event (stayed80 p s t (λ e y. course80_from p s) c.in-Asked.ensures.step) asked.1.asked;
      still = tt;
      lawful = asked.1.lawful;
      ready = (c.step.ensures.machine, asked.0, asked.1.asked);
    }

-- a machine that asks has an event
pub returns-in-None : goal.returns-in-None
returns-in-None c =
    let p = c.args.self.now.program.now in
    let idle = subst (IsEventAsked p c.step.new.self) c.in-None.is (c.in_ok-event-in-Asked.ensures.asked p c.step.ensures.machine) in
    absurd (false≢true (sym idle ∙ c.in-Asked.ensures.asked))

pub returns-in-Ended : goal.returns-in-Ended
returns-in-Ended c =
    let p = c.args.self.now.program.now in
    let s = tagged_state c.args.self.now.cpu in
    record {
      turn = ended80 p s (tagged_state c.step.new.self) (λ e y. course80_from p s) c.in-Ended.ensures.step;
      still = tt;
      lawful = tt;
      ready = tt;
    }

pub returns-in-Left : goal.returns-in-Left
returns-in-Left c =
    let p = c.args.self.now.program.now in
    let s = tagged_state c.args.self.now.cpu in
    let t = tagged_state c.step.new.self in
    record {
      turn = left80 p s t (λ e y. course80_from p s) c.in-Left.rule c.place.result c.in-Left.ensures.step c.place.ensures;
      still = ap (course80_from p) (still80 p s t (λ e y. course80_from p s) c.in-Left.rule c.in-Left.ensures.step);
      lawful = tt;
      ready = tt;
    }

-- want of memory
pub returns-in_err-event-in-Asked : goal.returns-in_err-event-in-Asked
returns-in_err-event-in-Asked c =
    let r = c.from_residual in
    record {
      turn = IfOk-from_err r.result _ r.ensures.0;
      still = IfOk-from_err r.result _ r.ensures.0;
      lawful = IfOk-from_err r.result _ r.ensures.0;
      ready = IfOk-from_err r.result _ r.ensures.0;
    }
