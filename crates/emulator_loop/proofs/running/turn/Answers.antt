use Rattle.std.proofs.Common.{◌≡◌, Option, Some, None, Result, Ok, sym, subst}
use Rattle.host.proofs.HostLemmas.{OnlySays-refl, SameFaults-refl}
use Rattle.std.specs.Prelude.{IsErr}
use Rattle.std.proofs.lemmas.Bool.{false≢true}
use Rattle.std.proofs.lemmas.Result.{IfOk-weaker, IfErr-weaker, IfOk-from_err}
use Rattle.emulator_loop.specs.declared.fault.TalkFault.{TalkFault}
use Rattle.emulator_loop.specs.declared.fault.TalkFault.TheVariants.{Memory}
use Rattle.emulator_loop.specs.declared.emulator.Turn.TheVariants.{Ran, Asks, Ended, Stopped}
use Rattle.emulator_loop.specs.declared.running.RunEnd.{RunEnd}
use Rattle.emulator_loop.specs.Turns.{IsTurn, AsksLawfully, MayTurn}
use Rattle.emulator_loop.specs.Advance.{IsTurnCutOff}
use Rattle.emulator_loop.proofs.Said.{on_fault}
use Rattle.emulator_loop.proofs.Advances.{advance_ran, turn_answered, rest_ended, rest_stopped, unbegun, end_cut_off, asked_cut_off, asked}
use Rattle.emulator_loop.proofs.running.turn.Goals as goal

abbrev Answer : Type 0
Answer = Result (Option RunEnd) TalkFault

-- an end is not that the run goes on
ends : (end : RunEnd) → ◌≡◌ {A = Answer} (Ok (Some end)) (Ok None) → ⊥
ends end is = cc

fails : (r : Answer) → IsErr r → r ≡ Ok None → ⊥
fails r err is = false≢true (subst IsErr is err)

-- an instruction ran
pub returns-in-Ran : goal.returns-in-Ran
returns-in-Ran g c =
    let before = g.E.Emulator.course c.args.machine.now in
    let after = g.E.Emulator.course c.turn.new.self in
    let answered = g.E.Emulator.answered c.turn.new.self in
    let host = g.H.Host.state c.args.host.now in
    let turned : IsTurn before after answered Ran = subst (IsTurn before after answered) c.in-Ran.is c.in_ok-turn.ensures.turn in
    record {
      done = advance_ran c.args.prefix.now before after answered c.args.devices.now host host turned;
      ready = λ _. subst (MayTurn (g.E.Emulator.runs c.turn.new.self) (g.E.Emulator.waits c.turn.new.self)) c.in-Ran.is c.in_ok-turn.ensures.ready;
      cut = tt;
      only = OnlySays-refl host;
      counted = SameFaults-refl host;
    }

-- the machine stopped
pub returns-in-Stopped : goal.returns-in-Stopped
returns-in-Stopped g c =
    let before = g.E.Emulator.course c.args.machine.now in
    let after = g.E.Emulator.course c.turn.new.self in
    let answered = g.E.Emulator.answered c.turn.new.self in
    let host = g.H.Host.state c.args.host.now in
    let why = c.in-Stopped.why in
    let turned : IsTurn before after answered (Stopped why) = subst (IsTurn before after answered) c.in-Stopped.is c.in_ok-turn.ensures.turn in
    record {
      done = rest_stopped c.args.prefix.now before after answered c.args.devices.now host host why turned;
      ready = λ is. absurd (ends _ is);
      cut = tt;
      only = OnlySays-refl host;
      counted = SameFaults-refl host;
    }

-- the program ended
pub returns-in_ok-say_event-in-Ended : goal.returns-in_ok-say_event-in-Ended
returns-in_ok-say_event-in-Ended g c =
    let before = g.E.Emulator.course c.args.machine.now in
    let after = g.E.Emulator.course c.turn.new.self in
    let answered = g.E.Emulator.answered c.turn.new.self in
    let said = c.in_ok-say_event-in-Ended.ensures in
    let turned : IsTurn before after answered Ended = subst (IsTurn before after answered) c.in-Ended.is c.in_ok-turn.ensures.turn in
    record {
      done = rest_ended c.args.prefix.now before after answered c.args.devices.now (g.H.Host.state c.args.host.now) (g.H.Host.state c.say_event.new.host) turned said.ok;
      ready = λ is. absurd (ends _ is);
      cut = tt;
      only = c.say_event.ensures.only;
      counted = said.counted;
    }

-- it asked, and it was answered, or memory was wanted for the answer
pub returns-in_ok-say_event-in-Asks : goal.returns-in_ok-say_event-in-Asks
returns-in_ok-say_event-in-Asks g c =
    let prefix = c.args.prefix.now in
    let before = g.E.Emulator.course c.args.machine.now in
    let after = g.E.Emulator.course c.turn.new.self in
    let answered = g.E.Emulator.answered c.turn.new.self in
    let old = g.H.Host.state c.args.host.now in
    let new = g.H.Host.state c.say_event-in-Asks.new.host in
    let v = c.in-Asks.event in
    let said = c.in_ok-say_event-in-Asks.ensures in
    let a = c.answer in
    let turned : IsTurn before after answered (Asks v) = subst (IsTurn before after answered) c.in-Asks.is c.in_ok-turn.ensures.turn in
    record {
      done = IfOk-weaker a.result _ _
          (λ o h. turn_answered prefix before after answered c.args.devices.now old new v turned said.ok (g.E.Emulator.course a.new.machine) a.new.devices o h)
          a.ensures.answered;
      ready = a.ensures.ready;
      cut = IfErr-weaker a.result _ (IsTurnCutOff prefix before old new)
          (λ h is. subst (IsTurnCutOff prefix before old new) (sym is)
          (asked prefix before after answered c.args.devices.now old new (g.met.E.Emulator.begins c.args.machine.now) v turned (λ y. g.met.E.Emulator.takes c.turn.new.self v y) said.ok, said.counted))
          a.ensures.memory;
      only = c.say_event-in-Asks.ensures.only;
      counted = IfOk-weaker a.result _ _ (λ _ _. said.counted) a.ensures.answered;
    }

-- want of memory before anything is said
pub returns-in_err-turn : goal.returns-in_err-turn
returns-in_err-turn g c =
    let before = g.E.Emulator.course c.args.machine.now in
    let host = g.H.Host.state c.args.host.now in
    let r = c.from_residual in
    record {
      done = IfOk-from_err r.result _ r.ensures.0;
      ready = λ is. absurd (fails r.result r.ensures.0 is);
      cut =
          on_fault r.result (λ h. h ≡ Memory) (IsTurnCutOff c.args.prefix.now before host host) r.ensures.1
          (λ h is. subst (IsTurnCutOff c.args.prefix.now before host host) (sym is)
          (unbegun c.args.prefix.now before before (g.E.Emulator.answered c.args.machine.now) c.args.devices.now host host (g.met.E.Emulator.begins c.args.machine.now), SameFaults-refl host));
      only = OnlySays-refl host;
      counted = IfOk-from_err r.result _ r.ensures.0;
    }

-- a fault in the line of the end, or want of memory for it
pub returns-in_err-say_event-in-Ended : goal.returns-in_err-say_event-in-Ended
returns-in_err-say_event-in-Ended g c =
    let prefix = c.args.prefix.now in
    let before = g.E.Emulator.course c.args.machine.now in
    let after = g.E.Emulator.course c.turn.new.self in
    let answered = g.E.Emulator.answered c.turn.new.self in
    let old = g.H.Host.state c.args.host.now in
    let new = g.H.Host.state c.say_event.new.host in
    let e = c.in_err-say_event-in-Ended in
    let r = c.from_residual-in_err-say_event-in-Ended in
    let turned : IsTurn before after answered Ended = subst (IsTurn before after answered) c.in-Ended.is c.in_ok-turn.ensures.turn in
    record {
      done = IfOk-from_err r.result _ r.ensures.0;
      ready = λ is. absurd (fails r.result r.ensures.0 is);
      cut =
          on_fault r.result (λ h. h ≡ e.field-0.0) (IsTurnCutOff prefix before old new) r.ensures.1
          (λ h is. subst (IsTurnCutOff prefix before old new) (sym is)
          (end_cut_off prefix before after answered c.args.devices.now old new (g.met.E.Emulator.begins c.args.machine.now) turned e.field-0.0 e.ensures.cut));
      only = c.say_event.ensures.only;
      counted = IfOk-from_err r.result _ r.ensures.0;
    }

-- a fault in the line of what is asked, or want of memory for it
pub returns-in_err-say_event-in-Asks : goal.returns-in_err-say_event-in-Asks
returns-in_err-say_event-in-Asks g c =
    let prefix = c.args.prefix.now in
    let before = g.E.Emulator.course c.args.machine.now in
    let after = g.E.Emulator.course c.turn.new.self in
    let answered = g.E.Emulator.answered c.turn.new.self in
    let old = g.H.Host.state c.args.host.now in
    let new = g.H.Host.state c.say_event-in-Asks.new.host in
    let v = c.in-Asks.event in
    let e = c.in_err-say_event-in-Asks in
    let r = c.from_residual-in_err-say_event-in-Asks in
    let turned : IsTurn before after answered (Asks v) = subst (IsTurn before after answered) c.in-Asks.is c.in_ok-turn.ensures.turn in
    record {
      done = IfOk-from_err r.result _ r.ensures.0;
      ready = λ is. absurd (fails r.result r.ensures.0 is);
      cut =
          on_fault r.result (λ h. h ≡ e.field-0.0) (IsTurnCutOff prefix before old new) r.ensures.1
          (λ h is. subst (IsTurnCutOff prefix before old new) (sym is)
          (asked_cut_off prefix before after answered c.args.devices.now old new (g.met.E.Emulator.begins c.args.machine.now) v turned (λ y. g.met.E.Emulator.takes c.turn.new.self v y) e.field-0.0 e.ensures.cut));
      only = c.say_event-in-Asks.ensures.only;
      counted = IfOk-from_err r.result _ r.ensures.0;
    }

pub answer-requires-clause-waits : goal.answer-requires-clause-waits
answer-requires-clause-waits g c = subst (MayTurn (g.E.Emulator.runs c.turn.new.self) (g.E.Emulator.waits c.turn.new.self)) c.in-Asks.is c.in_ok-turn.ensures.ready

pub answer-requires-clause-lawful : goal.answer-requires-clause-lawful
answer-requires-clause-lawful g c = subst AsksLawfully c.in-Asks.is c.in_ok-turn.ensures.lawful
