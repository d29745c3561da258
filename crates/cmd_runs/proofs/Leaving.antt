-- An 8080 that leaves its profile stands at an instruction of its program.
use Rattle.std.proofs.Common.{◌≡◌, ℕ, zero, suc, Bool, true, false, cond, List, [], ◌∷◌, ◌++◌, refl, sym, ap, ◌∙◌, subst, Option, Some, None, Result, Ok, Err, is_some}
use Rattle.cells.specs.declared.Place.{Place}
use Rattle.cells.specs.declared.Place.TheVariants.{At, Exit}
use Rattle.cells.specs.declared.Rule.{Rule}
use Rattle.dialogue.specs.declared.request.Reply.{Reply}
use Rattle.dialogue.specs.declared.request.Event.{Event}
use Rattle.dialogue.specs.declared.request.Event.TheVariants.{Call as Asked, In as AskedIn, Out as AskedOut, End}
use Rattle.dialogue.specs.Fits.{fits_event}
use Rattle.dialogue.specs.Run.{Answer, Ran, Asks, Ends, Stops, Status, Going, Waiting, Over, Stopped, Run, take_reply, settle, turn_by, turn, turns, start_run}
use Rattle.asm80_types.specs.declared.program.Placed.{Placed}
use Rattle.asm80_types.specs.Program.{Program, IsProgram, line_of_placed, placed_in}
use Rattle.cpu80_tagged.specs.State.{State80}
use Rattle.cpu80_tagged.specs.Call.{Return, is_place}
use Rattle.cpu80_tagged.specs.Step.{step_at, step80, return_at, replied_to, replied80, machine80}
use Rattle.cpu80_tagged.specs.Start.{start80, run80}
use Rattle.cpu80_tagged.proofs.Places.{GoesOn, Returns, goes_on, returns_to}
use Rattle.emulator_loop.specs.declared.emulator.Why.TheVariants.{Left, NoInstruction, StackSegment, OddCall}
use Rattle.emulator_loop.specs.declared.running.RunEnd.{RunEnd}
use Rattle.emulator_loop.specs.declared.running.RunEnd.TheVariants.{Ended, Stopped as HasStopped, StepLimit, InputEnded, NoDrive}
use Rattle.bdos_small.specs.Supply.{Supply}
use Rattle.emulator_loop.specs.Talk.{SeenRun, told_status, replies_to, IsRunAfter, IsCause}
use Rattle.emulators.specs.Courses.{why80, course80}
use Rattle.emulator_loop.specs.declared.running.Conversation.{Conversation}
use Rattle.host.specs.Host.{HostState}
use Rattle.cmd_arguments.specs.Words.{Run80}
use Rattle.cmd_runs.specs.Settings.{RunComesTo}
use Rattle.cmd_runs.specs.Kinds.{run_setting}
use Rattle.cmd_runs.specs.Runs80.{IsLineAt, IsLineOf, kind80}

-- at the place of the end nothing stops
at_exit : (p : Program) (s : State80) (q : Place) (x : Rule) → q ≡ Exit → step_at p s q ≡ Stops x → ⊥
at_exit p s (At a) x e h = cc
at_exit p s Exit x e h = cc

-- ---- turns

-- a run stands at an instruction or at the end, and where it has stopped, at an instruction
record Stands (p : Program) (r : Run State80 Rule) : Type 0 where
  place : is_place p r.state.place ≡ true
  stopped : (x : Rule) → r.status ≡ Stopped x → r.state.place ≡ Exit → ⊥

module _ (p : Program) where
  after_reply : (s : State80) (r : Result Return Rule) (e : Event) (y : Reply) → is_place p s.place ≡ true → Returns p r → is_place p (replied_to p s r e y).place ≡ true
  after_reply s (Err x) e y h back = h
  after_reply s (Ok r) End y h back = h
  after_reply s (Ok r) (Asked q) y h back = back
  after_reply s (Ok r) (AskedIn port) y h back = back
  after_reply s (Ok r) (AskedOut port byte) y h back = back

  replied_place : (s : State80) (e : Event) (y : Reply) → is_place p s.place ≡ true → is_place p (replied80 p s e y).place ≡ true
  replied_place s e y h = after_reply s (return_at p s s.place) e y h (returns_to p s s.place)

  takes : (r : Run State80 Rule) (e : Event) (ys : List Reply) → r.status ≡ Going → is_place p r.state.place ≡ true → Stands p (take_reply (machine80 p) [] r e ys)
  takes r e [] going h = record { place = h; stopped = λ x s q. cc }
  takes r e (y ∷ ys) going h = by_fit (fits_event e y)
    where
      by_fit : (b : Bool) → Stands p (cond b (record r { state = replied80 p r.state e y; replies = ys; used = suc r.used }) (record r { status = Waiting }))
      by_fit true = record { place = replied_place r.state e y h; stopped = λ x s q. let f : Going ≡ Stopped x = sym going ∙ s in cc }
      by_fit false = record { place = h; stopped = λ x s q. cc }

  settles : (r : Run State80 Rule) (a : Answer State80 Rule) → r.status ≡ Going → step80 p r.state ≡ a → is_place p r.state.place ≡ true → GoesOn p r.state a → Stands p (settle (machine80 p) [] r a)
  settles r (Ran t) going e h goes = record { place = goes; stopped = λ x s q. let f : Going ≡ Stopped x = sym going ∙ s in cc }
  settles r (Asks q t) going e h goes =
      takes (record r { state = t; dialogue = r.dialogue ++ q ∷ []; used = suc r.used }) q r.replies going (subst (λ (s : State80). is_place p s.place ≡ true) (sym goes) h)
  settles r Ends going e h goes = record { place = h; stopped = λ x s q. cc }
  settles r (Stops x) going e h goes = record { place = h; stopped = λ y s exit. at_exit p r.state r.state.place x exit e }

  turned : (r : Run State80 Rule) (status : Status Rule) → r.status ≡ status → Stands p r → Stands p (turn_by (machine80 p) [] r status)
  turned r Going e h = settles r (step80 p r.state) e refl h.place (goes_on p r.state)
  turned r Waiting e h = h
  turned r Over e h = h
  turned r (Stopped x) e h = h

  stands_after : (n : ℕ) (r : Run State80 Rule) → Stands p r → Stands p (turns (machine80 p) [] n r)
  stands_after zero r h = h
  stands_after (suc n) r h = stands_after n (turn (machine80 p) [] r) (turned r r.status refl h)

  -- the line of an instruction
  line_there : (o : Option Placed) → is_some o ≡ true → (line : ℕ) × (line_of_placed o ≡ Some line)
  line_there (Some x) h = (x.line, refl)
  line_there None h = cc

  line_at_place : (q : Place) → is_place p q ≡ true → (q ≡ Exit → ⊥) → (line : ℕ) × IsLineAt p q line
  line_at_place (At a) h none = line_there (placed_in p.instrs a) h
  line_at_place Exit h none = absurd (none refl)

  module _ (lawful : IsProgram p) (page : List ℕ) where
    run_stands : (ys : List Reply) (n : ℕ) → Stands p (run80 p page ys n)
    run_stands ys n = stands_after n (start_run (start80 p page) ys) (record { place = lawful.first; stopped = λ x s q. cc })

    stopped_at : (r : Run State80 Rule) (status : Status Rule) → r.status ≡ status → Stands p r → (q : Place) (x : Rule) → told_status (why80 r.state) status ≡ Stopped (Left q x) → (line : ℕ) × IsLineAt p q line
    stopped_at r Going e h q x s = cc
    stopped_at r Waiting e h q x s = cc
    stopped_at r Over e h q x s = cc
    stopped_at r (Stopped y) e h q x s =
        let same : r.state.place ≡ q = cc in
        subst (λ a. (line : ℕ) × IsLineAt p a line) same (line_at_place r.state.place h.place (h.stopped y e))

    -- an end of the run has its line
    end_has_line : (supply : Supply) (limit : ℕ) (o : RunEnd) (v : SeenRun) → IsRunAfter (course80 p page) supply limit v → IsCause (course80 p page) supply limit o v → (line : ℕ) × IsLineOf p o line
    end_has_line supply limit Ended v at cause = (0, refl)
    end_has_line supply limit (HasStopped (Left q x)) v at cause =
        let ys = replies_to supply v.dialogue in
        let r = run80 p page ys limit in
        stopped_at r r.status refl (run_stands ys limit) q x (ap (λ (w : SeenRun). w.status) (sym at) ∙ cause)
    end_has_line supply limit (HasStopped (NoInstruction offset)) v at cause = (0, refl)
    end_has_line supply limit (HasStopped (StackSegment offset)) v at cause = (0, refl)
    end_has_line supply limit (HasStopped (OddCall offset function)) v at cause = (0, refl)
    end_has_line supply limit StepLimit v at cause = (0, refl)
    end_has_line supply limit InputEnded v at cause = (0, refl)
    end_has_line supply limit (NoDrive function) v at cause = (0, refl)

module _ (c : Run80) (program : Program) (lawful : IsProgram program) (prefix : List ℕ) (supply left : Supply) (o : Conversation) (start new : HostState) where
  -- and so has the end of a run that was made
  pub line_stands : RunComesTo (run_setting (kind80 c) prefix program) supply o left start new → (line : ℕ) → ((n : ℕ) → IsLineOf program o.end n → line ≡ n) → IsLineOf program o.end line
  line_stands run line is =
      let made = run.says (course80 program c.run.page) refl in
      let found = end_has_line program lawful c.run.page supply c.run.steps o.end made.run made.outcome.at made.outcome.cause in
      subst (λ n. IsLineOf program o.end n) (sym (is found.0 found.1)) found.1
