-- The turns of the tagged 8080.
use Rattle.std.proofs.Common.{◌≡◌, [], refl, sym, ap, ◌∙◌}
use Rattle.cells.specs.declared.Rule.{Rule}
use Rattle.cells.specs.declared.Place.{Place}
use Rattle.dialogue.specs.declared.request.Reply.{Reply}
use Rattle.dialogue.specs.declared.request.Event.{Event}
use Rattle.dialogue.specs.Run.{Answer, Ran, Asks, Ends, Stops, Stopped}
use Rattle.asm80_types.specs.Program.{Program}
use Rattle.cpu80_tagged.specs.State.{State80}
use Rattle.cpu80_tagged.specs.Step.{step80, replied80, machine80}
use Rattle.cpu80_tagged.specs.declared.processor.Step80.TheVariants.{Ran as DidRun, Asked, Ended as DidEnd, Left as DidLeave}
use Rattle.cpu80_tagged.specs.Machine.{IsTaggedStep}
use Rattle.emulator_loop.specs.declared.emulator.Why.TheVariants.{Left}
use Rattle.emulator_loop.specs.declared.emulator.Turn.TheVariants.{Ran as HasRun, Asks as HasAsked, Ended, Stopped as HasStopped}
use Rattle.emulator_loop.specs.Turns.{Course, IsTurn}
use Rattle.emulators.specs.Courses.{why80, course80_from}
use Rattle.emulator_loop.proofs.Turning.{turn_ran, turn_ended, turn_stopped, turn_asked}

module _ (p : Program) (s t : State80) (answered : Event → Reply → Course) where
  pub ran80 : IsTaggedStep (step80 p s) DidRun s t → IsTurn (course80_from p s) (course80_from p t) answered HasRun
  ran80 h past ys n = turn_ran (machine80 p) [] why80 s past ys n t (by (step80 p s) h)
    where
      by : (a : Answer State80 Rule) → IsTaggedStep a DidRun s t → a ≡ Ran t
      by (Ran u) h = ap Ran (sym h.1)
      by (Asks e u) h = let g = h.0 in cc
      by Ends h = let g = h.0 in cc
      by (Stops x) h = let g = h.0 in cc

  pub ended80 : IsTaggedStep (step80 p s) DidEnd s t → IsTurn (course80_from p s) (course80_from p t) answered Ended
  ended80 h past ys n = turn_ended (machine80 p) [] why80 s past ys n (by (step80 p s) h)
    where
      by : (a : Answer State80 Rule) → IsTaggedStep a DidEnd s t → a ≡ Ends
      by (Ran u) h = let g = h.0 in cc
      by (Asks e u) h = let g = h.0 in cc
      by Ends h = refl
      by (Stops x) h = let g = h.0 in cc

  pub left80 : (rule : Rule) (place : Place) → IsTaggedStep (step80 p s) (DidLeave rule) s t → place ≡ t.place → IsTurn (course80_from p s) (course80_from p t) answered (HasStopped (Left place rule))
  left80 rule place h e past ys n =
      turn_stopped (machine80 p) [] why80 s past ys n rule (by (step80 p s) h).0
      ∙ ap (λ q. record { status = Stopped (Left q rule); dialogue = past.dialogue }) (ap (λ (u : State80). u.place) (sym (by (step80 p s) h).1) ∙ sym e)
    where
      by : (a : Answer State80 Rule) → IsTaggedStep a (DidLeave rule) s t → (a ≡ Stops rule) × (t ≡ s)
      by (Ran u) h = let g = h.0 in cc
      by (Asks e u) h = let g = h.0 in cc
      by Ends h = let g = h.0 in cc
      by (Stops x) h = let g = h.0 in (cc, h.1)

  -- a step that left the profile changed nothing
  pub still80 : (rule : Rule) → IsTaggedStep (step80 p s) (DidLeave rule) s t → t ≡ s
  still80 rule h = by (step80 p s) h
    where
      by : (a : Answer State80 Rule) → IsTaggedStep a (DidLeave rule) s t → t ≡ s
      by (Ran u) h = let g = h.0 in cc
      by (Asks e u) h = let g = h.0 in cc
      by Ends h = let g = h.0 in cc
      by (Stops x) h = h.1

  -- a step that asked changed nothing
  pub stayed80 : IsTaggedStep (step80 p s) Asked s t → t ≡ s
  stayed80 h = by (step80 p s) h
    where
      by : (a : Answer State80 Rule) → IsTaggedStep a Asked s t → t ≡ s
      by (Ran u) h = let g = h.0 in cc
      by (Asks e u) h = h.1
      by Ends h = let g = h.0 in cc
      by (Stops x) h = let g = h.0 in cc

pub asked80 : (p : Program) (s t : State80) (e : Event) → t ≡ s → step80 p t ≡ Asks e t → IsTurn (course80_from p s) (course80_from p t) (λ e y. course80_from p (replied80 p t e y)) (HasAsked e)
asked80 p s t e same h past ys n =
    let asks_it : step80 p s ≡ Asks e t = ap (step80 p) (sym same) ∙ h in
    turn_asked (machine80 p) [] why80 s t e past ys n asks_it
