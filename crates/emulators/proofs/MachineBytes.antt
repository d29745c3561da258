-- The turns of the 8080 that fetches bytes, with one choice.
use Rattle.std.proofs.Common.{◌≡◌, ℕ, suc, [], ◌∷◌, ap, ◌∙◌}
use Rattle.dialogue.specs.declared.request.Reply.{Reply}
use Rattle.dialogue.specs.declared.request.Event.{Event}
use Rattle.dialogue.specs.Run.{Answer, Ran, Asks, Ends, Stops, choice_at}
use Rattle.cpu80.specs.State.{UntaggedState}
use Rattle.cpu80.specs.Call.{Stop}
use Rattle.cpu80.specs.Step.{step_untagged, replied_untagged, untagged_machine}
use Rattle.i80_bytes.specs.Fetch.{fetch_of_bytes}
use Rattle.emulator_loop.specs.declared.emulator.Turn.TheVariants.{Ran as HasRun, Asks as HasAsked, Ended, Stopped as HasStopped}
use Rattle.emulator_loop.specs.Turns.{Course, with_reply_taken, after_asked, IsTurn}
use Rattle.emulators.specs.ByteCourses.{why_bytes, course_bytes_from}
use Rattle.emulators.proofs.Machine86.{one_choice}
use Rattle.emulator_loop.proofs.Turning.{turn_ran, turn_ended, turn_stopped, turn_asked}

module _ (c : ℕ) (u v : UntaggedState) where
  stepped : (a : Answer UntaggedState Stop) (k : ℕ) → step_untagged fetch_of_bytes u c ≡ a → step_untagged fetch_of_bytes u (choice_at (c ∷ []) k) ≡ a
  stepped a k e = ap (step_untagged fetch_of_bytes u) (one_choice c k) ∙ e

  module _ (answered : Event → Reply → Course) where
    pub ran_bytes : step_untagged fetch_of_bytes u c ≡ Ran v → IsTurn (course_bytes_from c u) (course_bytes_from c v) answered HasRun
    ran_bytes h past ys n = turn_ran (untagged_machine fetch_of_bytes) (c ∷ []) why_bytes u past ys n v (stepped (Ran v) past.used h)

    pub ended_bytes : step_untagged fetch_of_bytes u c ≡ Ends → IsTurn (course_bytes_from c u) (course_bytes_from c v) answered Ended
    ended_bytes h past ys n = turn_ended (untagged_machine fetch_of_bytes) (c ∷ []) why_bytes u past ys n (stepped Ends past.used h)

    pub stopped_bytes : (why : Stop) → step_untagged fetch_of_bytes u c ≡ Stops why → IsTurn (course_bytes_from c u) (course_bytes_from c v) answered (HasStopped (why_bytes u why))
    stopped_bytes why h past ys n = turn_stopped (untagged_machine fetch_of_bytes) (c ∷ []) why_bytes u past ys n why (stepped (Stops why) past.used h)

  pub asked_bytes : (e : Event) → step_untagged fetch_of_bytes u c ≡ Asks e v → IsTurn (course_bytes_from c u) (course_bytes_from c v) (λ e y. course_bytes_from c (replied_untagged fetch_of_bytes v e y c)) (HasAsked e)
  asked_bytes e h past ys n =
      turn_asked (untagged_machine fetch_of_bytes) (c ∷ []) why_bytes u v e past ys n (stepped (Asks e v) past.used h)
      ∙ ap (λ k. with_reply_taken e (λ y. course_bytes_from c (replied_untagged fetch_of_bytes v e y k)) (after_asked past e) ys n) (one_choice c (suc past.used))
