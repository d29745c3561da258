-- The turns of the 8086 with one choice.
use Rattle.std.proofs.Common.{◌≡◌, ℕ, suc, ◌%◌, List, [], ◌∷◌, sym, ap, ◌∙◌, arith}
use Rattle.std.proofs.Math.Path.{fun_ext}
use Rattle.std.specs.Prelude.{slice_index, Option}
use Rattle.i86.specs.declared.Instr86.{Instr86}
use Rattle.i86.specs.Code.{ReadsCode}
use Rattle.i86.specs.Decode.{IsOnlyReader}
use Rattle.asm86_line_types.specs.Image.{Image}
use Rattle.i86.specs.Decoder.{decoded}
use Rattle.dialogue.specs.declared.request.Reply.{Reply}
use Rattle.dialogue.specs.declared.request.Event.{Event}
use Rattle.dialogue.specs.Run.{Answer, Ran, Asks, Ends, Stops, choice_at}
use Rattle.cpu86.specs.State.{State86}
use Rattle.cpu86.specs.Call.{Stop, replied86}
use Rattle.cpu86.specs.Start.{Start, start86}
use Rattle.cpu86.specs.Step.{step86, machine86}
use Rattle.emulator_loop.specs.declared.emulator.Turn.TheVariants.{Ran as HasRun, Asks as HasAsked, Ended, Stopped as HasStopped}
use Rattle.emulator_loop.specs.Turns.{no_past, Course, with_reply_taken, after_asked, IsTurn}
use Rattle.emulators.specs.Courses.{why86, course86, course86_from}
use Rattle.emulator_loop.proofs.Turning.{turn_ran, turn_ended, turn_stopped, turn_asked}

-- the one choice is every choice
pub one_choice : (c k : ℕ) → choice_at (c ∷ []) k ≡ c
one_choice c k = let e : k % 1 ≡ 0 = omega arith in ap (slice_index (c ∷ [])) e

module _ (code : List ℕ) (c : ℕ) (s t : State86) (answered : Event → Reply → Course) where
  stepped : (a : Answer State86 Stop) (k : ℕ) → step86 (decoded code) s c ≡ a → step86 (decoded code) s (choice_at (c ∷ []) k) ≡ a
  stepped a k e = ap (step86 (decoded code) s) (one_choice c k) ∙ e

  pub ran86 : step86 (decoded code) s c ≡ Ran t → IsTurn (course86_from code c s) (course86_from code c t) answered HasRun
  ran86 h past ys n = turn_ran (machine86 (decoded code)) (c ∷ []) why86 s past ys n t (stepped (Ran t) past.used h)

  pub ended86 : step86 (decoded code) s c ≡ Ends → IsTurn (course86_from code c s) (course86_from code c t) answered Ended
  ended86 h past ys n = turn_ended (machine86 (decoded code)) (c ∷ []) why86 s past ys n (stepped Ends past.used h)

  pub stopped86 : (why : Stop) → step86 (decoded code) s c ≡ Stops why → IsTurn (course86_from code c s) (course86_from code c t) answered (HasStopped (why86 s why))
  stopped86 why h past ys n = turn_stopped (machine86 (decoded code)) (c ∷ []) why86 s past ys n why (stepped (Stops why) past.used h)

pub asked86 : (code : List ℕ) (c : ℕ) (s t : State86) (e : Event) → step86 (decoded code) s c ≡ Asks e t → IsTurn (course86_from code c s) (course86_from code c t) (λ e y. course86_from code c (replied86 t e y c)) (HasAsked e)
asked86 code c s t e h past ys n =
    turn_asked (machine86 (decoded code)) (c ∷ []) why86 s t e past ys n (stepped code c s t (λ e y. course86_from code c t) (Asks e t) past.used h)
    ∙ ap (λ k. with_reply_taken e (λ y. course86_from code c (replied86 t e y k)) (after_asked past e) ys n) (one_choice c (suc past.used))

-- the run of an image, whatever reads its code
pub course86_is : (fetch : ℕ → Option Instr86) (image : Image) (page fill : List ℕ) (start : Start) (c k : ℕ) (code : List ℕ) (s : State86) → k ≡ c → code ≡ image.code → s ≡ start86 image page fill start → IsOnlyReader image.code (decoded image.code) → ReadsCode image.code fetch → course86_from code k s no_past ≡ course86 fetch image page fill start (c ∷ [])
course86_is fetch image page fill start c k code s e f g reader reads =
    let same : decoded image.code ≡ fetch = fun_ext (λ at. sym (reader.1 fetch reads at)) in
    ap (λ n. course86_from code n s no_past) e
    ∙ ap (λ l. course86_from l c s no_past) f
    ∙ ap (λ u. course86_from image.code c u no_past) g
    ∙ ap (λ r. course86 r image page fill start (c ∷ [])) same
