-- One turn of any machine, as it is seen from outside.
use Rattle.std.proofs.Common.{◌≡◌, ℕ, suc, Bool, true, false, cond, List, [], ◌∷◌, ◌++◌, refl, ap, ◌∙◌}
use Rattle.dialogue.specs.declared.request.Reply.{Reply}
use Rattle.dialogue.specs.declared.request.Event.{Event}
use Rattle.dialogue.specs.declared.request.Event.TheVariants.{End}
use Rattle.dialogue.specs.Fits.{fits_event}
use Rattle.dialogue.specs.Run.{Answer, Ran, Asks, Ends, Stops, Machine, Run, Going, Waiting, Over, Stopped, choice_at, settle, turns}
use Rattle.dialogue.proofs.Turns.{still_turns}
use Rattle.emulator_loop.specs.declared.emulator.Why.{Why}
use Rattle.emulator_loop.specs.Talk.{seen}
use Rattle.emulator_loop.specs.Turns.{Past, after_ran, after_asked, standing_so, with_reply_taken, course_from}

module _ {S X : Type 0} (m : Machine S X) (cs : List ℕ) (why : S → X → Why) (s : S) (t : Past) (ys : List Reply) (n : ℕ) where
  -- by what the step answers
  settled : (a : Answer S X) → m.step s (choice_at cs t.used) ≡ a → course_from m cs why s t ys (suc n) ≡ seen why (turns m cs n (settle m cs (record { state = s; status = Going; dialogue = t.dialogue; replies = ys; used = t.used }) a))
  settled a e = ap (λ a. seen why (turns m cs n (settle m cs (record { state = s; status = Going; dialogue = t.dialogue; replies = ys; used = t.used }) a))) e

  pub turn_ran : (u : S) → m.step s (choice_at cs t.used) ≡ Ran u → course_from m cs why s t ys (suc n) ≡ course_from m cs why u (after_ran t) ys n
  turn_ran u e = settled (Ran u) e

  pub turn_ended : m.step s (choice_at cs t.used) ≡ Ends → course_from m cs why s t ys (suc n) ≡ standing_so Over (t.dialogue ++ End ∷ [])
  turn_ended e =
      let r : Run S X = record { state = s; status = Over; dialogue = t.dialogue ++ End ∷ []; replies = ys; used = t.used } in
      settled Ends e ∙ ap (seen why) (still_turns m cs n r tt)

  pub turn_stopped : (x : X) → m.step s (choice_at cs t.used) ≡ Stops x → course_from m cs why s t ys (suc n) ≡ standing_so (Stopped (why s x)) t.dialogue
  turn_stopped x e =
      let r : Run S X = record { state = s; status = Stopped x; dialogue = t.dialogue; replies = ys; used = t.used } in
      settled (Stops x) e ∙ ap (seen why) (still_turns m cs n r tt)

module _ {S X : Type 0} (m : Machine S X) (cs : List ℕ) (why : S → X → Why) (s u : S) (e : Event) where
  waiting : (t : Past) (ys : List Reply) (n : ℕ) → seen why (turns m cs n (record { state = u; status = Waiting; dialogue = (after_asked t e).dialogue; replies = ys; used = suc t.used })) ≡ standing_so Waiting (after_asked t e).dialogue
  waiting t ys n = ap (seen why) (still_turns m cs n (record { state = u; status = Waiting; dialogue = (after_asked t e).dialogue; replies = ys; used = suc t.used }) tt)

  -- what asks takes its reply, where one comes that fits
  pub turn_asked : (t : Past) (ys : List Reply) (n : ℕ) → m.step s (choice_at cs t.used) ≡ Asks e u → course_from m cs why s t ys (suc n) ≡ with_reply_taken e (λ y. course_from m cs why (m.replied u e y (choice_at cs (suc t.used)))) (after_asked t e) ys n
  turn_asked t [] n is = settled m cs why s t [] n (Asks e u) is ∙ waiting t [] n
  turn_asked t (y ∷ ys) n is = settled m cs why s t (y ∷ ys) n (Asks e u) is ∙ by_fit (fits_event e y)
    where
      by_fit : (b : Bool) → seen why (turns m cs n (cond b (record { state = m.replied u e y (choice_at cs (suc t.used)); status = Going; dialogue = (after_asked t e).dialogue; replies = ys; used = suc (suc t.used) }) (record { state = u; status = Waiting; dialogue = (after_asked t e).dialogue; replies = y ∷ ys; used = suc t.used }))) ≡ cond b (course_from m cs why (m.replied u e y (choice_at cs (suc t.used))) (after_ran (after_asked t e)) ys n) (standing_so Waiting (after_asked t e).dialogue)
      by_fit true = refl
      by_fit false = waiting t (y ∷ ys) n
