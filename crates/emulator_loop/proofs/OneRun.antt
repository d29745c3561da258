-- The run of any machine over devices is one: its events follow from what these have, turn by turn.
use Rattle.std.proofs.Common.{◌≡◌, ℕ, zero, suc, ◌+◌, ◌-◌, Bool, true, false, cond, List, [], ◌∷◌, ◌++◌, refl, sym, ap, ◌∙◌, subst, arith, append_assoc}
use Rattle.std.proofs.lemmas.List.{append-nil, append_cancel_left}
use Rattle.dialogue.specs.declared.request.Reply.{Reply}
use Rattle.dialogue.specs.declared.request.Event.{Event}
use Rattle.dialogue.specs.declared.request.Event.TheVariants.{End}
use Rattle.dialogue.specs.Fits.{fits_event}
use Rattle.std.specs.Prelude.{Option, Some, None}
use Rattle.bdos_small.specs.declared.devices.EventAnswer.{EventAnswer}
use Rattle.bdos_small.specs.declared.devices.EventAnswer.TheVariants.{Reply as Replies, InputEnded, NoDrive}
use Rattle.bdos_small.specs.Supply.{Supply}
use Rattle.bdos_small.specs.Events.{EventAnswered, event_answer}
use Rattle.dialogue.specs.Run.{Answer, Ran, Asks, Ends, Stops, Machine, Run, Status, Going, Waiting, Over, Stopped, choice_at, turns, IsFrontOf}
use Rattle.dialogue.proofs.Turns.{IsStill, turns_add, turns_grow, still_turns}
use Rattle.emulator_loop.specs.declared.emulator.Why.{Why}
use Rattle.emulator_loop.specs.Talk.{SeenRun, told_status, seen, reply_then, reply_from, replies_to, IsRunAfter, HasOneRun}
use Rattle.emulator_loop.specs.Turns.{Past, Course, no_past, after_ran, after_asked, standing_so, with_reply_taken, course_from}
use Rattle.emulator_loop.proofs.Turning.{turn_ran, turn_ended, turn_stopped, turn_asked}

front_nothing : (a : List Event) → IsFrontOf [] a
front_nothing a = (a, refl)

front_same : (a : List Event) → IsFrontOf a a
front_same a = ([], sym (append-nil a))

front_after : (e : Event) (a b : List Event) → IsFrontOf a b → IsFrontOf (e ∷ a) (e ∷ b)
front_after e a b f = (f.0, ap (λ l. e ∷ l) f.1)

-- where nothing is added
adds_nothing : (a b : List Event) → a ≡ a ++ b → b ≡ []
adds_nothing a b e = append_cancel_left a b [] (sym e ∙ sym (append-nil a))

halted_is_still : {X : Type 0} (why : X → Why) (st : Status X) → (told_status why st ≡ Going → ⊥) → IsStill st
halted_is_still why Going halted = absurd (halted refl)
halted_is_still why Waiting halted = tt
halted_is_still why Over halted = tt
halted_is_still why (Stopped x) halted = tt

-- what stands at the front of less than itself is nothing
front_of_less : (a b : List Event) → IsFrontOf (a ++ b) a → b ≡ []
front_of_less a [] f = refl
front_of_less a (x ∷ xs) f =
    let none : x ∷ (xs ++ f.0) ≡ [] = adds_nothing a (x ∷ (xs ++ f.0)) (f.1 ∙ append_assoc a (x ∷ xs) f.0) in
    cc

front_rest : (a b c : List Event) → IsFrontOf (a ++ b) (a ++ c) → IsFrontOf b c
front_rest a b c f = (f.0, append_cancel_left a c (b ++ f.0) (f.1 ∙ append_assoc a b f.0))

front_first : (x e : Event) (xs es : List Event) → IsFrontOf (x ∷ xs) (e ∷ es) → e ≡ x
front_first x e xs es f = let same : e ∷ es ≡ x ∷ (xs ++ f.0) = f.1 in cc

module _ {S X : Type 0} (m : Machine S X) (cs : List ℕ) (why : S → X → Why) where
  -- the events of a reply on, and of a turn on, by what comes after
  abbrev reply_events : (S → Past → Supply → List Event) → S → Event → Past → EventAnswer → Supply → List Event
  reply_events rec u e t (Replies y) left =
      cond (fits_event e y) (rec (m.replied u e y (choice_at cs t.used)) (after_ran t) left) []
  reply_events rec u e t InputEnded left = []
  reply_events rec u e t (NoDrive f) left = []

  abbrev answer_events : (S → Past → Supply → List Event) → S → Event → Past → Option EventAnswered → List Event
  answer_events rec u e t None = []
  answer_events rec u e t (Some a) = reply_events rec u e t a.answer a.left

  abbrev turn_events : (S → Past → Supply → List Event) → Past → Supply → Answer S X → List Event
  turn_events rec t i (Ran u) = rec u (after_ran t) i
  turn_events rec t i (Asks e u) = e ∷ answer_events rec u e (after_asked t e) (event_answer i e)
  turn_events rec t i Ends = End ∷ []
  turn_events rec t i (Stops x) = []

  -- the events of n turns over devices
  abbrev events : ℕ → S → Past → Supply → List Event
  events zero s t i = []
  events (suc n) s t i = turn_events (events n) t i (m.step s (choice_at cs t.used))

  -- these are the events of a run that is given the replies to them
  abbrev Holds : ℕ → S → Past → Supply → List Event → Type 0
  Holds n s t i d = (course_from m cs why s t (replies_to i d) n).dialogue ≡ t.dialogue ++ d

  -- after a question
  module _ (n : ℕ) (u : S) (e : Event) (t : Past) where
    abbrev answered : Reply → Course
    answered y = course_from m cs why (m.replied u e y (choice_at cs t.used))

    taken_grows : (ys : List Reply) → IsFrontOf t.dialogue (with_reply_taken e answered t ys n).dialogue
    taken_grows [] = front_same t.dialogue
    taken_grows (y ∷ ys) = by_fit (fits_event e y)
      where
        by_fit : (b : Bool) → (let v : SeenRun = cond b (answered y (after_ran t) ys n) (standing_so Waiting t.dialogue) in IsFrontOf t.dialogue v.dialogue)
        by_fit true = turns_grow m cs n (record { state = m.replied u e y (choice_at cs t.used); status = Going; dialogue = t.dialogue; replies = ys; used = suc t.used })
        by_fit false = front_same t.dialogue

    reply_holds : ((s : S) (t : Past) (i : Supply) → Holds n s t i (events n s t i)) → (left : Supply) (a : EventAnswer) → (with_reply_taken e answered t (reply_then a (replies_to left (reply_events (events n) u e t a left))) n).dialogue ≡ t.dialogue ++ reply_events (events n) u e t a left
    reply_holds rec left (Replies y) = by_fit (fits_event e y)
      where
        s : S
        s = m.replied u e y (choice_at cs t.used)

        by_fit : (b : Bool) → (let v : SeenRun = cond b (answered y (after_ran t) (replies_to left (cond b (events n s (after_ran t) left) [])) n) (standing_so Waiting t.dialogue) in v.dialogue) ≡ t.dialogue ++ cond b (events n s (after_ran t) left) []
        by_fit true = rec s (after_ran t) left
        by_fit false = sym (append-nil t.dialogue)
    reply_holds rec left InputEnded = sym (append-nil t.dialogue)
    reply_holds rec left (NoDrive f) = sym (append-nil t.dialogue)

    answer_holds : ((s : S) (t : Past) (i : Supply) → Holds n s t i (events n s t i)) → (a : Option EventAnswered) → (with_reply_taken e answered t (reply_from a (λ left. replies_to left (answer_events (events n) u e t a))) n).dialogue ≡ t.dialogue ++ answer_events (events n) u e t a
    answer_holds rec None = sym (append-nil t.dialogue)
    answer_holds rec (Some a) = reply_holds rec a.left a.answer

    reply_only : ((s : S) (t : Past) (i : Supply) (d : List Event) → Holds n s t i d → d ≡ events n s t i) → (left : Supply) (rest : List Event) (a : EventAnswer) → (with_reply_taken e answered t (reply_then a (replies_to left rest)) n).dialogue ≡ t.dialogue ++ rest → rest ≡ reply_events (events n) u e t a left
    reply_only rec left rest (Replies y) h = by_fit (fits_event e y) h
      where
        s : S
        s = m.replied u e y (choice_at cs t.used)

        by_fit : (b : Bool) → (let v : SeenRun = cond b (answered y (after_ran t) (replies_to left rest) n) (standing_so Waiting t.dialogue) in v.dialogue) ≡ t.dialogue ++ rest → rest ≡ cond b (events n s (after_ran t) left) []
        by_fit true h = rec s (after_ran t) left rest h
        by_fit false h = adds_nothing t.dialogue rest h
    reply_only rec left rest InputEnded h = adds_nothing t.dialogue rest h
    reply_only rec left rest (NoDrive f) h = adds_nothing t.dialogue rest h

    answer_only : ((s : S) (t : Past) (i : Supply) (d : List Event) → Holds n s t i d → d ≡ events n s t i) → (rest : List Event) (a : Option EventAnswered) → (with_reply_taken e answered t (reply_from a (λ left. replies_to left rest)) n).dialogue ≡ t.dialogue ++ rest → rest ≡ answer_events (events n) u e t a
    answer_only rec rest None h = adds_nothing t.dialogue rest h
    answer_only rec rest (Some a) h = reply_only rec a.left rest a.answer h

  -- what a run that is given the replies to some events has said of these
  abbrev IsReached : ℕ → S → Past → Supply → List Event → Type 0
  IsReached n s t i d = IsFrontOf (t.dialogue ++ d) (course_from m cs why s t (replies_to i d) n).dialogue

  abbrev Reaches : ℕ → Type 0
  Reaches n = (s : S) (t : Past) (i : Supply) (d : List Event) → IsReached n s t i d → IsFrontOf d (events n s t i)

  -- after a question
  module _ (n : ℕ) (u : S) (e : Event) (t : Past) (rec : Reaches n) where
    no_more : (rest b : List Event) → IsFrontOf (t.dialogue ++ rest) t.dialogue → IsFrontOf rest b
    no_more rest b h = subst (λ d. IsFrontOf d b) (sym (front_of_less t.dialogue rest h)) (front_nothing b)

    reply_reaches : (left : Supply) (rest : List Event) (a : EventAnswer) → IsFrontOf (t.dialogue ++ rest) (with_reply_taken e (answered n u e t) t (reply_then a (replies_to left rest)) n).dialogue → IsFrontOf rest (reply_events (events n) u e t a left)
    reply_reaches left rest (Replies y) h = by_fit (fits_event e y) h
      where
        s : S
        s = m.replied u e y (choice_at cs t.used)

        by_fit : (b : Bool) → (let v : SeenRun = cond b (answered n u e t y (after_ran t) (replies_to left rest) n) (standing_so Waiting t.dialogue) in IsFrontOf (t.dialogue ++ rest) v.dialogue) → IsFrontOf rest (cond b (events n s (after_ran t) left) [])
        by_fit true h = rec s (after_ran t) left rest h
        by_fit false h = no_more rest [] h
    reply_reaches left rest InputEnded h = no_more rest [] h
    reply_reaches left rest (NoDrive f) h = no_more rest [] h

    answer_reaches : (rest : List Event) (a : Option EventAnswered) → IsFrontOf (t.dialogue ++ rest) (with_reply_taken e (answered n u e t) t (reply_from a (λ left. replies_to left rest)) n).dialogue → IsFrontOf rest (answer_events (events n) u e t a)
    answer_reaches rest None h = no_more rest [] h
    answer_reaches rest (Some a) h = reply_reaches a.left rest a.answer h

  -- and is asked first what it asks
  asked_reaches : (n : ℕ) → Reaches n → (s u : S) (e : Event) (t : Past) (i : Supply) (d : List Event) → m.step s (choice_at cs t.used) ≡ Asks e u → IsReached (suc n) s t i d → IsFrontOf d (e ∷ answer_events (events n) u e (after_asked t e) (event_answer i e))
  asked_reaches n rec s u e t i [] is h = front_nothing (e ∷ answer_events (events n) u e (after_asked t e) (event_answer i e))
  asked_reaches n rec s u e t i (x ∷ xs) is h =
      let p = after_asked t e in
      let ys = replies_to i (x ∷ xs) in
      let said : (course_from m cs why s t ys (suc n)).dialogue ≡ (with_reply_taken e (answered n u e p) p ys n).dialogue = ap (λ (v : SeenRun). v.dialogue) (turn_asked m cs why s u e t ys n is) in
      let grown = taken_grows n u e p ys in
      let parts : (with_reply_taken e (answered n u e p) p ys n).dialogue ≡ t.dialogue ++ e ∷ grown.0 = grown.1 ∙ append_assoc t.dialogue (e ∷ []) grown.0 in
      let front : IsFrontOf (t.dialogue ++ x ∷ xs) (with_reply_taken e (answered n u e p) p ys n).dialogue = subst (IsFrontOf (t.dialogue ++ x ∷ xs)) said h in
      let first : e ≡ x = front_first x e xs grown.0 (front_rest t.dialogue (x ∷ xs) (e ∷ grown.0) (subst (IsFrontOf (t.dialogue ++ x ∷ xs)) parts front)) in
      let behind : IsFrontOf (p.dialogue ++ xs) (with_reply_taken e (answered n u e p) p ys n).dialogue = subst (λ l. IsFrontOf l (with_reply_taken e (answered n u e p) p ys n).dialogue) (ap (λ z. t.dialogue ++ z ∷ xs) (sym first) ∙ sym (append_assoc t.dialogue (e ∷ []) xs)) front in
      let asked : IsFrontOf (p.dialogue ++ xs) (with_reply_taken e (answered n u e p) p (replies_to i (e ∷ xs)) n).dialogue = subst (λ z. IsFrontOf (p.dialogue ++ xs) (with_reply_taken e (answered n u e p) p (replies_to i (z ∷ xs)) n).dialogue) (sym first) behind in
      let rest = answer_events (events n) u e p (event_answer i e) in
      subst (λ z. IsFrontOf (z ∷ xs) (e ∷ rest)) first (front_after e xs rest (answer_reaches n u e p rec xs (event_answer i e) asked))

  turn_reaches : (n : ℕ) → Reaches n → (s : S) (t : Past) (i : Supply) (d : List Event) (a : Answer S X) → m.step s (choice_at cs t.used) ≡ a → IsReached (suc n) s t i d → IsFrontOf d (turn_events (events n) t i a)
  turn_reaches n rec s t i d (Ran u) is h =
      rec u (after_ran t) i d (subst (λ (v : SeenRun). IsFrontOf (t.dialogue ++ d) v.dialogue) (turn_ran m cs why s t (replies_to i d) n u is) h)
  turn_reaches n rec s t i d (Asks e u) is h = asked_reaches n rec s u e t i d is h
  turn_reaches n rec s t i d Ends is h =
      front_rest t.dialogue d (End ∷ []) (subst (λ (v : SeenRun). IsFrontOf (t.dialogue ++ d) v.dialogue) (turn_ended m cs why s t (replies_to i d) n is) h)
  turn_reaches n rec s t i d (Stops x) is h =
      subst (λ l. IsFrontOf l []) (sym (front_of_less t.dialogue d (subst (λ (v : SeenRun). IsFrontOf (t.dialogue ++ d) v.dialogue) (turn_stopped m cs why s t (replies_to i d) n x is) h))) (front_nothing [])

  events_reach : (n : ℕ) → Reaches n
  events_reach zero s t i d h = subst (λ l. IsFrontOf l []) (sym (front_of_less t.dialogue d h)) (front_nothing [])
  events_reach (suc n) s t i d h = turn_reaches n (events_reach n) s t i d (m.step s (choice_at cs t.used)) refl h

  -- what a machine has said is the dialogue of these events
  turn_holds : (n : ℕ) → ((s : S) (t : Past) (i : Supply) → Holds n s t i (events n s t i)) → (s : S) (t : Past) (i : Supply) (a : Answer S X) → m.step s (choice_at cs t.used) ≡ a → Holds (suc n) s t i (turn_events (events n) t i a)
  turn_holds n rec s t i (Ran u) is =
      let d = events n u (after_ran t) i in
      ap (λ (v : SeenRun). v.dialogue) (turn_ran m cs why s t (replies_to i d) n u is) ∙ rec u (after_ran t) i
  turn_holds n rec s t i (Asks e u) is =
      let p = after_asked t e in
      let rest = answer_events (events n) u e p (event_answer i e) in
      ap (λ (v : SeenRun). v.dialogue) (turn_asked m cs why s u e t (replies_to i (e ∷ rest)) n is)
      ∙ answer_holds n u e p rec (event_answer i e)
      ∙ append_assoc t.dialogue (e ∷ []) rest
  turn_holds n rec s t i Ends is = ap (λ (v : SeenRun). v.dialogue) (turn_ended m cs why s t [] n is)
  turn_holds n rec s t i (Stops x) is =
      ap (λ (v : SeenRun). v.dialogue) (turn_stopped m cs why s t [] n x is) ∙ sym (append-nil t.dialogue)

  events_hold : (n : ℕ) (s : S) (t : Past) (i : Supply) → Holds n s t i (events n s t i)
  events_hold zero s t i = sym (append-nil t.dialogue)
  events_hold (suc n) s t i = turn_holds n (events_hold n) s t i (m.step s (choice_at cs t.used)) refl

  -- and of no others
  turn_only : (n : ℕ) → ((s : S) (t : Past) (i : Supply) (d : List Event) → Holds n s t i d → d ≡ events n s t i) → (s : S) (t : Past) (i : Supply) (d : List Event) (a : Answer S X) → m.step s (choice_at cs t.used) ≡ a → Holds (suc n) s t i d → d ≡ turn_events (events n) t i a
  turn_only n rec s t i d (Ran u) is h =
      rec u (after_ran t) i d (sym (ap (λ (v : SeenRun). v.dialogue) (turn_ran m cs why s t (replies_to i d) n u is)) ∙ h)
  turn_only n rec s t i d (Asks e u) is h =
      let p = after_asked t e in
      let said : (with_reply_taken e (answered n u e p) p (replies_to i d) n).dialogue ≡ t.dialogue ++ d = sym (ap (λ (v : SeenRun). v.dialogue) (turn_asked m cs why s u e t (replies_to i d) n is)) ∙ h in
      let front = taken_grows n u e p (replies_to i d) in
      let rest : List Event = front.0 in
      let begins : d ≡ e ∷ rest = append_cancel_left t.dialogue d (e ∷ rest) (sym said ∙ front.1 ∙ append_assoc t.dialogue (e ∷ []) rest) in
      let left : (with_reply_taken e (answered n u e p) p (replies_to i (e ∷ rest)) n).dialogue ≡ p.dialogue ++ rest = ap (λ l. (with_reply_taken e (answered n u e p) p (replies_to i l) n).dialogue) (sym begins) ∙ front.1 in
      begins ∙ ap (λ l. e ∷ l) (answer_only n u e p rec rest (event_answer i e) left)
  turn_only n rec s t i d Ends is h =
      append_cancel_left t.dialogue d (End ∷ []) (sym h ∙ ap (λ (v : SeenRun). v.dialogue) (turn_ended m cs why s t (replies_to i d) n is))
  turn_only n rec s t i d (Stops x) is h =
      adds_nothing t.dialogue d (sym (ap (λ (v : SeenRun). v.dialogue) (turn_stopped m cs why s t (replies_to i d) n x is)) ∙ h)

  events_only : (n : ℕ) (s : S) (t : Past) (i : Supply) (d : List Event) → Holds n s t i d → d ≡ events n s t i
  events_only zero s t i d h = adds_nothing t.dialogue d h
  events_only (suc n) s t i d h = turn_only n (events_only n) s t i d (m.step s (choice_at cs t.used)) refl h

  -- they grow
  reply_grow : (f g : S → Past → Supply → List Event) → ((s : S) (t : Past) (i : Supply) → IsFrontOf (f s t i) (g s t i)) → (u : S) (e : Event) (t : Past) (a : EventAnswer) (left : Supply) → IsFrontOf (reply_events f u e t a left) (reply_events g u e t a left)
  reply_grow f g h u e t (Replies y) left = by_fit (fits_event e y)
    where
      s : S
      s = m.replied u e y (choice_at cs t.used)

      by_fit : (b : Bool) → IsFrontOf (cond b (f s (after_ran t) left) []) (cond b (g s (after_ran t) left) [])
      by_fit true = h s (after_ran t) left
      by_fit false = front_same []
  reply_grow f g h u e t InputEnded left = front_same []
  reply_grow f g h u e t (NoDrive function) left = front_same []

  answer_grow : (f g : S → Past → Supply → List Event) → ((s : S) (t : Past) (i : Supply) → IsFrontOf (f s t i) (g s t i)) → (u : S) (e : Event) (t : Past) (a : Option EventAnswered) → IsFrontOf (answer_events f u e t a) (answer_events g u e t a)
  answer_grow f g h u e t None = front_same []
  answer_grow f g h u e t (Some a) = reply_grow f g h u e t a.answer a.left

  turn_grow : (f g : S → Past → Supply → List Event) → ((s : S) (t : Past) (i : Supply) → IsFrontOf (f s t i) (g s t i)) → (t : Past) (i : Supply) (a : Answer S X) → IsFrontOf (turn_events f t i a) (turn_events g t i a)
  turn_grow f g h t i (Ran u) = h u (after_ran t) i
  turn_grow f g h t i (Asks e u) =
      let p = after_asked t e in
      let a = event_answer i e in
      front_after e (answer_events f u e p a) (answer_events g u e p a) (answer_grow f g h u e p a)
  turn_grow f g h t i Ends = front_same (End ∷ [])
  turn_grow f g h t i (Stops x) = front_same []

  events_grow : (j k : ℕ) (s : S) (t : Past) (i : Supply) → IsFrontOf (events j s t i) (events (j + k) s t i)
  events_grow zero k s t i = front_nothing (events (0 + k) s t i)
  events_grow (suc j) k s t i =
      let e : suc (j + k) ≡ suc j + k = omega arith in
      subst (λ n. IsFrontOf (events (suc j) s t i) (events n s t i)) e (turn_grow (events j) (events (j + k)) (events_grow j k) t i (m.step s (choice_at cs t.used)))

  module _ (s : S) where
    abbrev course : List Reply → ℕ → SeenRun
    course = course_from m cs why s no_past

    said : (i : Supply) (n : ℕ) (v : SeenRun) → IsRunAfter course i n v → v.dialogue ≡ events n s no_past i
    said i n v at = events_only n s no_past i v.dialogue (sym (ap (λ (v : SeenRun). v.dialogue) at))

    pub one_run : HasOneRun (course_from m cs why s no_past)
    one_run = record {
      some = λ i n. (
        course (replies_to i (events n s no_past i)) n,
        ap (λ d. course (replies_to i d) n) (sym (events_hold n s no_past i)),
      );
      one = λ i n v w x y. x ∙ ap (λ d. course (replies_to i d) n) (said i n v x ∙ sym (said i n w y)) ∙ sym y;
      grows = λ i j n v w le x y.
          let e : j + (n - j) ≡ n = omega (arith, le) in
          let front : IsFrontOf (events j s no_past i) (events n s no_past i) = subst (λ k. IsFrontOf (events j s no_past i) (events k s no_past i)) e (events_grow j (n - j) s no_past i) in
          subst (λ d. IsFrontOf d w.dialogue) (sym (said i j v x)) (subst (IsFrontOf (events j s no_past i)) (sym (said i n w y)) front);
      stays = λ ys j n le halted.
          let e : j + (n - j) ≡ n = omega (arith, le) in
          let r : Run S X = record { state = s; status = Going; dialogue = []; replies = ys; used = 0 } in
          let still : IsStill (turns m cs j r).status = halted_is_still (why (turns m cs j r).state) (turns m cs j r).status halted in
          ap (seen why) (ap (λ k. turns m cs k r) (sym e) ∙ turns_add m cs j (n - j) r ∙ still_turns m cs (n - j) (turns m cs j r) still);
      reaches = λ i n d v h at. subst (IsFrontOf d) (sym (said i n v at)) (events_reach n s no_past i d h);
    }
