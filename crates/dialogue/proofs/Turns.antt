-- Turns of any machine: what grows, and what stays.
use Rattle.std.proofs.Common.{◌≡◌, ℕ, zero, suc, ◌+◌, ◌-◌, ◌≤◌, Bool, true, false, cond, List, [], ◌∷◌, ◌++◌, refl, sym, ap, ◌∙◌, subst, arith, append_assoc}
use Rattle.std.proofs.lemmas.List.{append-nil}
use Rattle.dialogue.specs.declared.request.Reply.{Reply}
use Rattle.dialogue.specs.declared.request.Event.{Event}
use Rattle.dialogue.specs.declared.request.Event.TheVariants.{End}
use Rattle.dialogue.specs.Fits.{fits_event}
use Rattle.dialogue.specs.Run.{Answer, Ran, Asks, Ends, Stops, Machine, Status, Going, Waiting, Over, Stopped, Run, choice_at, take_reply, settle, turn_by, turn, turns, IsNotStopped, IsFrontOf}

-- a run that does not go on
abbrev pub IsStill : {X : Type 0} → Status X → Type 0
IsStill Going = ⊥
IsStill Waiting = Unit {0}
IsStill Over = Unit {0}
IsStill (Stopped x) = Unit {0}

module _ {S X : Type 0} (m : Machine S X) (cs : List ℕ) where
  pub turns_add : (j k : ℕ) (r : Run S X) → turns m cs (j + k) r ≡ turns m cs k (turns m cs j r)
  turns_add zero k r = let e : 0 + k ≡ k = omega arith in ap (λ n. turns m cs n r) e
  turns_add (suc j) k r = let e : suc j + k ≡ suc (j + k) = omega arith in ap (λ n. turns m cs n r) e ∙ turns_add j k (turn m cs r)

  front_refl : (a : List Event) → IsFrontOf a a
  front_refl a = ([], sym (append-nil a))

  front_push : (a : List Event) (e : Event) → IsFrontOf a (a ++ e ∷ [])
  front_push a e = (e ∷ [], refl)

  pub front_trans : (a b c : List Event) → IsFrontOf a b → IsFrontOf b c → IsFrontOf a c
  front_trans a b c f g = (f.0 ++ g.0, g.1 ∙ ap (λ l. l ++ g.0) f.1 ∙ append_assoc a f.0 g.0)

  take_grows : (r : Run S X) (q : Event) (ys : List Reply) → r.dialogue ≡ (take_reply m cs r q ys).dialogue
  take_grows r q [] = refl
  take_grows r q (y ∷ ys) = by_fit (fits_event q y)
    where
      by_fit : (b : Bool) → r.dialogue ≡ (let out : Run S X = cond b (record r { state = m.replied r.state q y (choice_at cs r.used); replies = ys; used = suc r.used }) (record r { status = Waiting }) in out.dialogue)
      by_fit true = refl
      by_fit false = refl

  settle_grows : (r : Run S X) (a : Answer S X) → IsFrontOf r.dialogue (settle m cs r a).dialogue
  settle_grows r (Ran s) = front_refl r.dialogue
  settle_grows r (Asks q s) = (q ∷ [], sym (take_grows (record r { state = s; dialogue = r.dialogue ++ q ∷ []; used = suc r.used }) q r.replies))
  settle_grows r Ends = front_push r.dialogue End
  settle_grows r (Stops x) = front_refl r.dialogue

  by_grows : (r : Run S X) (st : Status X) → IsFrontOf r.dialogue (turn_by m cs r st).dialogue
  by_grows r Going = settle_grows r (m.step r.state (choice_at cs r.used))
  by_grows r Waiting = front_refl r.dialogue
  by_grows r Over = front_refl r.dialogue
  by_grows r (Stopped x) = front_refl r.dialogue

  pub turns_grow : (n : ℕ) (r : Run S X) → IsFrontOf r.dialogue (turns m cs n r).dialogue
  turns_grow zero r = front_refl r.dialogue
  turns_grow (suc n) r = front_trans _ (turn m cs r).dialogue _ (by_grows r r.status) (turns_grow n (turn m cs r))

  -- a run that does not go on stays as it is
  still_turn : (r : Run S X) (st : Status X) → r.status ≡ st → IsStill st → turn m cs r ≡ r
  still_turn r Going e h = absurd h
  still_turn r Waiting e h = ap (λ t. turn_by m cs r t) e
  still_turn r Over e h = ap (λ t. turn_by m cs r t) e
  still_turn r (Stopped x) e h = ap (λ t. turn_by m cs r t) e

  pub still_turns : (n : ℕ) (r : Run S X) → IsStill r.status → turns m cs n r ≡ r
  still_turns zero r h = refl
  still_turns (suc n) r h = let e = still_turn r r.status refl h in ap (turns m cs n) e ∙ still_turns n r h

  -- a run that has stopped had stopped
  by_not_stopped : (r : Run S X) (st : Status X) → r.status ≡ st → IsNotStopped (turn_by m cs r st).status → IsNotStopped st
  by_not_stopped r Going e h = tt
  by_not_stopped r Waiting e h = tt
  by_not_stopped r Over e h = tt
  by_not_stopped r (Stopped x) e h = subst IsNotStopped e h

  pub was_not_stopped : (n : ℕ) (r : Run S X) → IsNotStopped (turns m cs n r).status → IsNotStopped r.status
  was_not_stopped zero r h = h
  was_not_stopped (suc n) r h = by_not_stopped r r.status refl (was_not_stopped n (turn m cs r) h)

  pub not_stopped_below : (i n : ℕ) (r : Run S X) → i ≤ n → IsNotStopped (turns m cs n r).status → IsNotStopped (turns m cs i r).status
  not_stopped_below i n r le h =
      let e : i + (n - i) ≡ n = omega arith in
      was_not_stopped (n - i) (turns m cs i r) (subst (λ t. IsNotStopped t.status) (sym (ap (λ k. turns m cs k r) e) ∙ turns_add i (n - i) r) h)

  pub grows_between : (i n : ℕ) (r : Run S X) → i ≤ n → IsFrontOf (turns m cs i r).dialogue (turns m cs n r).dialogue
  grows_between i n r le =
      let e : i + (n - i) ≡ n = omega arith in
      subst (λ t. IsFrontOf (turns m cs i r).dialogue t.dialogue) (sym (turns_add i (n - i) r) ∙ ap (λ k. turns m cs k r) e) (turns_grow (n - i) (turns m cs i r))
