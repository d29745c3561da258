-- Two runs of the 8086 go in step as long as the first finds instructions that the second finds too.
use Rattle.std.proofs.Common.{◌≡◌, ℕ, zero, suc, ◌⊎◌, List, [], ◌∷◌, Option, Some, None, refl, sym, ap, ◌∙◌, subst, inl, inr}
use Rattle.std.proofs.lemmas.List.{append-nil}
use Rattle.dialogue.specs.declared.request.Reply.{Reply}
use Rattle.dialogue.specs.declared.request.Event.{Event}
use Rattle.dialogue.specs.Run.{Answer, Ran, Asks, Ends, Stops, Status, Going, Waiting, Over, Stopped, Run, choice_at, take_reply, settle, turn_by, turn, turns, IsNotStopped, IsFrontOf}
use Rattle.dialogue.proofs.Turns.{turns_grow, still_turns, was_not_stopped}
use Rattle.i86.specs.declared.Instr86.{Instr86}
use Rattle.cpu86.specs.State.{State86}
use Rattle.cpu86.specs.Call.{Stop, NoInstruction}
use Rattle.cpu86.specs.Step.{act_at, machine86}

module _ (cs : List ℕ) (f g : ℕ → Option Instr86) (finds : (ip : ℕ) (i : Instr86) → f ip ≡ Some i → g ip ≡ Some i) where
  -- replies are taken in the same way
  taken_alike : (r : Run State86 Stop) (e : Event) (ys : List Reply) → take_reply (machine86 f) cs r e ys ≡ take_reply (machine86 g) cs r e ys
  taken_alike r e [] = refl
  taken_alike r e (y ∷ ys) = refl

  settled_alike : (r : Run State86 Stop) (a : Answer State86 Stop) → settle (machine86 f) cs r a ≡ settle (machine86 g) cs r a
  settled_alike r (Ran s) = refl
  settled_alike r (Asks e s) = taken_alike _ e r.replies
  settled_alike r Ends = refl
  settled_alike r (Stops x) = refl

  abbrev stopped : Run State86 Stop → Run State86 Stop
  stopped r = record r { status = Stopped (NoInstruction r.state.ip) }

  -- one turn: the same, or the first stops for want of an instruction
  goes : (r : Run State86 Stop) (o : Option Instr86) → f r.state.ip ≡ o → (turn_by (machine86 f) cs r Going ≡ turn_by (machine86 g) cs r Going) ⊎ (turn_by (machine86 f) cs r Going ≡ stopped r)
  goes r None e = inr (ap (λ o. settle (machine86 f) cs r (act_at o r.state (choice_at cs r.used))) e)
  goes r (Some i) e =
      inl (ap (λ o. settle (machine86 f) cs r (act_at o r.state (choice_at cs r.used))) (e ∙ sym (finds r.state.ip i e))
      ∙ settled_alike r (act_at (g r.state.ip) r.state (choice_at cs r.used)))

  one_turn : (r : Run State86 Stop) (st : Status Stop) → (turn_by (machine86 f) cs r st ≡ turn_by (machine86 g) cs r st) ⊎ (turn_by (machine86 f) cs r st ≡ stopped r)
  one_turn r Going = goes r (f r.state.ip) refl
  one_turn r Waiting = inl refl
  one_turn r Over = inl refl
  one_turn r (Stopped x) = inl refl

  -- as long as the first has not stopped, the runs are the same
  pub in_step : (n : ℕ) (r : Run State86 Stop) → IsNotStopped (turns (machine86 f) cs n r).status → turns (machine86 f) cs n r ≡ turns (machine86 g) cs n r
  in_step zero r h = refl
  in_step (suc n) r h = elim (one_turn r r.status) [
    | inl e ↦ in_step n (turn (machine86 f) cs r) h ∙ ap (turns (machine86 g) cs n) e
    | inr e ↦ absurd (subst (λ z. IsNotStopped z.status) e (was_not_stopped (machine86 f) cs n (turn (machine86 f) cs r) h))
  ]

  -- and once it has, it says no more
  pub says_no_more : (n : ℕ) (r : Run State86 Stop) → IsFrontOf (turns (machine86 f) cs n r).dialogue (turns (machine86 g) cs n r).dialogue
  says_no_more zero r = ([], sym (append-nil r.dialogue))
  says_no_more (suc n) r = elim (one_turn r r.status) [
    | inl e ↦ subst (λ z. IsFrontOf (turns (machine86 f) cs n (turn (machine86 f) cs r)).dialogue (turns (machine86 g) cs n z).dialogue) e (says_no_more n (turn (machine86 f) cs r))
    | inr e ↦
        let still : turns (machine86 f) cs n (turn (machine86 f) cs r) ≡ stopped r = ap (turns (machine86 f) cs n) e ∙ still_turns (machine86 f) cs n (stopped r) tt in
        subst (λ z. IsFrontOf z.dialogue (turns (machine86 g) cs (suc n) r).dialogue) (sym still) (turns_grow (machine86 g) cs (suc n) r)
  ]
