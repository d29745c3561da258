-- Over devices there is one run, and it comes to one end.
use Rattle.std.proofs.Common.{◌≡◌, ℕ, suc, ◌≤◌, ◌<◌, List, [], refl, sym, ap, ◌∙◌, subst, arith}
use Rattle.std.proofs.lemmas.Bool.{cases_lt}
use Rattle.std.proofs.Common.{⊎_elim}
use Rattle.dialogue.specs.declared.request.Reply.{Reply}
use Rattle.dialogue.specs.Run.{Status, Going, Waiting, Over, Stopped, IsNotStopped}
use Rattle.host.specs.Host.{HostState}
use Rattle.bdos_small.specs.Supply.{Supply}
use Rattle.emulator_loop.specs.declared.emulator.Why.{Why}
use Rattle.emulator_loop.specs.declared.running.Conversation.{Conversation}
use Rattle.emulator_loop.specs.declared.running.RunEnd.{RunEnd}
use Rattle.emulator_loop.specs.declared.running.RunEnd.TheVariants.{Ended, Stopped as HasStopped, StepLimit, InputEnded, NoDrive}
use Rattle.emulator_loop.specs.Talk.{SeenRun, replies_to, IsRunAfter, HasOneRun, Ran, StopsNext, RunsNoMore, at_limit, is_over, waits, stops, IsCause, IsOutcome, HasFirst, SaysFirst}
use Rattle.emulator_loop.proofs.Said.{says_nothing}

conversation_is : (a b : Conversation) → a.end ≡ b.end → a.steps ≡ b.steps → a ≡ b
conversation_is a b e s = ap (λ x. record a { end = x }) e ∙ ap (λ n. record b { steps = n }) s

module _ (course : List Reply → ℕ → SeenRun) (single : HasOneRun course) (supply : Supply) where
  -- a run that does not go on stays as it is
  pub stays_at : (i n : ℕ) (v : SeenRun) → i ≤ n → IsRunAfter course supply i v → (v.status ≡ Going → ⊥) → IsRunAfter course supply n v
  stays_at i n v le at halted =
      at ∙ sym (single.stays (replies_to supply v.dialogue) i n le (λ going. halted (ap (λ (x : SeenRun). x.status) at ∙ going)))

  -- so one that goes on went on before
  pub going_before : (i n : ℕ) (v w : SeenRun) → i ≤ n → IsRunAfter course supply i v → IsRunAfter course supply n w → w.status ≡ Going → v.status ≡ Going
  going_before i n v w le x y going = by_status v.status refl
    where
      same : (v.status ≡ Going → ⊥) → v.status ≡ Going
      same halted = ap (λ (u : SeenRun). u.status) (single.one supply n v w (stays_at i n v le x halted) y) ∙ going

      by_status : (st : Status Why) → v.status ≡ st → v.status ≡ Going
      by_status Going e = e
      by_status Waiting e = same (λ g. let f : Waiting ≡ Going = sym e ∙ g in cc)
      by_status Over e = same (λ g. let f : Over ≡ Going = sym e ∙ g in cc)
      by_status (Stopped why) e = same (λ g. let f : Stopped why ≡ Going = sym e ∙ g in cc)

  module _ (limit : ℕ) where
    -- after more instructions than ran none runs
    module _ (a b : ℕ) (x : Ran course supply limit a) (y : Ran course supply limit b) (lt : a < b) where
      went : x.run.status ≡ Going
      went = y.went_on a x.run lt x.at

      stopped_next : StopsNext course supply limit a → ⊥
      stopped_next z = ⊎_elim before at_last (cases_lt (suc a) b)
        where
          before : suc a < b → ⊥
          before less = let f : Stopped z.why ≡ Going = sym z.stopped ∙ y.went_on (suc a) z.last less z.at in cc

          at_last : b ≤ suc a → ⊥
          at_last le =
              let same : suc a ≡ b = omega (arith, lt, le) in
              let last : z.last ≡ y.run = single.one supply b z.last y.run (subst (λ n. IsRunAfter course supply n z.last) same z.at) y.at in
              subst IsNotStopped (ap (λ (u : SeenRun). u.status) (sym last) ∙ z.stopped) y.not_stopped

      not_more : RunsNoMore course supply limit a x.run → ⊥
      not_more (at_limit e) = let within = y.within in let none : ⊥ = omega (arith, lt, e, within) in none
      not_more (is_over e) = let f : Over ≡ Going = sym e ∙ went in cc
      not_more (waits e) = let f : Waiting ≡ Going = sym e ∙ went in cc
      not_more (stops z) = stopped_next z

    -- one number of instructions ran
    pub ran_one : (a b : ℕ) → Ran course supply limit a → Ran course supply limit b → a ≡ b
    ran_one a b x y =
        ⊎_elim
        (λ lt. absurd (not_more a b x y lt x.no_more))
        (λ ge. ⊎_elim (λ lt. absurd (not_more b a y x lt y.no_more)) (λ le. omega (arith, ge, le)) (cases_lt b a))
        (cases_lt a b)

    -- one run has one cause
    cause_one : (v : SeenRun) (o e : RunEnd) → IsCause course supply limit o v → IsCause course supply limit e v → e ≡ o
    cause_one v Ended Ended x y = refl
    cause_one v Ended (HasStopped why) x y = cc
    cause_one v Ended StepLimit x y = cc
    cause_one v Ended InputEnded x y = let t = y.0 in cc
    cause_one v Ended (NoDrive f) x y = let t = y.0 in cc
    cause_one v (HasStopped why) Ended x y = cc
    cause_one v (HasStopped why) (HasStopped other) x y = cc
    cause_one v (HasStopped why) StepLimit x y = cc
    cause_one v (HasStopped why) InputEnded x y = let t = y.0 in cc
    cause_one v (HasStopped why) (NoDrive f) x y = let t = y.0 in cc
    cause_one v StepLimit Ended x y = cc
    cause_one v StepLimit (HasStopped other) x y = cc
    cause_one v StepLimit StepLimit x y = refl
    cause_one v StepLimit InputEnded x y = let t = y.0 in cc
    cause_one v StepLimit (NoDrive f) x y = let t = y.0 in cc
    cause_one v InputEnded Ended x y = let s = x.0 in cc
    cause_one v InputEnded (HasStopped other) x y = let s = x.0 in cc
    cause_one v InputEnded StepLimit x y = let s = x.0 in cc
    cause_one v InputEnded InputEnded x y = refl
    cause_one v InputEnded (NoDrive f) x y = let s = x.1 in let t = y.1 in cc
    cause_one v (NoDrive f) Ended x y = let s = x.0 in cc
    cause_one v (NoDrive f) (HasStopped other) x y = let s = x.0 in cc
    cause_one v (NoDrive f) StepLimit x y = let s = x.0 in cc
    cause_one v (NoDrive f) InputEnded x y = let s = x.1 in let t = y.1 in cc
    cause_one v (NoDrive f) (NoDrive k) x y = let s = x.1 in let t = y.1 in cc

    pub outcome_one : (o : Conversation) (v : SeenRun) → IsOutcome course supply limit o v → (e : Conversation) (w : SeenRun) → IsOutcome course supply limit e w → (e ≡ o) × (w ≡ v)
    outcome_one o v x e w y =
        let same : w ≡ v = single.one supply limit w v y.at x.at in
        let end : e.end ≡ o.end = cause_one v o.end e.end x.cause (subst (IsCause course supply limit e.end) same y.cause) in
        (conversation_is e o end (ran_one e.steps o.steps y.ran x.ran), same)

    -- the events of an earlier turn are the first of the run at the limit
    pub first_at_limit : (n : ℕ) → n ≤ limit → (v : SeenRun) → IsRunAfter course supply n v → HasFirst course supply limit v.dialogue
    first_at_limit n le v at =
        let last = single.some supply limit in
        record {
          run = last.0;
          at = last.1;
          only = λ u is. single.one supply limit u last.0 is last.1;
          front = single.grows supply n limit v last.0 le at last.1;
        }

    -- before anything is said
    pub says_none : (prefix : List ℕ) (h : HostState) → SaysFirst course supply limit prefix h h
    says_none prefix h =
        let last = single.some supply limit in
        record {
          events = [];
          first = record {
            run = last.0;
            at = last.1;
            only = λ u is. single.one supply limit u last.0 is last.1;
            front = (last.0.dialogue, refl);
          };
          says = says_nothing h;
        }
