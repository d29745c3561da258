-- Turns put together to a run over devices.
use Rattle.std.proofs.Common.{◌≡◌, ℕ, suc, ◌+◌, ◌-◌, ◌≤◌, List, [], ◌∷◌, ◌++◌, refl, sym, ap, ◌∙◌, subst, arith, append_assoc}
use Rattle.std.specs.Prelude.{All}
use Rattle.std.proofs.lemmas.List.{append-nil}
use Rattle.std.proofs.lemmas.List.Elements.{All-nil, All-append}
use Rattle.dialogue.specs.Run.{Going, Stopped, IsNotStopped}
use Rattle.host.specs.Host.{HostState, said_more, SameFaults}
use Rattle.host.proofs.HostLemmas.{SameFaults-trans, fault_after}
use Rattle.dialogue.specs.declared.request.Event.{Event}
use Rattle.bdos_small.specs.Supply.{Supply}
use Rattle.emulator_loop.specs.declared.emulator.Why.{Why}
use Rattle.emulator_loop.specs.declared.fault.TalkFault.{TalkFault}
use Rattle.emulator_loop.specs.declared.fault.TalkFault.TheVariants.{Unsaid, Memory}
use Rattle.emulator_loop.specs.declared.running.Conversation.{Conversation}
use Rattle.emulator_loop.specs.declared.running.RunEnd.{RunEnd}
use Rattle.emulator_loop.specs.declared.running.RunEnd.TheVariants.{Ended, Stopped as HasStopped, StepLimit, InputEnded, NoDrive}
use Rattle.emulator_loop.specs.Lines.{event_lines}
use Rattle.dialogue.specs.Replies.{IsReply}
use Rattle.emulator_loop.specs.Talk.{SeenRun, replies_to, end_of_refusal, left_after, IsRunAfter, HasOneRun, Ran, RunsNoMore, at_limit, is_over, waits, stops, IsCause, IsOutcome, SaysRun, HasFirst, SaysFirst, SaysCut, IsCutOff}
use Rattle.emulator_loop.specs.Turns.{Course, no_past, standing_so, BeginsCourse}
use Rattle.emulator_loop.specs.Advance.{Advance, IsEnd, steps_after_turn, Rest, DialogueGrows, SaysTurn, CutsTurn, IsTurnCutOff}
use Rattle.emulator_loop.proofs.Said.{event_lines-append, says_nothing, says_then}
use Rattle.emulator_loop.proofs.Exact.{going_before, outcome_one, first_at_limit}

pub advance_none : (prefix : List ℕ) (c : Course) (supply : Supply) (h : HostState) → Advance prefix 0 c c supply supply h h
advance_none prefix c supply h = record {
  events = [];
  taken = [];
  next = λ t. t;
  dialogue = λ t. sym (append-nil t.dialogue);
  goes = λ t ys n. let e : 0 + n ≡ n = omega arith in ap (c t ys) e;
  replies = λ es. refl;
  refuses = λ es. refl;
  leaves = λ es. refl;
  lawful = All-nil IsReply;
  says = says_nothing h;
}

pub advance_then : (prefix : List ℕ) (j : ℕ) (a b c : Course) (i l r : Supply) (f g h : HostState) → Advance prefix j a b i l f g → Advance prefix 1 b c l r g h → Advance prefix (j + 1) a c i r f h
advance_then prefix j a b c i l r f g h x y = record {
  events = x.events ++ y.events;
  taken = x.taken ++ y.taken;
  next = λ t. y.next (x.next t);
  dialogue = λ t. y.dialogue (x.next t) ∙ ap (λ d. d ++ y.events) (x.dialogue t) ∙ append_assoc t.dialogue x.events y.events;
  goes = λ t ys n.
      let e : j + 1 + n ≡ j + (1 + n) = omega arith in
      ap (λ zs. a t zs (j + 1 + n)) (append_assoc x.taken y.taken ys)
      ∙ ap (a t (x.taken ++ (y.taken ++ ys))) e
      ∙ x.goes t (y.taken ++ ys) (1 + n)
      ∙ y.goes (x.next t) ys n;
  replies = λ es.
      ap (replies_to i) (append_assoc x.events y.events es)
      ∙ x.replies (y.events ++ es)
      ∙ ap (λ ys. x.taken ++ ys) (y.replies es)
      ∙ sym (append_assoc x.taken y.taken (replies_to r es));
  refuses = λ es. ap (end_of_refusal i) (append_assoc x.events y.events es) ∙ x.refuses (y.events ++ es) ∙ y.refuses es;
  leaves = λ es. ap (left_after i) (append_assoc x.events y.events es) ∙ x.leaves (y.events ++ es) ∙ y.leaves es;
  lawful = All-append IsReply x.taken y.taken x.lawful y.lawful;
  says = says_then f g h (event_lines prefix x.events) (event_lines prefix y.events) x.says y.says ∙ ap (said_more f.said) (sym (event_lines-append prefix x.events y.events));
}

module _ (prefix : List ℕ) (c b : Course) (one : HasOneRun (c no_past)) (supply left : Supply) (old mid new : HostState) (j : ℕ) (x : Advance prefix j c b supply left old mid) where
  -- where it goes on
  pub reached : BeginsCourse b → IsRunAfter (c no_past) supply j (standing_so Going x.events)
  reached begins =
      let e : j + 0 ≡ j = omega arith in
      let ys : replies_to supply x.events ≡ x.taken ++ [] = ap (replies_to supply) (sym (append-nil x.events)) ∙ x.replies [] in
      sym (
      ap (λ zs. c no_past zs j) ys
      ∙ ap (c no_past (x.taken ++ [])) (sym e)
      ∙ x.goes no_past [] 0
      ∙ begins (x.next no_past) []
      ∙ ap (standing_so Going) (x.dialogue no_past))

  -- which has said all of this, and goes on at each turn before
  went_on : BeginsCourse b → (i : ℕ) (v : SeenRun) → i ≤ j → IsRunAfter (c no_past) supply i v → v.status ≡ Going
  went_on begins i v le at = going_before (c no_past) one supply i j v (standing_so Going x.events) le at (reached begins) refl

  replied : All IsReply (replies_to supply x.events)
  replied =
      let ys : replies_to supply x.events ≡ x.taken ++ [] = ap (replies_to supply) (sym (append-nil x.events)) ∙ x.replies [] in
      subst (All IsReply) (sym (ys ∙ append-nil x.taken)) x.lawful

  module _ (begins : BeginsCourse b) where
    all_ran : Ran (c no_past) supply j j
    all_ran = record {
      within = omega arith;
      run = standing_so Going x.events;
      at = reached begins;
      not_stopped = tt;
      went_on = λ i v lt at. went_on begins i v (omega (arith, lt)) at;
      no_more = at_limit refl;
      whole = λ v at. ap (λ (u : SeenRun). u.dialogue) (one.one supply j v (standing_so Going x.events) at (reached begins));
    }

    pub says_limit : SaysRun (c no_past) supply j prefix (record { end = StepLimit; steps = j }) left old mid
    says_limit =
        let o : Conversation = record { end = StepLimit; steps = j } in
        let outcome : IsOutcome (c no_past) supply j o (standing_so Going x.events) = record { at = reached begins; cause = refl; ran = all_ran } in
        record {
          run = standing_so Going x.events;
          outcome = outcome;
          only = outcome_one (c no_past) one supply j o (standing_so Going x.events) outcome;
          says = x.says;
          leaves = sym (ap (left_after supply) (sym (append-nil x.events)) ∙ x.leaves []);
          replies = replied;
        }

  -- where it comes to an end
  module _ (o : RunEnd) (limit : ℕ) (begins : BeginsCourse b) (within : suc j ≤ limit) (last : Supply) (y : Rest prefix o b left last mid new) where
    abbrev final : SeenRun
    final = standing_so y.status (x.events ++ y.events)

    no_more_replies : replies_to supply (x.events ++ y.events) ≡ x.taken ++ []
    no_more_replies = x.replies y.events ∙ ap (λ zs. x.taken ++ zs) y.none

    rests : (m : ℕ) → final ≡ c no_past (replies_to supply (x.events ++ y.events)) (j + suc m)
    rests m =
        let is : c no_past (replies_to supply (x.events ++ y.events)) (j + suc m) ≡ final = ap (λ zs. c no_past zs (j + suc m)) no_more_replies ∙ x.goes no_past [] (suc m) ∙ y.goes (x.next no_past) m ∙ ap (λ d. standing_so y.status (d ++ y.events)) (x.dialogue no_past) in
        sym is

    rests_at : (n m : ℕ) → j + suc m ≡ n → IsRunAfter (c no_past) supply n final
    rests_at n m e = rests m ∙ ap (c no_past (replies_to supply (x.events ++ y.events))) e

    next_at : IsRunAfter (c no_past) supply (suc j) final
    next_at = rests_at (suc j) 0 (let f : j + 1 ≡ suc j = omega arith in f)

    last_at : IsRunAfter (c no_past) supply limit final
    last_at =
        let m = limit - suc j in
        let all : j + suc m ≡ limit = omega (arith, within) in
        rests_at limit m all

    -- the last instruction is counted
    ran_next : IsNotStopped y.status → RunsNoMore (c no_past) supply limit (suc j) final → Ran (c no_past) supply limit (suc j)
    ran_next not_stopped no_more = record {
      within = within;
      run = final;
      at = next_at;
      not_stopped = not_stopped;
      went_on = λ i v lt at. went_on begins i v (omega (arith, lt)) at;
      no_more = no_more;
      whole = λ v at. ap (λ (u : SeenRun). u.dialogue) (one.one supply limit v final at last_at);
    }

    -- or it stopped the machine
    ran_before : (why : Why) → y.status ≡ Stopped why → y.events ≡ [] → Ran (c no_past) supply limit j
    ran_before why is none = record {
      within = omega (arith, within);
      run = standing_so Going x.events;
      at = reached begins;
      not_stopped = tt;
      went_on = λ i v lt at. went_on begins i v (omega (arith, lt)) at;
      no_more = stops (record { why = why; last = final; within = within; at = next_at; stopped = is });
      whole = λ v at.
          ap (λ (u : SeenRun). u.dialogue) (one.one supply limit v final at last_at)
          ∙ ap (λ l. x.events ++ l) none
          ∙ append-nil x.events;
    }

    ran : (o : RunEnd) → IsEnd o y.status y.events (end_of_refusal left y.events) → Ran (c no_past) supply limit (steps_after_turn o j)
    ran Ended e = ran_next (subst IsNotStopped (sym e) tt) (is_over e)
    ran (HasStopped why) e = ran_before why e.0 e.1
    ran StepLimit e = absurd e
    ran InputEnded e = ran_next (subst IsNotStopped (sym e.0) tt) (waits e.0)
    ran (NoDrive function) e = ran_next (subst IsNotStopped (sym e.0) tt) (waits e.0)

    cause : (o : RunEnd) → IsEnd o y.status y.events (end_of_refusal left y.events) → IsCause (c no_past) supply limit o final
    cause Ended e = e
    cause (HasStopped why) e = e.0
    cause StepLimit e = absurd e
    cause InputEnded e = (e.0, x.refuses y.events ∙ e.1)
    cause (NoDrive function) e = (e.0, x.refuses y.events ∙ e.1)

    pub says_end : SaysRun (c no_past) supply limit prefix (record { end = o; steps = steps_after_turn o j }) last old new
    says_end =
        let all : Conversation = record { end = o; steps = steps_after_turn o j } in
        let outcome : IsOutcome (c no_past) supply limit all final = record { at = last_at; cause = cause o y.end; ran = ran o y.end } in
        record {
          run = final;
          outcome = outcome;
          only = outcome_one (c no_past) one supply limit all final outcome;
          says = says_then old mid new (event_lines prefix x.events) (event_lines prefix y.events) x.says y.says ∙ ap (said_more old.said) (sym (event_lines-append prefix x.events y.events));
          leaves = sym (x.leaves y.events ∙ y.leaves);
          replies = subst (All IsReply) (sym (no_more_replies ∙ append-nil x.taken)) x.lawful;
        }

  -- where a fault comes: the events up to it are the run's first
  first_events : (limit : ℕ) → suc j ≤ limit → (events : List Event) → DialogueGrows b events → HasFirst (c no_past) supply limit (x.events ++ events)
  first_events limit within events y =
      let run : SeenRun = c no_past (replies_to supply (x.events ++ events)) (j + y.turns) in
      let few : y.turns ≤ 1 = y.few in
      let goes : run ≡ b (x.next no_past) (replies_to left events) y.turns = ap (λ zs. c no_past zs (j + y.turns)) (x.replies events) ∙ x.goes no_past (replies_to left events) y.turns in
      let is : run.dialogue ≡ x.events ++ events = ap (λ (v : SeenRun). v.dialogue) goes ∙ y.dialogue (x.next no_past) (replies_to left events) ∙ ap (λ d. d ++ events) (x.dialogue no_past) in
      let within : j + y.turns ≤ limit = omega arith in
      subst (HasFirst (c no_past) supply limit) is (first_at_limit (c no_past) one supply limit (j + y.turns) within run (ap (λ d. c no_past (replies_to supply d) (j + y.turns)) (sym is)))

  says_first : (limit : ℕ) → suc j ≤ limit → SaysTurn prefix b mid new → SaysFirst (c no_past) supply limit prefix old new
  says_first limit within y = record {
    events = x.events ++ y.events;
    first = first_events limit within y.events y.grows;
    says = says_then old mid new (event_lines prefix x.events) (event_lines prefix y.events) x.says y.says ∙ ap (said_more old.said) (sym (event_lines-append prefix x.events y.events));
  }

  says_cut : (limit : ℕ) → suc j ≤ limit → CutsTurn prefix b mid new → SaysCut (c no_past) supply limit prefix old new
  says_cut limit within y = record {
    events = x.events;
    next = y.event;
    first = first_events limit within (y.event ∷ []) y.grows;
    mid = mid;
    says = x.says;
    cut = y.cut;
  }

  pub cut_off : (limit : ℕ) → suc j ≤ limit → SameFaults old mid → (fault : TalkFault) → IsTurnCutOff prefix b mid new fault → IsCutOff (c no_past) supply limit prefix old new fault
  cut_off limit within same (Unsaid fault) y = (says_cut limit within y.0, fault_after old mid new fault same y.1)
  cut_off limit within same Memory y = (says_first limit within y.0, SameFaults-trans same y.1)
