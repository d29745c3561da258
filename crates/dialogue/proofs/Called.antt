-- Calls of a machine are turns of its run, whatever replies come later.
use Rattle.std.proofs.Common.{◌≡◌, ℕ, suc, ◌+◌, Bool, true, false, cond, List, [], ◌∷◌, ◌++◌, Option, Some, None, refl, sym, ap, ◌∙◌, subst, arith, append_assoc}
use Rattle.std.proofs.lemmas.List.{append-nil}
use Rattle.std.proofs.lemmas.Option.{same_Some}
use Rattle.dialogue.specs.declared.request.Reply.{Reply}
use Rattle.dialogue.specs.declared.request.Event.{Event}
use Rattle.dialogue.specs.declared.request.Event.TheVariants.{Call, In, Out, End}
use Rattle.dialogue.specs.Fits.{fits_event}
use Rattle.dialogue.specs.Run.{Answer, Ran, Asks, Ends, Stops, Machine, Status, Going, Waiting, Over, Stopped, Run, choice_at, turn, turns, settle, take_reply, start_run}
use Rattle.dialogue.specs.Calls.{Standing, settled, stepped_by, replied_by, IsStepTold, IsTaken}
use Rattle.dialogue.specs.Histories.{Calls, started, ran, asked, took, ended, stopped, asked_again, ended_again, stopped_again, refused, IsRunAt}
use Rattle.dialogue.proofs.Turns.{turns_add}

-- what a step's answer tells
module _ {S X : Type 0} where
  settled_told : (s : S) (a : Answer S X) → IsStepTold a (settled s a).0 s (settled s a).1
  settled_told s (Ran t) = (refl, refl)
  settled_told s (Asks e t) = (e, (refl, refl))
  settled_told s Ends = (refl, refl)
  settled_told s (Stops why) = (refl, refl)

  pub told : (a : Answer S X) (r : Status X) (s : S) (y : Standing S) → (r, y) ≡ settled s a → IsStepTold a r s y
  told a r s y e = let P : Status X × Standing S → Type 0 = λ p. IsStepTold a p.0 s p.1 in subst P (sym e) (settled_told s a)

-- what a reply's answer tells
module _ {S : Type 0} (after : S → Event → Reply → ℕ → S) (e : Event) (y : Reply) (choice : ℕ) (s : S) (z : Standing S) where
  taken_from : (t b : Bool) → fits_event e y ≡ t → ◌≡◌ {A = Bool × Standing S} (b, z) (cond t (true, record { state = after s e y choice; said = None }) (false, record { state = s; said = Some e })) → IsTaken after e b y choice s z
  taken_from true b h g = let P : Bool × Standing S → Type 0 = λ q. IsTaken after e q.0 y choice s q.1 in subst P (sym g) (h, refl)
  taken_from false b h g = let P : Bool × Standing S → Type 0 = λ q. IsTaken after e q.0 y choice s q.1 in subst P (sym g) (h, refl)

  pub taken : (o : Option Event) (b : Bool) → o ≡ Some e → (b, z) ≡ replied_by after s y choice o → IsTaken after e b y choice s z
  taken o b h g = taken_from (fits_event e y) b refl (g ∙ ap (replied_by after s y choice) h)

-- a run as it stands
abbrev at_run : {S X : Type 0} → S → Status X → List Event → List Reply → ℕ → Run S X
at_run s status d ys u = record { state = s; status = status; dialogue = d; replies = ys; used = u }

module _ {S X : Type 0} (m : Machine S X) (cs : List ℕ) (s0 : S) where
  abbrev run_at : List Reply → ℕ → Run S X
  run_at ys n = turns m cs n (start_run s0 ys)

  -- how a run stands after calls, whatever replies come later: where it waits it takes the next of them
  abbrev Stands : Status X → List Event → List Reply → ℕ → ℕ → Standing S → Type 0
  Stands Going d ys n u x = (x.said ≡ None) × ((rest : List Reply) → run_at (ys ++ rest) n ≡ at_run x.state Going d rest u)
  Stands Waiting d ys n u x = (e : Event) × ((x.said ≡ Some e) × ((rest : List Reply) → run_at (ys ++ rest) n ≡ take_reply m cs (at_run x.state Going d rest u) e rest))
  Stands Over d ys n u x = (x.said ≡ Some End) × ((rest : List Reply) → run_at (ys ++ rest) n ≡ at_run x.state Over d rest u)
  Stands (Stopped why) d ys n u x = (x.said ≡ None) × ((rest : List Reply) → run_at (ys ++ rest) n ≡ at_run x.state (Stopped why) d rest u)

  turn_from : (ys rest : List Reply) (n u : ℕ) (s : S) (d : List Event) (a : Answer S X) → run_at ys n ≡ at_run s Going d rest u → m.step s (choice_at cs u) ≡ a → run_at ys (suc n) ≡ settle m cs (at_run s Going d rest u) a
  turn_from ys rest n u s d a e f =
      let one : suc n ≡ n + 1 = omega arith in
      ap (run_at ys) one ∙ turns_add m cs n 1 (start_run s0 ys)
      ∙ ap (turn m cs) e ∙ ap (settle m cs (at_run s Going d rest u)) f

  -- a step where nothing is open
  idle_step : (x y : Standing S) (answer : Status X) (choice : ℕ) → x.said ≡ None → (answer, y) ≡ stepped_by m.step x.state choice x.said → IsStepTold (m.step x.state choice) answer x.state y
  idle_step x y answer choice h g = told (m.step x.state choice) answer x.state y (g ∙ ap (stepped_by m.step x.state choice) h)

  open_step : (s : S) (y : Standing S) (e : Event) (answer : Status X) (choice : ℕ) → (answer, y) ≡ stepped_by m.step s choice (Some e) → y ≡ record { state = s; said = Some e }
  open_step s y (Call q) answer choice g = ap (λ (z : Status X × Standing S). z.1) g
  open_step s y (In port) answer choice g = ap (λ (z : Status X × Standing S). z.1) g
  open_step s y (Out port byte) answer choice g = ap (λ (z : Status X × Standing S). z.1) g
  open_step s y End answer choice g = ap (λ (z : Status X × Standing S). z.1) g

  stays_open : (x y : Standing S) (e : Event) (answer : Status X) (choice : ℕ) → x.said ≡ Some e → (answer, y) ≡ stepped_by m.step x.state choice x.said → y ≡ x
  stays_open x y e answer choice h g =
      open_step x.state y e answer choice (g ∙ ap (stepped_by m.step x.state choice) h)
      ∙ ap (λ (o : Option Event). record { state = x.state; said = o }) (sym h)

  stays_refused : (s : S) (y : Standing S) (o : Option Event) (reply : Reply) (choice : ℕ) → (false, y) ≡ replied_by m.replied s reply choice o → y ≡ record { state = s; said = o }
  stays_refused s y None reply choice g = ap (λ (z : Bool × Standing S). z.1) g
  stays_refused s y (Some e) reply choice g = (taken m.replied e reply choice s y (Some e) false refl g).1

  stands : (status : Status X) (d : List Event) (ys : List Reply) (n u : ℕ) (x : Standing S) → Calls m cs s0 status d ys n u x → Stands status d ys n u x
  stands _ _ _ _ _ _ started = (refl, λ rest. refl)
  stands _ _ _ _ _ _ (ran d ys n u x y before step) =
      let b = stands Going d ys n u x before in
      let t = idle_step x y _ (choice_at cs u) b.0 step in
      (t.1, λ rest. turn_from (ys ++ rest) rest n u x.state d (Ran y.state) (b.1 rest) t.0)
  stands _ _ _ _ _ _ (asked d ys n u x y e before step said) =
      let b = stands Going d ys n u x before in
      let t = idle_step x y _ (choice_at cs u) b.0 step in (
        e,
        (
          said,
          λ rest.
              turn_from (ys ++ rest) rest n u x.state d (Asks t.0 y.state) (b.1 rest) t.1.0
              ∙ ap (λ (v : Event). take_reply m cs (at_run y.state Going (d ++ v ∷ []) rest (suc u)) v rest) (same_Some t.0 e (sym t.1.1 ∙ said)),
        ),
      )
  stands _ _ _ _ _ _ (took d ys n u x y reply before is) =
      let b = stands Waiting d ys n u x before in
      let t = taken m.replied b.0 reply (choice_at cs u) x.state y x.said true b.1.0 is in (
        ap (λ (z : Standing S). z.said) t.1,
        λ rest.
            ap (λ zs. run_at zs n) (append_assoc ys (reply ∷ []) rest)
            ∙ b.1.1 (reply ∷ rest)
            ∙ ap (λ (v : Bool). cond v (at_run (m.replied x.state b.0 reply (choice_at cs u)) Going d rest (suc u)) (at_run x.state Waiting d (reply ∷ rest) u)) t.0
            ∙ ap (λ (z : Standing S). at_run z.state Going d rest (suc u)) (sym t.1),
      )
  stands _ _ _ _ _ _ (ended d ys n u x y before step) =
      let b = stands Going d ys n u x before in
      let t = idle_step x y _ (choice_at cs u) b.0 step in (
        ap (λ (z : Standing S). z.said) t.1,
        λ rest.
            turn_from (ys ++ rest) rest n u x.state d Ends (b.1 rest) t.0
            ∙ ap (λ (z : Standing S). at_run z.state Over (d ++ End ∷ []) rest u) (sym t.1),
      )
  stands _ _ _ _ _ _ (stopped d ys n u x y why before step) =
      let b = stands Going d ys n u x before in
      let t = idle_step x y (Stopped why) (choice_at cs u) b.0 step in (
        ap (λ (z : Standing S). z.said) t.1,
        λ rest.
            turn_from (ys ++ rest) rest n u x.state d (Stops why) (b.1 rest) t.0
            ∙ ap (λ (z : Standing S). at_run z.state (Stopped why) d rest u) (sym t.1),
      )
  stands _ _ _ _ _ _ (asked_again d ys n u x y answer choice before step) =
      let b = stands Waiting d ys n u x before in
      subst (Stands Waiting d ys n u) (sym (stays_open x y b.0 answer choice b.1.0 step)) b
  stands _ _ _ _ _ _ (ended_again d ys n u x y answer choice before step) =
      let b = stands Over d ys n u x before in
      subst (Stands Over d ys n u) (sym (stays_open x y End answer choice b.0 step)) b
  stands _ _ _ _ _ _ (stopped_again d ys n u x y why again choice before step) =
      let b = stands (Stopped why) d ys n u x before in
      let t = idle_step x y (Stopped again) choice b.0 step in
      subst (Stands (Stopped why) d ys n u) (sym (t.1 ∙ ap (λ (o : Option Event). record { state = x.state; said = o }) (sym b.0))) b
  stands _ _ _ _ _ _ (refused status d ys n u x y reply choice before is) =
      subst (Stands status d ys n u) (sym (stays_refused x.state y x.said reply choice is)) (stands status d ys n u x before)

  -- the run over the replies that were taken alone
  whole : (ys : List Reply) (n : ℕ) (run : List Reply → Run S X) → ((rest : List Reply) → run_at (ys ++ rest) n ≡ run rest) → run_at ys n ≡ run []
  whole ys n run h = ap (λ zs. run_at zs n) (sym (append-nil ys)) ∙ h []

  is_at : (r : Run S X) (status : Status X) (d : List Event) (s : S) (u : ℕ) → r ≡ at_run s status d [] u → IsRunAt r status d s
  is_at r status d s u e = record {
    same_state = ap (λ (x : Run S X). x.state) e;
    same_status = ap (λ (x : Run S X). x.status) e;
    same_dialogue = ap (λ (x : Run S X). x.dialogue) e;
    none_left = ap (λ (x : Run S X). x.replies) e;
  }

  at_end : (status : Status X) (d : List Event) (ys : List Reply) (n u : ℕ) (x : Standing S) → Stands status d ys n u x → IsRunAt (run_at ys n) status d x.state
  at_end Going d ys n u x h = is_at _ Going d x.state u (whole ys n (λ rest. at_run x.state Going d rest u) h.1)
  at_end Waiting d ys n u x h = is_at _ Waiting d x.state u (whole ys n (λ rest. take_reply m cs (at_run x.state Going d rest u) h.0 rest) h.1.1)
  at_end Over d ys n u x h = is_at _ Over d x.state u (whole ys n (λ rest. at_run x.state Over d rest u) h.1)
  at_end (Stopped why) d ys n u x h = is_at _ (Stopped why) d x.state u (whole ys n (λ rest. at_run x.state (Stopped why) d rest u) h.1)

  -- any calls give the run over the replies that were taken
  pub calls_run : (status : Status X) (d : List Event) (ys : List Reply) (n u : ℕ) (x : Standing S) → Calls m cs s0 status d ys n u x → IsRunAt (run_at ys n) status d x.state
  calls_run status d ys n u x h = at_end status d ys n u x (stands status d ys n u x h)
