-- Steps of a machine that run on, as turns of a run.
use Rattle.std.proofs.Common.{◌≡◌, ℕ, zero, suc, ◌+◌, ◌-◌, ◌≤◌, ◌<◌, List, [], refl, sym, ap, ◌∙◌, subst, arith, ⊎_elim}
use Rattle.std.proofs.lemmas.Bool.{cases_lt}
use Rattle.cells.specs.declared.Rule.{Rule}
use Rattle.dialogue.specs.Run.{Machine, Run, Going, Stopped, choice_at, settle, turn_by, turn, turns, IsNotStopped}
use Rattle.dialogue.proofs.Turns.{turns_add, still_turns, not_stopped_below}
use Rattle.asm80_types.specs.Program.{Program}
use Rattle.cpu80_tagged.specs.State.{State80}
use Rattle.cpu80_tagged.specs.Step.{machine80}
use Rattle.simulation_def.specs.Steps.{RunsOn}
use Rattle.simulation_def.specs.Runs80.{BlockLeaves80}

module _ {S X : Type 0} (m : Machine S X) (cs : List ℕ) where
  -- a run after steps that run on
  abbrev pub moved : Run S X → S → ℕ → Run S X
  moved r t k = record r { state = t; used = k }

  pub turn_is : (r : Run S X) → r.status ≡ Going → turn m cs r ≡ settle m cs r (m.step r.state (choice_at cs r.used))
  turn_is r g = ap (λ st. turn_by m cs r st) g

  pub run_turns : (n : ℕ) (r : Run S X) (t : S) → r.status ≡ Going → RunsOn m cs n r.used r.state t → (k : ℕ) × (turns m cs n r ≡ moved r t k)
  run_turns zero r t g h = (r.used, ap (λ s. moved r s r.used) (sym h))
  run_turns (suc n) r t g h =
      let rest = run_turns n (moved r h.0 (suc r.used)) t g h.2 in
      (rest.0, ap (turns m cs n) (turn_is r g ∙ ap (settle m cs r) h.1) ∙ rest.1)

  -- no event joins the dialogue in them
  pub run_quiet : (n i : ℕ) (r : Run S X) (t : S) → r.status ≡ Going → RunsOn m cs n r.used r.state t → i ≤ n → (turns m cs i r).dialogue ≡ r.dialogue
  run_quiet n zero r t g h le = refl
  run_quiet zero (suc i) r t g h le = absurd (omega (arith, le))
  run_quiet (suc n) (suc i) r t g h le =
      ap (λ z. (turns m cs i z).dialogue) (turn_is r g ∙ ap (settle m cs r) h.1) ∙ run_quiet n i (moved r h.0 (suc r.used)) t g h.2 (omega (arith, le))

-- the tagged 8080 uses no choice
pub runs_any : (p : Program) (n used used' : ℕ) (s t : State80) → RunsOn (machine80 p) [] n used s t → RunsOn (machine80 p) [] n used' s t
runs_any p zero used used' s t h = h
runs_any p (suc n) used used' s t h = (h.0, h.1, runs_any p n (suc used) (suc used') h.0 t h.2)

-- a block in which the 8080 leaves the profile
module _ (p : Program) (count : ℕ) (x : Run State80 Rule) (going : x.status ≡ Going) (b : BlockLeaves80 p count x.state) where
  abbrev M : Machine State80 Rule
  M = machine80 p

  runs : RunsOn M [] b.before x.used x.state b.last
  runs = runs_any p b.before 0 x.used x.state b.last b.runs

  abbrev stopped : Run State80 Rule → Run State80 Rule
  stopped r = record r { status = Stopped b.rule }

  stops : (k : ℕ) × (turns M [] (b.before + 1) x ≡ stopped (moved M [] x b.last k))
  stops =
      let r = run_turns M [] b.before x b.last going runs in
      (r.0, turns_add M [] b.before 1 x ∙ ap (λ z. turns M [] 1 z) r.1 ∙ turn_is M [] (moved M [] x b.last r.0) going ∙ ap (settle M [] (moved M [] x b.last r.0)) b.stops)

  pub leaves_quiet : (i : ℕ) → i < count → (turns M [] i x).dialogue ≡ x.dialogue
  leaves_quiet i lt =
      ⊎_elim
      (λ near. run_quiet M [] b.before i x b.last going runs (omega (arith, near)))
      (λ far.
      let e : b.before + 1 + (i - (b.before + 1)) ≡ i = omega (arith, far) in
      ap (λ n. (turns M [] n x).dialogue) (sym e)
      ∙ ap (λ (z : Run State80 Rule). z.dialogue) (turns_add M [] (b.before + 1) (i - (b.before + 1)) x)
      ∙ ap (λ z. (turns M [] (i - (b.before + 1)) z).dialogue) stops.1
      ∙ ap (λ (z : Run State80 Rule). z.dialogue) (still_turns M [] (i - (b.before + 1)) (stopped (moved M [] x b.last stops.0)) tt))
      (cases_lt i (b.before + 1))

  pub leaves_stopped : IsNotStopped (turns M [] count x).status → ⊥
  leaves_stopped h =
      let w = b.within in
      subst (λ (z : Run State80 Rule). IsNotStopped z.status) stops.1 (not_stopped_below M [] (b.before + 1) count x (omega (arith, w)) h)
