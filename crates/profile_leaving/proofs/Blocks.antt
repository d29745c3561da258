-- Where a run stands after the front of a block.
use Rattle.std.proofs.Common.{◌≡◌, ◌∙◌, ℕ, zero, suc, ◌+◌, ◌-◌, ◌<◌, ◌≤◌, cond, List, [], Option, Some, refl, sym, ap, subst, arith, ◌⊎◌, inl, inr}
use Rattle.std.specs.Prelude.{is_some}
use Rattle.std.proofs.lemmas.Bool.{false≢true}
use Rattle.cells.specs.declared.Place.TheVariants.{At}
use Rattle.cells.specs.declared.Cell.TheVariants.{Num}
use Rattle.cells.specs.declared.Rule.{Rule}
use Rattle.i80.specs.declared.Reg.TheVariants.{C}
use Rattle.i80.specs.Columns.{length80}
use Rattle.dialogue.specs.Run.{Run, Going, IsNotStopped, Status, Waiting, Over, Stopped, settle}
use Rattle.dialogue.proofs.Turns.{turns_add}
use Rattle.asm80_types.specs.Program.{Program, IsProgram}
use Rattle.asm80_types.proofs.Lookup.{start_is}
use Rattle.cpu80_tagged.specs.State.{State80}
use Rattle.cpu80_tagged.specs.Step.{step80, machine80}
use Rattle.flow.specs.Blocks.{IsStraight, place_after}
use Rattle.sym_terms.specs.Term.{Term, Num as Number}
use Rattle.sym_terms.specs.Values80.{Load80, Byte, Val80}
use Rattle.sym_block_def.specs.Outcome.{Goto, Leave, One}
use Rattle.sym_block_def.specs.Block80.{Symbolic80, instrs_from, goto, effect80, outcome_from, start80, block80}
use Rattle.sym_block_def.proofs.Exits.{exit_falls}
use Rattle.simulation_def.specs.Runs80.{env80, Takes80, Answers80, BlockRuns80, BlockLeaves80, BlocksRun80}
use Rattle.simulation_law.proofs.Running.{run_turns, turn_is, runs_any, moved, leaves_stopped}
use Rattle.profile_leaving.specs.Leaving.{number_in, known_function}
use Rattle.flow.proofs.Further.{instr_behind}
use Rattle.profile_leaving.proofs.Fronts.{front_may_run}
use Rattle.profile_leaving.specs.Left.{after, StandsAt, HasLeft}
use Rattle.profile_leaving.proofs.Stepping.{IsKnown}

-- ---- its exit

front_exit : (p : Program) (a n k : ℕ) (s : Symbolic80) → IsStraight p a n → 0 < k → k < n → (outcome_from p a (instrs_from p a k) s).exit ≡ One (goto p (place_after p a k))
front_exit p a n zero s h some lt = absurd (omega (arith, some))
front_exit p a zero (suc k) s h some lt = absurd (omega (arith, lt))
front_exit p a (suc n) (suc zero) s h some lt = rw (h.1) (exit_falls p (a + length80 h.0) (effect80 s h.0) h.0 (h.2 (omega (arith, lt))))
front_exit p a (suc zero) (suc (suc k)) s h some lt = absurd (omega (arith, lt))
front_exit p a (suc (suc n)) (suc (suc k)) s h some lt =
    let rest = front_exit p (a + length80 h.0) (suc n) (suc k) (effect80 s h.0) h.3 (omega arith) (omega (arith, lt)) in
    rw (h.1, h.3.1) (rw (h.3.1) at rest)

-- ---- turns

left_is : (s : Status Rule) → (IsNotStopped s → ⊥) → (why : Rule) × (s ≡ Stopped why)
left_is Going h = absurd (h tt)
left_is Waiting h = absurd (h tt)
left_is Over h = absurd (h tt)
left_is (Stopped why) h = (why, refl)

-- what C holds where its term is a number
number_is : (n : ℕ) (t : Term) (s u : State80) (loads : List Load80) → number_in t ≡ Some n → Val80 (env80 s loads) t (Byte u.regs.c) → u.regs.c ≡ Num n
number_is n (Number m) s u loads e v = cc
number_is n t s u loads e v = absurd (false≢true (ap is_some e))

-- after the front of a block the run has left the profile; or it stands after it, and C is what it is known to be
pub record Arrives (p : Program) (at : ℕ) (function : Option ℕ) (r : Run State80 Rule) : Type 0 where
  pub stands : StandsAt p at r
  pub known : IsKnown function r.state

module _ (sound : BlocksRun80) (p : Program) (is : IsProgram p) (a n : ℕ) (straight : IsStraight p a n) (few : n ≤ 16) (r : Run State80 Rule) (here : StandsAt p a r) where
  by_block : (k : ℕ) → 0 < k → k < n → (BlockLeaves80 p k r.state) ⊎ (BlockRuns80 p k (block80 p a k) r.state) → HasLeft (after p k r) ⊎ Arrives p (place_after p a k) (known_function p a k) (after p k r)
  by_block k some lt (inl b) = inl (left_is (after p k r).status (leaves_stopped p k r here.goes b))
  by_block k some lt (inr b) =
      let at = place_after p a k in
      let i = instr_behind p a n k straight lt in
      let start = start_is p at i.0 i.1 in
      let way : b.way ≡ Goto (At at) = subst (λ x. Takes80 (env80 r.state b.loads) x b.way) (front_exit p a n k start80 straight some lt) b.takes ∙ ap (λ c. cond c (Goto (At at)) Leave) start in
      let answers = subst (λ w. Answers80 p (env80 r.state b.loads) b.ended w (step80 p b.last)) way b.answers in
      let runs = run_turns (machine80 p) [] (k - 1) r b.last here.goes (runs_any p (k - 1) 0 r.used r.state b.last b.runs) in
      let stood = moved (machine80 p) [] r b.last runs.0 in
      let came : State80 = record (b.ended) { place = At at } in
      let one : k - 1 + 1 ≡ k = omega (arith, some) in
      let turned : after p k r ≡ moved (machine80 p) [] r came (suc runs.0) =
      ap (λ m. after p m r) (sym one) ∙ turns_add (machine80 p) [] (k - 1) 1 r ∙ ap (λ z. after p 1 z) runs.1
      ∙ turn_is (machine80 p) [] stood here.goes ∙ ap (settle (machine80 p) [] stood) answers.1 in
      let held = b.is_state in
      subst (λ z. HasLeft z ⊎ Arrives p at (known_function p a k) z) (sym turned)
      (inr (record {
        stands = record { goes = here.goes; place = refl; is_state = record { regs = held.regs; mem = held.mem; sp = held.sp } };
        known = λ m e. number_is m (block80 p a k).held.c r.state came b.loads e (b.holds.in_regs C);
      }))

  pub arrives : (k : ℕ) → k < n → HasLeft (after p k r) ⊎ Arrives p (place_after p a k) (known_function p a k) (after p k r)
  arrives zero lt = inr (record { stands = here; known = λ m e. absurd (false≢true (ap is_some e)) })
  arrives (suc k) lt = by_block (suc k) (omega arith) lt (sound p a (suc k) r.state is (front_may_run p a n (suc k) straight few (omega arith) (omega (arith, lt))) here.is_state here.place)
