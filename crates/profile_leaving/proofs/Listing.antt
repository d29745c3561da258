-- Each place of the list is one that no run passes.
use Rattle.std.proofs.Common.{◌≡◌, ◌∙◌, ℕ, zero, suc, ◌+◌, ◌<◌, ◌≤◌, List, [], ◌∷◌, Option, Some, None, refl, sym, ap, subst, arith, inl, inr, ⊎_elim}
use Rattle.std.specs.Prelude.{All}
use Rattle.std.specs.List.{flat_map, cons_option}
use Rattle.std.proofs.lemmas.List.Elements.{All-append, All-contains_itself}
use Rattle.cells.specs.declared.Rule.{Rule}
use Rattle.cells.specs.declared.Rule.TheVariants.{P9}
use Rattle.i80.specs.declared.Instr80.{Instr80}
use Rattle.dialogue.specs.Run.{Run, Answer, Stops, Stopped, settle}
use Rattle.dialogue.proofs.Turns.{turns_add}
use Rattle.asm80_types.specs.Program.{Program, IsProgram, instr_at}
use Rattle.cpu80_tagged.specs.State.{State80}
use Rattle.cpu80_tagged.specs.Step.{step80, machine80}
use Rattle.flow.specs.Blocks.{blocks, place_after, IsStraight, IsBlockOf, BlocksCut}
use Rattle.simulation_def.specs.Runs80.{BlocksRun80}
use Rattle.simulation_law.proofs.Running.{turn_is}
use Rattle.profile_leaving.specs.declared.departure.Certainty.{Certainty}
use Rattle.profile_leaving.specs.declared.departure.Certainty.TheVariants.{Sure, May}
use Rattle.profile_leaving.specs.declared.departure.Departure.{Departure}
use Rattle.profile_leaving.specs.Leaving.{known_function, leaving_by, leaving_where, leaving_at, leaving_from, leaving}
use Rattle.flow.proofs.Further.{instr_behind}
use Rattle.profile_leaving.specs.Left.{after, StandsAt, HasLeft, Leaves, PlaceIsLeft}
use Rattle.profile_leaving.proofs.Stepping.{Stopping, StepsAway, listed_at, leaves_there}
use Rattle.profile_leaving.proofs.Blocks.{Arrives, arrives}

-- ---- the turn of a step that leaves

module _ (p : Program) (r : Run State80 Rule) (at : ℕ) (here : StandsAt p at r) where
  turned : (a : Answer State80 Rule) → step80 p r.state ≡ a → after p 1 r ≡ settle (machine80 p) [] r a
  turned a e = turn_is (machine80 p) [] r here.goes ∙ ap (settle (machine80 p) [] r) e

  left_by : (why : Rule) → step80 p r.state ≡ Stops why → (after p 1 r).status ≡ Stopped why
  left_by why e = ap (λ (z : Run State80 Rule). z.status) (turned (Stops why) e)

  left : Stopping (step80 p r.state) → HasLeft (after p 1 r)
  left h = (h.0, left_by h.0 h.1)

  turn_leaves : (c : Certainty) (rule : Rule) (i : Instr80) → StepsAway c rule r.state i (step80 p r.state) → Leaves c rule r.state (Some i) (after p 1 r)
  turn_leaves Sure P9 i h = left_by P9 h
  turn_leaves Sure rule i h = left h
  turn_leaves May rule i h = ⊎_elim (λ s. inl (left s)) inr h

-- ---- a place of a block

module _ (sound : BlocksRun80) (p : Program) (is : IsProgram p) (cut : BlocksCut p) where
  at_place : (first count before : ℕ) (x : Departure) → IsBlockOf p first count → before < count → leaving_at p first before ≡ Some x → PlaceIsLeft p x
  at_place first count before x block lt e =
      let i = instr_behind p first count before straight lt in
      record {
        first = first;
        count = count;
        before = before;
        block = block;
        within = lt;
        place = listed_at p at function i.0 x (listed i.0 i.1);
        leaves = λ r here. ⊎_elim inl (λ came. inr (there r came i.0 i.1)) (arrives sound p is first count straight (cut.sizes first count block).1 r here before lt);
      }
    where
      straight : IsStraight p first count
      straight = cut.straight first count block

      at : ℕ
      at = place_after p first before

      function : Option ℕ
      function = known_function p first before

      listed : (i : Instr80) → instr_at p at ≡ Some i → leaving_by p at function i ≡ Some x
      listed i h = sym (ap (leaving_where p at function) h) ∙ e

      there : (r : Run State80 Rule) → Arrives p at function (after p before r) → (i : Instr80) → instr_at p at ≡ Some i → StandsAt p x.at (after p before r) × Leaves x.certainty x.rule (after p before r).state (instr_at p x.at) (after p (suc before) r)
      there r came i h =
          let stands = came.stands in
          let same = listed_at p at function i x (listed i h) in
          let steps = leaves_there p (after p before r).state at function i x stands.place h came.known (listed i h) in
          let more : before + 1 ≡ suc before = omega arith in
          let next = turn_leaves p (after p before r) at stands x.certainty x.rule i steps in
          let then : after p 1 (after p before r) ≡ after p (suc before) r = sym (turns_add (machine80 p) [] before 1 r) ∙ ap (λ n. after p n r) more in
          let here : Some i ≡ instr_at p x.at = sym h ∙ ap (instr_at p) same in (
            subst (λ q. StandsAt p q (after p before r)) same stands,
            subst (λ o. Leaves x.certainty x.rule (after p before r).state o (after p (suc before) r)) here
                (subst (λ z. Leaves x.certainty x.rule (after p before r).state (Some i) z) then next),
          )

  -- ---- the list

  from_place : (first count before n : ℕ) → IsBlockOf p first count → before + n ≤ count → All (PlaceIsLeft p) (leaving_from p first before n)
  from_place first count before zero block le = λ k d lt. absurd (omega (arith, lt))
  from_place first count before (suc n) block le = by_place (leaving_at p first before) refl (from_place first count (suc before) n block (omega (arith, le)))
    where
      by_place : (o : Option Departure) → leaving_at p first before ≡ o → All (PlaceIsLeft p) (leaving_from p first (suc before) n) → All (PlaceIsLeft p) (cons_option o (leaving_from p first (suc before) n))
      by_place None e rest = rest
      by_place (Some x) e rest = All-append (PlaceIsLeft p) (x ∷ []) (leaving_from p first (suc before) n) (only x (at_place first count before x block (omega (arith, le)) e)) rest
        where
          only : (x : Departure) → PlaceIsLeft p x → All (PlaceIsLeft p) (x ∷ [])
          only x h zero d lt = h
          only x h (suc k) d lt = absurd (omega (arith, lt))

  of_blocks : (bs : List (ℕ × ℕ)) → All (λ (b : ℕ × ℕ). IsBlockOf p b.0 b.1) bs → All (PlaceIsLeft p) (flat_map (λ (b : ℕ × ℕ). leaving_from p b.0 0 b.1) bs)
  of_blocks [] h = λ k d lt. absurd (omega (arith, lt))
  of_blocks (b ∷ bs) h =
      All-append (PlaceIsLeft p) (leaving_from p b.0 0 b.1) (flat_map (λ (c : ℕ × ℕ). leaving_from p c.0 0 c.1) bs)
      (from_place b.0 b.1 0 b.1 (h 0 b (omega arith)) (omega arith))
      (of_blocks bs (λ k d lt. h (suc k) d (omega (arith, lt))))

  pub places_left : All (PlaceIsLeft p) (leaving p)
  places_left = of_blocks (blocks p) (λ k d lt. All-contains_itself (blocks p) k d lt)
