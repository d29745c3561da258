-- The flags that have to be saved.
use Rattle.std.proofs.Common.{◌≡◌, ℕ, ◌+◌, false, ◌&&◌, Some, None, sym, ap, subst, ◌∙◌, ⊎_elim, arith}
use Rattle.std.specs.List.{Contains}
use Rattle.std.proofs.lemmas.Bool.{and_parts, and_from, both_ways}
use Rattle.cells.specs.declared.Part.{Part}
use Rattle.cells.specs.Parts.{Parts, nothing, has}
use Rattle.i80.specs.declared.Instr80.{Instr80}
use Rattle.i80.specs.Columns.{length80, uses80}
use Rattle.asm80_types.specs.Program.{Program, instr_at, placed_in, is_start}
use Rattle.asm80_types.proofs.Standing.{no_instr}
use Rattle.flow.specs.declared.node.Node.TheVariants.{Start}
use Rattle.flow.specs.Blocks.{address_after_instruction}
use Rattle.flow.specs.Graph.{edges_at}
use Rattle.flow.specs.Need.{Need, parts_at}
use Rattle.flow.specs.Saves.{is_saved, AreSaves}
use Rattle.flow.specs.Solving.{AreNeeds}
use Rattle.flow.proofs.Needs.{need_only}
use Rattle.flow.proofs.Sets.{has-nothing}

pub saves_some : (p : Program) (a : ℕ) (i : Instr80) (need kept : Parts) → instr_at p a ≡ Some i → AreNeeds p (Start (a + length80 i)) need → ((x : Part) → has kept x ≡ (has need x && is_saved x)) → AreSaves p a kept
saves_some p a i need kept here needs is x =
    let place : address_after_instruction a (instr_at p a) ≡ a + length80 i = ap (address_after_instruction a) here in (
      λ h. let both = and_parts (has need x) (is_saved x) (sym (is x) ∙ h) in (both.1, subst (λ b. Need p (Start b) x) (sym place) ((needs x).0 both.0)),
      λ h. is x ∙ and_from (has need x) (is_saved x) ((needs x).1 (subst (λ b. Need p (Start b) x) place h.1)) h.0,
    )

-- where no instruction starts, nothing is needed
no_need : (p : Program) (b : ℕ) (x : Part) → is_start p b ≡ false → Need p (Start b) x → ⊥
no_need p b x none need =
    let here : instr_at p b ≡ None = no_instr (placed_in p.instrs b) none in
    ⊎_elim
    (λ u. both_ways (has nothing x) (has-nothing x) (ap (λ o. has (parts_at uses80 o) x) (sym here) ∙ u))
    (λ on.
    let edge = subst (λ o. Contains (edges_at p b o) on.0) here on.1 in
    omega (arith, edge.1))
    (need_only p (Start b) x need)

pub saves_none : (p : Program) (a : ℕ) (i : Instr80) → instr_at p a ≡ Some i → is_start p (a + length80 i) ≡ false → AreSaves p a nothing
saves_none p a i here none x =
    let place : address_after_instruction a (instr_at p a) ≡ a + length80 i = ap (address_after_instruction a) here in
    (λ h. absurd (both_ways (has nothing x) (has-nothing x) h), λ h. absurd (no_need p (a + length80 i) x none (subst (λ b. Need p (Start b) x) place h.1)))
