-- The instructions of a program, found at their addresses.
use Rattle.std.proofs.Common.{◌≡◌, ℕ, ◌+◌, List, [], ◌∷◌, Some, refl, subst, Bool, true, false, cond, ◌==◌, ap}
use Rattle.std.specs.Prelude.{is_some}
use Rattle.std.proofs.lemmas.Bool.{false≢true, eqb-true}
use Rattle.std.proofs.lemmas.Option.{same_Some}
use Rattle.i80.specs.Columns.{length80, is_well_formed}
use Rattle.asm80_types.specs.declared.program.Placed.{Placed}
use Rattle.asm80_types.specs.Program.{placed_in, AreLaid}

-- what is found at an address stands there
pub found_at : (xs : List Placed) (a : ℕ) (x : Placed) → placed_in xs a ≡ Some x → x.at ≡ a
found_at [] a x h = absurd (false≢true (ap is_some h))
found_at (y ∷ ys) a x h = by_test (y.at == a) refl h (found_at ys a x)
  where
    by_test : (t : Bool) → (y.at == a) ≡ t → cond t (Some y) (placed_in ys a) ≡ Some x → (placed_in ys a ≡ Some x → x.at ≡ a) → x.at ≡ a
    by_test true e g rec = subst (λ (v : Placed). v.at ≡ a) (same_Some y x g) (eqb-true y.at a e)
    by_test false e g rec = rec g

-- an instruction of a list that is laid is well formed
pub laid_good : (xs : List Placed) (from limit a : ℕ) (x : Placed) → AreLaid from limit xs → placed_in xs a ≡ Some x → is_well_formed x.instr ≡ true
laid_good [] from limit a x laid h = absurd (false≢true (ap is_some h))
laid_good (y ∷ ys) from limit a x laid h = by_test (y.at == a) h (laid_good ys (y.at + length80 y.instr) limit a x laid.3)
  where
    by_test : (t : Bool) → cond t (Some y) (placed_in ys a) ≡ Some x → (placed_in ys a ≡ Some x → is_well_formed x.instr ≡ true) → is_well_formed x.instr ≡ true
    by_test true g rec = subst (λ (v : Placed). is_well_formed v.instr ≡ true) (same_Some y x g) laid.2
    by_test false g rec = rec g
