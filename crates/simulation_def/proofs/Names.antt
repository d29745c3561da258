-- What instructions name, and what they take.
use Rattle.std.proofs.Common.{◌≡◌, ◌∙◌, ℕ, ◌==◌, Bool, true, false, cond, List, [], ◌∷◌, Option, Some, ap, subst}
use Rattle.std.specs.Prelude.{IfSome}
use Rattle.i80.specs.declared.Instr80.{Instr80}
use Rattle.i80.specs.declared.Instr80.TheVariants.{Lxi}
use Rattle.i80.specs.declared.Pair.{Pair}
use Rattle.i80.specs.declared.Word.TheVariants.{Code}
use Rattle.asm80_types.specs.declared.program.Placed.{Placed}
use Rattle.asm80_types.specs.Program.{Program, NameStarts, placed_in, instr_of_placed, instr_at, is_start, named_by}
use Rattle.asm80_types.specs.Taken.{takes, place_taken_by}
use Rattle.asm80_types.proofs.Standing.{placed_is, takes_by}

instr_is : (i j : Instr80) → ◌≡◌ {A = Option Instr80} (Some i) (Some j) → i ≡ j
instr_is i j h = cc

-- each place that is named is an instruction's
pub names_start : (p : Program) (xs : List Placed) → NameStarts p xs → (at a : ℕ) (i : Instr80) → instr_of_placed (placed_in xs at) ≡ Some i → named_by i ≡ Some a → is_start p a ≡ true
names_start p [] n at a i h g = absurd (cc)
names_start p (x ∷ xs) n at a i h g = by_here (x.at == at) h (names_start p xs n.1 at a i)
  where
    by_here : (t : Bool) → instr_of_placed (cond t (Some x) (placed_in xs at)) ≡ Some i → (instr_of_placed (placed_in xs at) ≡ Some i → named_by i ≡ Some a → is_start p a ≡ true) → is_start p a ≡ true
    by_here true e rest = subst (λ o. IfSome o (λ b. is_start p b ≡ true)) (ap named_by (instr_is x.instr i e) ∙ g) n.0
    by_here false e rest = rest e g

-- a code address that is loaded is taken
pub code_is_taken : (p : Program) (at a : ℕ) (pair : Pair) → instr_at p at ≡ Some (Lxi pair (Code a)) → takes p a ≡ true
code_is_taken p at a pair h =
    let x = placed_is (placed_in p.instrs at) (Lxi pair (Code a)) h in
    takes_by p at a x.0 x.1 (ap (place_taken_by x.0.at) x.2)
