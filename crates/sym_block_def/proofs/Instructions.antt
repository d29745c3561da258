-- The first of the instructions that are left of a block, and the others.
use Rattle.std.proofs.Common.{◌≡◌, ℕ, suc, ◌+◌, List, ◌∷◌, length, Option, Some, None, IsSome, refl, ap, arith}
use Rattle.i80.specs.declared.Instr80.{Instr80}
use Rattle.i80.specs.Columns.{length80}
use Rattle.asm80_types.specs.Program.{Program, instr_at}
use Rattle.sym_block_def.specs.Block80.{before_more, instrs_from}

pub some_there : (o : Option Instr80) (more : Instr80 → List Instr80) (n : ℕ) → length (before_more o (λ i. i ∷ more i)) ≡ suc n → IsSome o
some_there None more n h = absurd (cc)
some_there (Some i) more n h = refl

pub first_is : (p : Program) (at n : ℕ) (i : Instr80) → instr_at p at ≡ Some i → instrs_from p at (suc n) ≡ i ∷ instrs_from p (at + length80 i) n
first_is p at n i h = ap (λ o. before_more o (λ j. j ∷ instrs_from p (at + length80 j) n)) h

pub shorter : (i : Instr80) (xs : List Instr80) (n : ℕ) → length (i ∷ xs) ≡ suc n → length xs ≡ n
shorter i xs n h = omega (arith, h)
