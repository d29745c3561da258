-- From one place of a block to the next, and what stands at each.
use Rattle.std.proofs.Common.{◌≡◌, ◌∙◌, ℕ, zero, suc, ◌+◌, ◌<◌, Option, Some, sym, ap, arith}
use Rattle.i80.specs.declared.Instr80.{Instr80}
use Rattle.i80.specs.Columns.{length80}
use Rattle.asm80_types.specs.Program.{Program, instr_at}
use Rattle.flow.specs.Blocks.{address_after_instruction, place_after, IsStraight}

-- the address after one instruction more
pub one_further : (p : Program) (at next n m : ℕ) (o : Option Instr80) → instr_at p at ≡ o → next ≡ address_after_instruction at o → m ≡ suc n → place_after p next n ≡ place_after p at m
one_further p at next n m o here e more = ap (λ a. place_after p a n) (e ∙ ap (address_after_instruction at) (sym here)) ∙ ap (place_after p at) (sym more)

-- the instruction after so many
pub instr_behind : (p : Program) (a n k : ℕ) → IsStraight p a n → k < n → (i : Instr80) × (instr_at p (place_after p a k) ≡ Some i)
instr_behind p a zero k h lt = absurd (omega (arith, lt))
instr_behind p a (suc n) zero h lt = (h.0, h.1)
instr_behind p a (suc n) (suc k) h lt = rw (h.1) (instr_behind p (a + length80 h.0) n k h.3 (omega (arith, lt)))
