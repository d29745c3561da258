-- What is known of an instruction of a program.
use Rattle.std.proofs.Common.{◌≡◌, ℕ, ◌+◌, ◌%◌, ◌<◌, true, refl, subst, arith}
use Rattle.cells.specs.declared.Cond.{Cond}
use Rattle.i80.specs.declared.Goal.{Goal}
use Rattle.i80.specs.declared.Goal.TheVariants.{At as ToInstr, Boot as ToBoot, Bdos as ToBdos}
use Rattle.i80.specs.declared.Word.TheVariants.{Code as CodeAt}
use Rattle.i80.specs.declared.Instr80.{Instr80}
use Rattle.i80.specs.declared.Instr80.TheVariants.{Lxi, Call, Cif}
use Rattle.asm80_types.specs.Program.{Program}
use Rattle.asm80_types.specs.Taken.{takes}
use Rattle.asm80_types.proofs.Standing.{IsPlaced}
use Rattle.sym_sound.proofs.Machine80.Rows.{LoadsHeld}
use Rattle.sym_sound.proofs.Machine80.Leaving.{ReturnIsTaken}

-- a code address that is loaded may be held
pub loads_held : (p : Program) (a : ℕ) (i : Instr80) → IsPlaced p a i → LoadsHeld p i
loads_held p a (Lxi pair (CodeAt b)) h = (h.named, h.takes_place b refl)
loads_held p a i h = tt

-- the place after a call of an instruction is taken
taken_after : (p : Program) (a : ℕ) → a + 3 < 0x10000 → takes p ((a + 3) % 0x10000) ≡ true → takes p (a + 3) ≡ true
taken_after p a below h = let same : (a + 3) % 0x10000 ≡ a + 3 = omega (arith, below) in subst (λ b. takes p b ≡ true) same h

pub call_taken : (p : Program) (a : ℕ) (t : Goal) → IsPlaced p a (Call t) → ReturnIsTaken p (a + 3) t
call_taken p a (ToInstr t) h = taken_after p a h.below (h.takes_place ((a + 3) % 0x10000) refl)
call_taken p a ToBoot h = tt
call_taken p a ToBdos h = tt

pub cif_taken : (p : Program) (a : ℕ) (c : Cond) (t : Goal) → IsPlaced p a (Cif c t) → ReturnIsTaken p (a + 3) t
cif_taken p a c (ToInstr t) h = taken_after p a h.below (h.takes_place ((a + 3) % 0x10000) refl)
cif_taken p a c ToBoot h = tt
cif_taken p a c ToBdos h = tt
