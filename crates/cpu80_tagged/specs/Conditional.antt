-- Conditional jumps, calls and returns, apart from their conditions.
use Rattle.std.specs.Prelude.{ℕ, Bool, true, Option, Some, Result}
use Rattle.cells.specs.declared.Flags.{Flags}
use Rattle.cells.specs.declared.Rule.{Rule}
use Rattle.cells.specs.Conditions.{holds}
use Rattle.i80.specs.declared.Instr80.{Instr80}
use Rattle.i80.specs.declared.Instr80.TheVariants.{Jmp, Jif, Call, Cif, Ret, Rif}
use Rattle.asm80_types.specs.Program.{Program}
use Rattle.cpu80_tagged.specs.State.{State80}
use Rattle.cpu80_tagged.specs.Call.{Return, popped_return, return_after}

-- whether the condition of an instruction holds; one that has none goes always
abbrev pub condition_of : Flags → Instr80 → Option Bool
condition_of f (Jif c t) = holds f c
condition_of f (Cif c t) = holds f c
condition_of f (Rif c) = holds f c
condition_of f i = Some true

-- the instruction without its condition
abbrev pub unconditional : Instr80 → Instr80
unconditional (Jif c t) = Jmp t
unconditional (Cif c t) = Call t
unconditional (Rif c) = Ret
unconditional i = i

-- the return of an instruction that asks; `a` is the place after it
abbrev pub return_by : Program → State80 → ℕ → Instr80 → Result Return Rule
return_by p s a (Jmp t) = popped_return p s
return_by p s a (Jif c t) = popped_return p s
return_by p s a i = return_after p s a
