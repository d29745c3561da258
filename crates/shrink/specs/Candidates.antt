-- Which statements may be left out of a text at all.
use Rattle.std.specs.Prelude.{Bool, true, false, not, ◌||◌}
use Rattle.i86.specs.declared.Operand8.TheVariants.{Mem}
use Rattle.i86.specs.declared.Operand16.TheVariants.{Direct}
use Rattle.i86.specs.declared.Instr86.{Instr86}
use Rattle.i86.specs.declared.Instr86.TheVariants.{MovReg8, MovMem8, MovAlDirect, MovDirectAl, MovMemNum, MovReg16, MovDirect16, MovAxDs, MovSsAx, Alu, Count8, Push, Pop, JmpBx, Ret, Int224, InAl, OutAl}
use Rattle.asm86_line_types.specs.declared.line.Stmt86.{Stmt86}
use Rattle.asm86_line_types.specs.declared.line.Stmt86.TheVariants.{Run}

-- an instruction with a memory operand
abbrev pub has_memory : Instr86 → Bool
has_memory (MovReg8 r (Mem p)) = true
has_memory (MovMem8 p r) = true
has_memory (MovAlDirect a) = true
has_memory (MovDirectAl a) = true
has_memory (MovMemNum p n) = true
has_memory (MovReg16 r (Direct a)) = true
has_memory (MovDirect16 a r) = true
has_memory (Alu op (Mem p)) = true
has_memory (Count8 c (Mem p)) = true
has_memory _ = false

-- one that pushes, pops, goes elsewhere, asks the system or a port, or moves a segment register
abbrev pub is_kept_always : Instr86 → Bool
is_kept_always (Push r) = true
is_kept_always (Pop r) = true
is_kept_always Ret = true
is_kept_always Int224 = true
is_kept_always JmpBx = true
is_kept_always (InAl n) = true
is_kept_always (OutAl n) = true
is_kept_always MovAxDs = true
is_kept_always MovSsAx = true
is_kept_always _ = false

-- a candidate is any other instruction; jumps and calls, which name labels, are statements of their own and none
abbrev pub is_candidate : Stmt86 → Bool
is_candidate (Run i) = not (has_memory i || is_kept_always i)
is_candidate _ = false
