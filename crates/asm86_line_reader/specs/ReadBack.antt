-- Which statements have a written line: their numbers are within their ranges, and they name the labels that they go to.
use Rattle.std.specs.Prelude.{nat_lt, Bool, true, false}
use Rattle.i86.specs.declared.Operand16.TheVariants.{Direct}
use Rattle.i86.specs.declared.Instr86.{Instr86}
use Rattle.i86.specs.declared.Instr86.TheVariants.{MovAlDirect, MovDirectAl, MovNum8, MovNum16, MovMemNum, MovReg16, MovDirect16, AluNum, Jcc as JccBy, JmpNear, JmpShort, CallNear, InAl, OutAl}
use Rattle.asm86_line_types.specs.declared.line.Label.{Label}
use Rattle.asm86_line_types.specs.declared.line.Label.TheVariants.{At, Skip, User}
use Rattle.asm86_line_types.specs.declared.line.Value16.{Value16}
use Rattle.asm86_line_types.specs.declared.line.Value16.TheVariants.{Num, Offset}
use Rattle.asm86_line_types.specs.declared.line.Stmt86.{Stmt86}
use Rattle.asm86_line_types.specs.declared.line.Stmt86.TheVariants.{Org, Rb, Db, Dw, Mark, Run, MovOffset, Jmp, Jmps, Jcc, Call}

abbrev pub label_fits : Label → Bool
label_fits (At w) = nat_lt w 65536
label_fits (Skip w) = nat_lt w 65536
label_fits (User w) = nat_lt w 65536
label_fits _ = true

abbrev pub value_fits : Value16 → Bool
value_fits (Num w) = nat_lt w 65536
value_fits (Offset l) = label_fits l

abbrev pub instr_fits : Instr86 → Bool
instr_fits (MovAlDirect a) = nat_lt a 65536
instr_fits (MovDirectAl a) = nat_lt a 65536
instr_fits (MovNum8 r n) = nat_lt n 256
instr_fits (MovNum16 r w) = nat_lt w 65536
instr_fits (MovMemNum p n) = nat_lt n 256
instr_fits (MovReg16 r (Direct a)) = nat_lt a 65536
instr_fits (MovDirect16 a r) = nat_lt a 65536
instr_fits (AluNum o n) = nat_lt n 256
instr_fits (InAl n) = nat_lt n 256
instr_fits (OutAl n) = nat_lt n 256
instr_fits (JccBy j d) = false
instr_fits (JmpNear d) = false
instr_fits (JmpShort d) = false
instr_fits (CallNear d) = false
instr_fits _ = true

abbrev pub has_line : Stmt86 → Bool
has_line (Org w) = nat_lt w 65536
has_line (Rb w) = nat_lt w 65536
has_line (Db n) = nat_lt n 256
has_line (Dw v) = value_fits v
has_line (Mark l) = label_fits l
has_line (Run i) = instr_fits i
has_line (MovOffset r l) = label_fits l
has_line (Jmp l) = label_fits l
has_line (Jmps l) = label_fits l
has_line (Jcc j l) = label_fits l
has_line (Call l) = label_fits l
has_line _ = true
