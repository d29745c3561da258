-- What instructions do that are no moves, and the arithmetic: the others do nothing here.
use Rattle.std.specs.Prelude.{Bool, true, false, cond}
use Rattle.i80.specs.declared.Instr80.{Instr80}
use Rattle.i86.specs.declared.Instr86.{Instr86}
use Rattle.sym_block_def.specs.Block80.{Symbolic80, effect80}
use Rattle.sym_block_def.specs.Symbolic86.{Symbolic86, effect86}

abbrev pub is_move80 : Instr80 → Bool
is_move80 (Instr80.Mov x y) = true
is_move80 (Instr80.Mvi x y) = true
is_move80 (Instr80.Lxi x y) = true
is_move80 (Instr80.Lda x) = true
is_move80 (Instr80.Sta x) = true
is_move80 (Instr80.Lhld x) = true
is_move80 (Instr80.Shld x) = true
is_move80 (Instr80.Ldax x) = true
is_move80 (Instr80.Stax x) = true
is_move80 i = false

abbrev pub past_moves80 : Symbolic80 → Instr80 → Symbolic80
past_moves80 s i = cond (is_move80 i) s (effect80 s i)

abbrev pub is_arithmetic80 : Instr80 → Bool
is_arithmetic80 (Instr80.Alu x y) = true
is_arithmetic80 (Instr80.AluI x y) = true
is_arithmetic80 (Instr80.Inr x) = true
is_arithmetic80 (Instr80.Dcr x) = true
is_arithmetic80 (Instr80.Inx x) = true
is_arithmetic80 (Instr80.Dcx x) = true
is_arithmetic80 (Instr80.Dad x) = true
is_arithmetic80 Instr80.Daa = true
is_arithmetic80 Instr80.Cma = true
is_arithmetic80 Instr80.Stc = true
is_arithmetic80 Instr80.Cmc = true
is_arithmetic80 Instr80.Rlc = true
is_arithmetic80 Instr80.Rrc = true
is_arithmetic80 Instr80.Ral = true
is_arithmetic80 Instr80.Rar = true
is_arithmetic80 i = false

abbrev pub arithmetic80 : Symbolic80 → Instr80 → Symbolic80
arithmetic80 s i = cond (is_arithmetic80 i) (effect80 s i) s

abbrev pub is_move86 : Instr86 → Bool
is_move86 (Instr86.MovReg8 x y) = true
is_move86 (Instr86.MovMem8 x y) = true
is_move86 (Instr86.MovAlDirect x) = true
is_move86 (Instr86.MovDirectAl x) = true
is_move86 (Instr86.MovNum8 x y) = true
is_move86 (Instr86.MovNum16 x y) = true
is_move86 (Instr86.MovMemNum x y) = true
is_move86 (Instr86.MovReg16 x y) = true
is_move86 (Instr86.MovDirect16 x y) = true
is_move86 Instr86.MovAxDs = true
is_move86 i = false

abbrev pub past_moves86 : Symbolic86 → Instr86 → Symbolic86
past_moves86 s i = cond (is_move86 i) s (effect86 s i)

abbrev pub is_arithmetic86 : Instr86 → Bool
is_arithmetic86 (Instr86.Alu x y) = true
is_arithmetic86 (Instr86.AluNum x y) = true
is_arithmetic86 Instr86.OrClCl = true
is_arithmetic86 (Instr86.Add16 x y) = true
is_arithmetic86 (Instr86.Count8 x y) = true
is_arithmetic86 (Instr86.Count16 x y) = true
is_arithmetic86 (Instr86.Rotate8 x y) = true
is_arithmetic86 (Instr86.Rotate16 x y) = true
is_arithmetic86 (Instr86.Not8 x) = true
is_arithmetic86 Instr86.Daa = true
is_arithmetic86 Instr86.Cmc = true
is_arithmetic86 Instr86.Stc = true
is_arithmetic86 i = false

abbrev pub arithmetic86 : Symbolic86 → Instr86 → Symbolic86
arithmetic86 s i = cond (is_arithmetic86 i) (effect86 s i) s
