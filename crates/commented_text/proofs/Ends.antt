-- The written line of each statement is a whole line, or there is none.
use Rattle.std.specs.Prelude.{codes}
use Rattle.commented_text.proofs.WholeReading.{AreWhole, none, alone_end, one_end, two_end, mark_end}
use Rattle.i86.specs.declared.Instr86.{Instr86}
use Rattle.i86.specs.declared.Instr86.TheVariants.{MovReg8, MovMem8, MovAlDirect, MovDirectAl, MovNum8, MovNum16, MovMemNum, MovReg16, MovDirect16, MovAxDs, MovSsAx, Alu, AluNum, OrClCl, Add16, Count8, Count16, Push, Pop, Xchg8, Xchg16, Rotate8, Rotate16, Not8, Daa, Sahf, Lahf, Cmc, Stc, Nop, Jcc, JmpNear, JmpShort, JmpBx, CallNear, Ret, Int224, InAl, OutAl}
use Rattle.i86.specs.Enc86.{reg_of_stack}
use Rattle.asm86_line_types.specs.declared.line.Stmt86.{Stmt86}
use Rattle.asm86_line_types.specs.declared.line.Stmt86.TheVariants.{Cseg, Dseg, Org, Rb, Db, Dw, Mark, Run, MovOffset, Jmp, Jmps, Jcc as JccTo, Call, EndText}
use Rattle.asm86_line_types.specs.Written.{byte_text, word_text, reg8_text, reg16_text, ptr_text, operand8_text, direct8_text, direct16_text, operand16_text, alu_text, count_text, rotate_text, jump_text, label_text, offset_text, value_text, instr_line, written_line}

instr_ends : (i : Instr86) → AreWhole (instr_line i)
instr_ends (MovReg8 r o) = two_end (codes "MOV") (reg8_text r) (operand8_text o)
instr_ends (MovMem8 p r) = two_end (codes "MOV") (ptr_text p) (reg8_text r)
instr_ends (MovAlDirect a) = two_end (codes "MOV") (codes "AL") (direct8_text a)
instr_ends (MovDirectAl a) = two_end (codes "MOV") (direct8_text a) (codes "AL")
instr_ends (MovNum8 r n) = two_end (codes "MOV") (reg8_text r) (byte_text n)
instr_ends (MovNum16 r w) = two_end (codes "MOV") (reg16_text r) (word_text w)
instr_ends (MovMemNum p n) = two_end (codes "MOV") (ptr_text p) (byte_text n)
instr_ends (MovReg16 r o) = two_end (codes "MOV") (reg16_text r) (operand16_text o)
instr_ends (MovDirect16 a r) = two_end (codes "MOV") (direct16_text a) (reg16_text r)
instr_ends MovAxDs = two_end (codes "MOV") (codes "AX") (codes "DS")
instr_ends MovSsAx = two_end (codes "MOV") (codes "SS") (codes "AX")
instr_ends (Alu op o) = two_end (alu_text op) (codes "AL") (operand8_text o)
instr_ends (AluNum op n) = two_end (alu_text op) (codes "AL") (byte_text n)
instr_ends OrClCl = two_end (codes "OR") (codes "CL") (codes "CL")
instr_ends (Add16 r q) = two_end (codes "ADD") (reg16_text r) (reg16_text q)
instr_ends (Count8 c o) = one_end (count_text c) (operand8_text o)
instr_ends (Count16 c r) = one_end (count_text c) (reg16_text r)
instr_ends (Push r) = one_end (codes "PUSH") (reg16_text (reg_of_stack r))
instr_ends (Pop r) = one_end (codes "POP") (reg16_text (reg_of_stack r))
instr_ends (Xchg8 r q) = two_end (codes "XCHG") (reg8_text r) (reg8_text q)
instr_ends (Xchg16 r q) = two_end (codes "XCHG") (reg16_text r) (reg16_text q)
instr_ends (Rotate8 t r) = two_end (rotate_text t) (reg8_text r) (codes "1")
instr_ends (Rotate16 t r) = two_end (rotate_text t) (reg16_text r) (codes "1")
instr_ends (Not8 r) = one_end (codes "NOT") (reg8_text r)
instr_ends Daa = alone_end (codes "DAA")
instr_ends Sahf = alone_end (codes "SAHF")
instr_ends Lahf = alone_end (codes "LAHF")
instr_ends Cmc = alone_end (codes "CMC")
instr_ends Stc = alone_end (codes "STC")
instr_ends Nop = alone_end (codes "NOP")
instr_ends (Jcc j d) = none
instr_ends (JmpNear d) = none
instr_ends (JmpShort d) = none
instr_ends JmpBx = one_end (codes "JMP") (codes "BX")
instr_ends (CallNear d) = none
instr_ends Ret = alone_end (codes "RET")
instr_ends Int224 = one_end (codes "INT") (codes "224")
instr_ends (InAl n) = two_end (codes "IN") (codes "AL") (byte_text n)
instr_ends (OutAl n) = two_end (codes "OUT") (byte_text n) (codes "AL")

-- the written line of a statement
pub line_ends : (s : Stmt86) → AreWhole (written_line s)
line_ends Cseg = alone_end (codes "CSEG")
line_ends Dseg = alone_end (codes "DSEG")
line_ends (Org w) = one_end (codes "ORG") (word_text w)
line_ends (Rb w) = one_end (codes "RB") (word_text w)
line_ends (Db n) = one_end (codes "DB") (byte_text n)
line_ends (Dw v) = one_end (codes "DW") (value_text v)
line_ends (Mark l) = mark_end (label_text l)
line_ends (Run i) = instr_ends i
line_ends (MovOffset r l) = two_end (codes "MOV") (reg16_text r) (offset_text l)
line_ends (Jmp l) = one_end (codes "JMP") (label_text l)
line_ends (Jmps l) = one_end (codes "JMPS") (label_text l)
line_ends (JccTo j l) = one_end (jump_text j) (label_text l)
line_ends (Call l) = one_end (codes "CALL") (label_text l)
line_ends EndText = alone_end (codes "END")
