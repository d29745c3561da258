-- The written line of each statement: a label alone with its colon; else a tab, the word, and where there are operands a
-- tab and the operands with commas. A line ends with CR and LF.
use Rattle.std.specs.Prelude.{ℕ, ◌+◌, ◌/◌, ◌%◌, nat_lt, cond, codes, List, [], ◌∷◌, ◌++◌}
use Rattle.i86.specs.declared.Reg8.{Reg8}
use Rattle.i86.specs.declared.Reg8.TheVariants.{Al, Cl, Dl, Bl, Ah, Ch, Dh, Bh}
use Rattle.i86.specs.declared.Reg16.{Reg16}
use Rattle.i86.specs.declared.Reg16.TheVariants.{Ax, Cx, Dx, Bx, Sp, Si}
use Rattle.i86.specs.declared.Ptr.{Ptr}
use Rattle.i86.specs.declared.Ptr.TheVariants.{Bx as PtrBx, Si as PtrSi}
use Rattle.i86.specs.declared.Operand8.{Operand8}
use Rattle.i86.specs.declared.Operand8.TheVariants.{Reg, Mem}
use Rattle.i86.specs.declared.Operand16.{Operand16}
use Rattle.i86.specs.declared.Operand16.TheVariants.{Reg as Reg_16, Direct}
use Rattle.i86.specs.declared.AluOp.{AluOp}
use Rattle.i86.specs.declared.AluOp.TheVariants.{Add, Or, Adc, Sbb, And, Sub, Xor, Cmp}
use Rattle.i86.specs.declared.Count.{Count}
use Rattle.i86.specs.declared.Count.TheVariants.{Inc, Dec}
use Rattle.i86.specs.declared.Rotate.{Rotate}
use Rattle.i86.specs.declared.Rotate.TheVariants.{Rol, Ror, Rcl, Rcr}
use Rattle.i86.specs.declared.Jump.{Jump}
use Rattle.i86.specs.declared.Jump.TheVariants.{Jb, Jnb, Jz, Jnz, Js, Jns, Jp, Jnp}
use Rattle.i86.specs.declared.Instr86.{Instr86}
use Rattle.i86.specs.declared.Instr86.TheVariants.{MovReg8, MovMem8, MovAlDirect, MovDirectAl, MovNum8, MovNum16, MovMemNum, MovReg16, MovDirect16, MovAxDs, MovSsAx, Alu, AluNum, OrClCl, Add16, Count8, Count16, Push, Pop, Xchg8, Xchg16, Rotate8, Rotate16, Not8, Daa, Sahf, Lahf, Cmc, Stc, Nop, Jcc, JmpNear, JmpShort, JmpBx, CallNear, Ret, Int224, InAl, OutAl}
use Rattle.i86.specs.Enc86.{reg_of_stack}
use Rattle.asm86_line_types.specs.declared.line.Label.{Label}
use Rattle.asm86_line_types.specs.declared.line.Label.TheVariants.{At, Skip, User, Sys, End}
use Rattle.asm86_line_types.specs.declared.line.Value16.{Value16}
use Rattle.asm86_line_types.specs.declared.line.Value16.TheVariants.{Num, Offset}
use Rattle.asm86_line_types.specs.declared.line.Stmt86.{Stmt86}
use Rattle.asm86_line_types.specs.declared.line.Stmt86.TheVariants.{Cseg, Dseg, Org, Rb, Db, Dw, Mark, Run, MovOffset, Jmp, Jmps, Jcc as JccTo, Call, EndText}
use Rattle.asm86_line_types.specs.declared.line.Line86.{Line86}

-- a hexadecimal digit, in upper case
abbrev pub digit : ℕ → ℕ
digit n = cond (nat_lt n 10) (0x30 + n) (0x37 + n)

abbrev pub four_digits : ℕ → List ℕ
four_digits w = digit (w / 4096) ∷ (digit (w / 256 % 16) ∷ (digit (w / 16 % 16) ∷ (digit (w % 16) ∷ [])))

-- a byte is 0hhH, a word 0hhhhH
abbrev pub byte_text : ℕ → List ℕ
byte_text n = 0x30 ∷ (digit (n / 16) ∷ (digit (n % 16) ∷ codes "H"))

abbrev pub word_text : ℕ → List ℕ
word_text w = 0x30 ∷ (four_digits w ++ codes "H")

abbrev pub reg8_text : Reg8 → List ℕ
reg8_text Al = codes "AL"
reg8_text Cl = codes "CL"
reg8_text Dl = codes "DL"
reg8_text Bl = codes "BL"
reg8_text Ah = codes "AH"
reg8_text Ch = codes "CH"
reg8_text Dh = codes "DH"
reg8_text Bh = codes "BH"

abbrev pub reg16_text : Reg16 → List ℕ
reg16_text Ax = codes "AX"
reg16_text Cx = codes "CX"
reg16_text Dx = codes "DX"
reg16_text Bx = codes "BX"
reg16_text Sp = codes "SP"
reg16_text Si = codes "SI"

abbrev pub ptr_text : Ptr → List ℕ
ptr_text PtrBx = codes "BYTE PTR [BX]"
ptr_text PtrSi = codes "BYTE PTR [SI]"

abbrev pub operand8_text : Operand8 → List ℕ
operand8_text (Reg r) = reg8_text r
operand8_text (Mem p) = ptr_text p

-- a byte and a word at a direct address
abbrev pub direct8_text : ℕ → List ℕ
direct8_text a = codes "BYTE PTR ." ++ word_text a

abbrev pub direct16_text : ℕ → List ℕ
direct16_text a = codes "WORD PTR ." ++ word_text a

abbrev pub operand16_text : Operand16 → List ℕ
operand16_text (Reg_16 r) = reg16_text r
operand16_text (Direct a) = direct16_text a

abbrev pub alu_text : AluOp → List ℕ
alu_text Add = codes "ADD"
alu_text Or = codes "OR"
alu_text Adc = codes "ADC"
alu_text Sbb = codes "SBB"
alu_text And = codes "AND"
alu_text Sub = codes "SUB"
alu_text Xor = codes "XOR"
alu_text Cmp = codes "CMP"

abbrev pub count_text : Count → List ℕ
count_text Inc = codes "INC"
count_text Dec = codes "DEC"

abbrev pub rotate_text : Rotate → List ℕ
rotate_text Rol = codes "ROL"
rotate_text Ror = codes "ROR"
rotate_text Rcl = codes "RCL"
rotate_text Rcr = codes "RCR"

abbrev pub jump_text : Jump → List ℕ
jump_text Jb = codes "JB"
jump_text Jnb = codes "JNB"
jump_text Jz = codes "JZ"
jump_text Jnz = codes "JNZ"
jump_text Js = codes "JS"
jump_text Jns = codes "JNS"
jump_text Jp = codes "JP"
jump_text Jnp = codes "JNP"

abbrev pub label_text : Label → List ℕ
label_text (At a) = codes "L" ++ four_digits a
label_text (Skip a) = codes "K" ++ four_digits a
label_text (User a) = codes "U" ++ four_digits a
label_text Sys = codes "X_SYS"
label_text End = codes "X_END"

-- OFFSET and a label
abbrev pub offset_text : Label → List ℕ
offset_text l = codes "OFFSET " ++ label_text l

abbrev pub value_text : Value16 → List ℕ
value_text (Num w) = word_text w
value_text (Offset l) = offset_text l

-- a line of a word alone, and of a word with one operand or two
abbrev pub alone : List ℕ → List ℕ
alone word = codes "\t" ++ (word ++ codes "\r\n")

abbrev pub with_one : List ℕ → List ℕ → List ℕ
with_one word first = codes "\t" ++ (word ++ (codes "\t" ++ (first ++ codes "\r\n")))

abbrev pub with_two : List ℕ → List ℕ → List ℕ → List ℕ
with_two word first second = codes "\t" ++ (word ++ (codes "\t" ++ (first ++ (codes "," ++ (second ++ codes "\r\n")))))

-- the line of an instruction that computes, and nothing of another
abbrev pub computation_line : Instr86 → List ℕ
computation_line (Alu op o) = with_two (alu_text op) (codes "AL") (operand8_text o)
computation_line (AluNum op n) = with_two (alu_text op) (codes "AL") (byte_text n)
computation_line OrClCl = with_two (codes "OR") (codes "CL") (codes "CL")
computation_line (Add16 r q) = with_two (codes "ADD") (reg16_text r) (reg16_text q)
computation_line (Count8 c o) = with_one (count_text c) (operand8_text o)
computation_line (Count16 c r) = with_one (count_text c) (reg16_text r)
computation_line (Rotate8 k r) = with_two (rotate_text k) (reg8_text r) (codes "1")
computation_line (Rotate16 k r) = with_two (rotate_text k) (reg16_text r) (codes "1")
computation_line (Not8 r) = with_one (codes "NOT") (reg8_text r)
computation_line i = []

-- the line of a MOV, and of an instruction that computes
abbrev pub mov_line : Instr86 → List ℕ
mov_line (MovReg8 r o) = with_two (codes "MOV") (reg8_text r) (operand8_text o)
mov_line (MovMem8 p r) = with_two (codes "MOV") (ptr_text p) (reg8_text r)
mov_line (MovAlDirect a) = with_two (codes "MOV") (codes "AL") (direct8_text a)
mov_line (MovDirectAl a) = with_two (codes "MOV") (direct8_text a) (codes "AL")
mov_line (MovNum8 r n) = with_two (codes "MOV") (reg8_text r) (byte_text n)
mov_line (MovNum16 r w) = with_two (codes "MOV") (reg16_text r) (word_text w)
mov_line (MovMemNum p n) = with_two (codes "MOV") (ptr_text p) (byte_text n)
mov_line (MovReg16 r o) = with_two (codes "MOV") (reg16_text r) (operand16_text o)
mov_line (MovDirect16 a r) = with_two (codes "MOV") (direct16_text a) (reg16_text r)
mov_line MovAxDs = with_two (codes "MOV") (codes "AX") (codes "DS")
mov_line MovSsAx = with_two (codes "MOV") (codes "SS") (codes "AX")
mov_line i = computation_line i

-- the line of an instruction; one with a displacement has none, since a text names labels
abbrev pub instr_line : Instr86 → List ℕ
instr_line (MovReg8 r o) = with_two (codes "MOV") (reg8_text r) (operand8_text o)
instr_line (MovMem8 p r) = with_two (codes "MOV") (ptr_text p) (reg8_text r)
instr_line (MovAlDirect a) = with_two (codes "MOV") (codes "AL") (direct8_text a)
instr_line (MovDirectAl a) = with_two (codes "MOV") (direct8_text a) (codes "AL")
instr_line (MovNum8 r n) = with_two (codes "MOV") (reg8_text r) (byte_text n)
instr_line (MovNum16 r w) = with_two (codes "MOV") (reg16_text r) (word_text w)
instr_line (MovMemNum p n) = with_two (codes "MOV") (ptr_text p) (byte_text n)
instr_line (MovReg16 r o) = with_two (codes "MOV") (reg16_text r) (operand16_text o)
instr_line (MovDirect16 a r) = with_two (codes "MOV") (direct16_text a) (reg16_text r)
instr_line MovAxDs = with_two (codes "MOV") (codes "AX") (codes "DS")
instr_line MovSsAx = with_two (codes "MOV") (codes "SS") (codes "AX")
instr_line (Alu op o) = with_two (alu_text op) (codes "AL") (operand8_text o)
instr_line (AluNum op n) = with_two (alu_text op) (codes "AL") (byte_text n)
instr_line OrClCl = with_two (codes "OR") (codes "CL") (codes "CL")
instr_line (Add16 r q) = with_two (codes "ADD") (reg16_text r) (reg16_text q)
instr_line (Count8 c o) = with_one (count_text c) (operand8_text o)
instr_line (Count16 c r) = with_one (count_text c) (reg16_text r)
instr_line (Push r) = with_one (codes "PUSH") (reg16_text (reg_of_stack r))
instr_line (Pop r) = with_one (codes "POP") (reg16_text (reg_of_stack r))
instr_line (Xchg8 r q) = with_two (codes "XCHG") (reg8_text r) (reg8_text q)
instr_line (Xchg16 r q) = with_two (codes "XCHG") (reg16_text r) (reg16_text q)
instr_line (Rotate8 k r) = with_two (rotate_text k) (reg8_text r) (codes "1")
instr_line (Rotate16 k r) = with_two (rotate_text k) (reg16_text r) (codes "1")
instr_line (Not8 r) = with_one (codes "NOT") (reg8_text r)
instr_line Daa = alone (codes "DAA")
instr_line Sahf = alone (codes "SAHF")
instr_line Lahf = alone (codes "LAHF")
instr_line Cmc = alone (codes "CMC")
instr_line Stc = alone (codes "STC")
instr_line Nop = alone (codes "NOP")
instr_line (Jcc j d) = []
instr_line (JmpNear d) = []
instr_line (JmpShort d) = []
instr_line JmpBx = with_one (codes "JMP") (codes "BX")
instr_line (CallNear d) = []
instr_line Ret = alone (codes "RET")
instr_line Int224 = with_one (codes "INT") (codes "224")
instr_line (InAl n) = with_two (codes "IN") (codes "AL") (byte_text n)
instr_line (OutAl n) = with_two (codes "OUT") (byte_text n) (codes "AL")

-- the line of a statement
abbrev pub written_line : Stmt86 → List ℕ
written_line Cseg = alone (codes "CSEG")
written_line Dseg = alone (codes "DSEG")
written_line (Org w) = with_one (codes "ORG") (word_text w)
written_line (Rb w) = with_one (codes "RB") (word_text w)
written_line (Db n) = with_one (codes "DB") (byte_text n)
written_line (Dw v) = with_one (codes "DW") (value_text v)
written_line (Mark l) = label_text l ++ codes ":\r\n"
written_line (Run i) = instr_line i
written_line (MovOffset r l) = with_two (codes "MOV") (reg16_text r) (offset_text l)
written_line (Jmp l) = with_one (codes "JMP") (label_text l)
written_line (Jmps l) = with_one (codes "JMPS") (label_text l)
written_line (JccTo j l) = with_one (jump_text j) (label_text l)
written_line (Call l) = with_one (codes "CALL") (label_text l)
written_line EndText = alone (codes "END")

-- the written text of statements: their lines, one after the other
abbrev pub written_text : List Line86 → List ℕ
written_text [] = []
written_text (x ∷ xs) = written_line x.stmt ++ written_text xs
