-- The template of each 8080 instruction: A is in AL, BC in CX, DE in DX, HL in BX, SP in SP; M is BYTE PTR [BX]; AH and SI
-- are scratch (XLT86 User's Guide, "Register mapping"; the sequences are this project's own).
use Rattle.std.specs.Prelude.{ℕ, Bool, true, false, List, [], ◌∷◌, ◌++◌}
use Rattle.cells.specs.declared.Cond.{Cond}
use Rattle.cells.specs.declared.Cond.TheVariants.{Nz, Z, Nc, C as Cc, Po, Pe, P as Plus, M as Minus}
use Rattle.i80.specs.declared.Reg.{Reg}
use Rattle.i80.specs.declared.Reg.TheVariants.{A, B, C, D, E, H, L}
use Rattle.i80.specs.declared.Src.{Src}
use Rattle.i80.specs.declared.Src.TheVariants.{Reg as InReg, Mem}
use Rattle.i80.specs.declared.Pair.{Pair}
use Rattle.i80.specs.declared.Pair.TheVariants.{B as PairB, D as PairD, H as PairH, Sp as PairSp}
use Rattle.i80.specs.declared.StackPair.{StackPair}
use Rattle.i80.specs.declared.StackPair.TheVariants.{B as StackB, D as StackD, H as StackH, Psw}
use Rattle.i80.specs.declared.Op.{Op}
use Rattle.i80.specs.declared.Op.TheVariants.{Add, Adc, Sub, Sbb, Ana, Xra, Ora, Cmp}
use Rattle.i80.specs.declared.Word.{Word}
use Rattle.i80.specs.declared.Word.TheVariants.{Num, Code}
use Rattle.i80.specs.declared.Goal.{Goal}
use Rattle.i80.specs.declared.Goal.TheVariants.{At, Boot, Bdos}
use Rattle.i80.specs.declared.Instr80.{Instr80}
use Rattle.i80.specs.declared.Instr80.TheVariants.{Nop, Mov, Mvi, Lxi, Lda, Sta, Lhld, Shld, Ldax, Stax, Xchg, Xthl, Sphl, Pchl, Alu, AluI, Inr, Dcr, Inx, Dcx, Dad, Daa, Cma, Stc, Cmc, Rlc, Rrc, Ral, Rar, Push, Pop, Jmp, Jif, Call, Cif, Ret, Rif, Rst0, In, Out}
use Rattle.i86.specs.declared.Reg8.{Reg8}
use Rattle.i86.specs.declared.Reg8.TheVariants.{Al, Cl, Dl, Bl, Ah, Ch, Dh, Bh}
use Rattle.i86.specs.declared.Reg16.{Reg16}
use Rattle.i86.specs.declared.Reg16.TheVariants.{Cx, Dx, Bx, Sp, Si}
use Rattle.i86.specs.declared.StackReg.TheVariants.{Ax as StackAx, Cx as StackCx, Dx as StackDx, Bx as StackBx, Si as StackSi}
use Rattle.i86.specs.declared.Ptr.TheVariants.{Bx as PtrBx, Si as PtrSi}
use Rattle.i86.specs.declared.Operand8.{Operand8}
use Rattle.i86.specs.declared.Operand8.TheVariants.{Reg as Reg_8, Mem as Mem_8}
use Rattle.i86.specs.declared.Operand16.TheVariants.{Reg as Reg_16, Direct}
use Rattle.i86.specs.declared.AluOp.{AluOp}
use Rattle.i86.specs.declared.AluOp.TheVariants.{Add as Add_86, Or, Adc as Adc_86, Sbb as Sbb_86, And, Sub as Sub_86, Xor, Cmp as Cmp_86}
use Rattle.i86.specs.declared.Count.TheVariants.{Inc, Dec}
use Rattle.i86.specs.declared.Rotate.TheVariants.{Rol, Ror, Rcl, Rcr}
use Rattle.i86.specs.declared.Jump.{Jump}
use Rattle.i86.specs.declared.Jump.TheVariants.{Jb, Jnb, Jz, Jnz, Js, Jns, Jp, Jnp}
use Rattle.i86.specs.declared.Instr86.TheVariants.{MovReg8, MovMem8, MovAlDirect, MovDirectAl, MovNum8, MovNum16, MovMemNum, MovReg16, MovDirect16, Alu as Alu_86, AluNum, Add16, Count8, Count16, Push as Push_86, Pop as Pop_86, Xchg8, Xchg16, Rotate8, Rotate16, Not8, Daa as Daa_86, Sahf, Lahf, Cmc as Cmc_86, Stc as Stc_86, Nop as Nop_86, JmpBx, Ret as Ret_86, InAl, OutAl}
use Rattle.asm86_line_types.specs.declared.line.Label.{Label}
use Rattle.asm86_line_types.specs.declared.line.Label.TheVariants.{At as Line, Skip, Sys, End}
use Rattle.asm86_line_types.specs.declared.line.Stmt86.{Stmt86}
use Rattle.asm86_line_types.specs.declared.line.Stmt86.TheVariants.{Mark, Run, MovOffset, Jmp as JmpTo, Jcc, Call as CallTo}

-- the byte register of a register
abbrev pub reg_of : Reg → Reg8
reg_of A = Al
reg_of B = Ch
reg_of C = Cl
reg_of D = Dh
reg_of E = Dl
reg_of H = Bh
reg_of L = Bl

-- the byte operand of a register or M
abbrev pub byte_operand : Src → Operand8
byte_operand (InReg r) = Reg_8 (reg_of r)
byte_operand Mem = Mem_8 PtrBx

-- the word register of a pair
abbrev pub word_register : Pair → Reg16
word_register PairB = Cx
word_register PairD = Dx
word_register PairH = Bx
word_register PairSp = Sp

abbrev pub op86_of : Op → AluOp
op86_of Add = Add_86
op86_of Adc = Adc_86
op86_of Sub = Sub_86
op86_of Sbb = Sbb_86
op86_of Ana = And
op86_of Xra = Xor
op86_of Ora = Or
op86_of Cmp = Cmp_86

-- the jump of the opposite condition
abbrev pub unless : Cond → Jump
unless Nz = Jz
unless Z = Jnz
unless Nc = Jb
unless Cc = Jnb
unless Po = Jp
unless Pe = Jnp
unless Plus = Js
unless Minus = Jns

-- the label of a target
abbrev pub label_of_goal : Goal → Label
label_of_goal (At a) = Line a
label_of_goal Boot = End
label_of_goal Bdos = Sys

-- MOV of a byte to a register or to M
abbrev pub mov : Src → Src → List Stmt86
mov (InReg r) s = Run (MovReg8 (reg_of r) (byte_operand s)) ∷ []
mov Mem (InReg r) = Run (MovMem8 PtrBx (reg_of r)) ∷ []
mov Mem Mem = []

abbrev pub mvi : Src → ℕ → List Stmt86
mvi (InReg r) n = Run (MovNum8 (reg_of r) n) ∷ []
mvi Mem n = Run (MovMemNum PtrBx n) ∷ []

abbrev pub lxi : Pair → Word → List Stmt86
lxi p (Num w) = Run (MovNum16 (word_register p) w) ∷ []
lxi p (Code a) = MovOffset (word_register p) (Line a) ∷ []

-- a statement with the flags saved in AH round it
abbrev pub saved : Bool → Stmt86 → List Stmt86
saved true x = Run Lahf ∷ (x ∷ (Run Sahf ∷ []))
saved false x = x ∷ []

-- DAD changes CY alone: the carry goes round through SI
abbrev pub dad : Bool → Pair → List Stmt86
dad true p = Run Lahf ∷ (Run (Add16 Bx (word_register p)) ∷ (Run (Rotate16 Rcr Si) ∷ (Run Sahf ∷ (Run (Rotate16 Rcl Si) ∷ []))))
dad false p = Run (Add16 Bx (word_register p)) ∷ []

-- PUSH PSW puts A above the flag byte
abbrev pub push : StackPair → List Stmt86
push StackB = Run (Push_86 StackCx) ∷ []
push StackD = Run (Push_86 StackDx) ∷ []
push StackH = Run (Push_86 StackBx) ∷ []
push Psw = Run Lahf ∷ (Run (Xchg8 Al Ah) ∷ (Run (Push_86 StackAx) ∷ (Run (Xchg8 Al Ah) ∷ [])))

abbrev pub pop : StackPair → List Stmt86
pop StackB = Run (Pop_86 StackCx) ∷ []
pop StackD = Run (Pop_86 StackDx) ∷ []
pop StackH = Run (Pop_86 StackBx) ∷ []
pop Psw = Run (Pop_86 StackAx) ∷ (Run (Xchg8 Al Ah) ∷ (Run Sahf ∷ []))

-- CALL 0 ends the program as JMP 0 does
abbrev pub call : Goal → List Stmt86
call (At a) = CallTo (Line a) ∷ []
call Boot = JmpTo End ∷ []
call Bdos = CallTo Sys ∷ []

-- statements that are jumped over where the condition does not hold; the label has the instruction's own address
abbrev pub where_holds : Cond → ℕ → List Stmt86 → List Stmt86
where_holds c at xs = Jcc (unless c) (Skip at) ∷ (xs ++ Mark (Skip at) ∷ [])

-- the statements of the instruction at an address, with or without a save of the flags
abbrev pub template : Instr80 → ℕ → Bool → List Stmt86
template Nop at save = Run Nop_86 ∷ []
template (Mov to from) at save = mov to from
template (Mvi to n) at save = mvi to n
template (Lxi p w) at save = lxi p w
template (Lda a) at save = Run (MovAlDirect a) ∷ []
template (Sta a) at save = Run (MovDirectAl a) ∷ []
template (Lhld a) at save = Run (MovReg16 Bx (Direct a)) ∷ []
template (Shld a) at save = Run (MovDirect16 a Bx) ∷ []
template (Ldax p) at save = Run (MovReg16 Si (Reg_16 (word_register p))) ∷ (Run (MovReg8 Al (Mem_8 PtrSi)) ∷ [])
template (Stax p) at save = Run (MovReg16 Si (Reg_16 (word_register p))) ∷ (Run (MovMem8 PtrSi Al) ∷ [])
template Xchg at save = Run (Xchg16 Bx Dx) ∷ []
template Xthl at save = Run (Pop_86 StackSi) ∷ (Run (Push_86 StackBx) ∷ (Run (MovReg16 Bx (Reg_16 Si)) ∷ []))
template Sphl at save = Run (MovReg16 Sp (Reg_16 Bx)) ∷ []
template Pchl at save = Run JmpBx ∷ []
template (Alu op s) at save = Run (Alu_86 (op86_of op) (byte_operand s)) ∷ []
template (AluI op n) at save = Run (AluNum (op86_of op) n) ∷ []
template (Inr s) at save = Run (Count8 Inc (byte_operand s)) ∷ []
template (Dcr s) at save = Run (Count8 Dec (byte_operand s)) ∷ []
template (Inx p) at save = saved save (Run (Count16 Inc (word_register p)))
template (Dcx p) at save = saved save (Run (Count16 Dec (word_register p)))
template (Dad p) at save = dad save p
template Daa at save = Run Daa_86 ∷ []
template Cma at save = Run (Not8 Al) ∷ []
template Stc at save = Run Stc_86 ∷ []
template Cmc at save = Run Cmc_86 ∷ []
template Rlc at save = Run (Rotate8 Rol Al) ∷ []
template Rrc at save = Run (Rotate8 Ror Al) ∷ []
template Ral at save = Run (Rotate8 Rcl Al) ∷ []
template Rar at save = Run (Rotate8 Rcr Al) ∷ []
template (Push p) at save = push p
template (Pop p) at save = pop p
template (Jmp t) at save = JmpTo (label_of_goal t) ∷ []
template (Jif c t) at save = where_holds c at (JmpTo (label_of_goal t) ∷ [])
template (Call t) at save = call t
template (Cif c t) at save = where_holds c at (call t)
template Ret at save = Run Ret_86 ∷ []
template (Rif c) at save = where_holds c at (Run Ret_86 ∷ [])
template Rst0 at save = JmpTo End ∷ []
template (In port) at save = Run (InAl port) ∷ []
template (Out port) at save = Run (OutAl port) ∷ []
