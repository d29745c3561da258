-- The encoding of each instruction: the table of the Intel 8086 Family User's Manual, "Machine instruction encoding", for the forms
-- of this subset.
use Rattle.std.specs.Prelude.{ℕ, ◌+◌, ◌*◌, ◌/◌, ◌%◌, List, [], ◌∷◌}
use Rattle.i86.specs.declared.Reg8.{Reg8}
use Rattle.i86.specs.declared.Reg8.TheVariants.{Al, Cl, Dl, Bl, Ah, Ch, Dh, Bh}
use Rattle.i86.specs.declared.Reg16.{Reg16}
use Rattle.i86.specs.declared.Reg16.TheVariants.{Ax, Cx, Dx, Bx, Sp, Si}
use Rattle.i86.specs.declared.StackReg.{StackReg}
use Rattle.i86.specs.declared.StackReg.TheVariants.{Ax as StackAx, Cx as StackCx, Dx as StackDx, Bx as StackBx, Si as StackSi}
use Rattle.i86.specs.declared.Ptr.{Ptr}
use Rattle.i86.specs.declared.Ptr.TheVariants.{Bx as PtrBx, Si as PtrSi}
use Rattle.i86.specs.declared.Operand8.{Operand8}
use Rattle.i86.specs.declared.Operand8.TheVariants.{Reg, Mem}
use Rattle.i86.specs.declared.Operand16.TheVariants.{Reg as Reg_16, Direct}
use Rattle.i86.specs.declared.AluOp.{AluOp}
use Rattle.i86.specs.declared.AluOp.TheVariants.{Add, Or, Adc, Sbb, And, Sub, Xor, Cmp}
use Rattle.i86.specs.declared.Count.{Count}
use Rattle.i86.specs.declared.Count.TheVariants.{Inc, Dec}
use Rattle.i86.specs.declared.Rotate.{Rotate}
use Rattle.i86.specs.declared.Rotate.TheVariants.{Rol, Ror, Rcl, Rcr}
use Rattle.i86.specs.declared.Jump.{Jump}
use Rattle.i86.specs.declared.Jump.TheVariants.{Jb, Jnb, Jz, Jnz, Js, Jns, Jp, Jnp}
use Rattle.i86.specs.declared.Instr86.{Instr86}
use Rattle.i86.specs.declared.Instr86.TheVariants.{MovReg8, MovMem8, MovAlDirect, MovDirectAl, MovNum8, MovNum16, MovMemNum, MovReg16, MovDirect16, MovAxDs, MovSsAx, Alu, AluNum, OrClCl, Add16, Count8, Count16, Push, Pop, Xchg8, Xchg16, Rotate8, Rotate16, Not8, Daa, Sahf, Lahf, Cmc, Stc, Nop, Jcc, JmpNear, JmpShort, JmpBx, CallNear, Ret, Int224, InAl, OutAl}

-- the number that stands for a byte register in a reg or rm field
abbrev pub code8 : Reg8 → ℕ
code8 Al = 0
code8 Cl = 1
code8 Dl = 2
code8 Bl = 3
code8 Ah = 4
code8 Ch = 5
code8 Dh = 6
code8 Bh = 7

-- the number that stands for a word register
abbrev pub code16 : Reg16 → ℕ
code16 Ax = 0
code16 Cx = 1
code16 Dx = 2
code16 Bx = 3
code16 Sp = 4
code16 Si = 6

-- the word register that PUSH and POP name
abbrev pub reg_of_stack : StackReg → Reg16
reg_of_stack StackAx = Ax
reg_of_stack StackCx = Cx
reg_of_stack StackDx = Dx
reg_of_stack StackBx = Bx
reg_of_stack StackSi = Si

-- the rm field, with mod 00, of [BX] and [SI]
abbrev pub code_of_ptr : Ptr → ℕ
code_of_ptr PtrBx = 7
code_of_ptr PtrSi = 4

-- the reg field of an operation on AL, which also gives its opcodes
abbrev pub code_of_alu : AluOp → ℕ
code_of_alu Add = 0
code_of_alu Or = 1
code_of_alu Adc = 2
code_of_alu Sbb = 3
code_of_alu And = 4
code_of_alu Sub = 5
code_of_alu Xor = 6
code_of_alu Cmp = 7

-- the reg field of INC and DEC
abbrev pub code_of_count : Count → ℕ
code_of_count Inc = 0
code_of_count Dec = 1

-- the reg field of a rotation
abbrev pub code_of_rotate : Rotate → ℕ
code_of_rotate Rol = 0
code_of_rotate Ror = 1
code_of_rotate Rcl = 2
code_of_rotate Rcr = 3

-- the opcode of a conditional jump
abbrev pub code_of_jump : Jump → ℕ
code_of_jump Jb = 0x72
code_of_jump Jnb = 0x73
code_of_jump Jz = 0x74
code_of_jump Jnz = 0x75
code_of_jump Js = 0x78
code_of_jump Jns = 0x79
code_of_jump Jp = 0x7A
code_of_jump Jnp = 0x7B

-- the byte of two registers: mod 11, reg, rm
abbrev pub two : ℕ → ℕ → ℕ
two reg rm = 0xC0 + (8 * reg + rm)

-- the byte of a register and a byte in memory: mod 00, reg, rm
abbrev pub one : ℕ → ℕ → ℕ
one reg rm = 8 * reg + rm

-- the byte of a register and a byte operand
abbrev pub with_operand : ℕ → Operand8 → ℕ
with_operand reg (Reg r) = two reg (code8 r)
with_operand reg (Mem p) = one reg (code_of_ptr p)

-- a word as two bytes, the low one first, before more bytes
abbrev pub word_then : ℕ → List ℕ → List ℕ
word_then w rest = (w % 256) ∷ ((w / 256) ∷ rest)

-- the bytes of an instruction: 1 to 4 in this subset
abbrev pub enc86 : Instr86 → List ℕ
enc86 (MovReg8 r o) = 0x8A ∷ (with_operand (code8 r) o ∷ [])
enc86 (MovMem8 p r) = 0x88 ∷ (one (code8 r) (code_of_ptr p) ∷ [])
enc86 (MovAlDirect a) = 0xA0 ∷ word_then a []
enc86 (MovDirectAl a) = 0xA2 ∷ word_then a []
enc86 (MovNum8 r n) = (0xB0 + code8 r) ∷ (n ∷ [])
enc86 (MovNum16 r w) = (0xB8 + code16 r) ∷ word_then w []
enc86 (MovMemNum p n) = 0xC6 ∷ (one 0 (code_of_ptr p) ∷ (n ∷ []))
enc86 (MovReg16 r (Reg_16 q)) = 0x8B ∷ (two (code16 r) (code16 q) ∷ [])
enc86 (MovReg16 r (Direct a)) = 0x8B ∷ (one (code16 r) 6 ∷ word_then a [])
enc86 (MovDirect16 a r) = 0x89 ∷ (one (code16 r) 6 ∷ word_then a [])
enc86 MovAxDs = 0x8C ∷ (0xD8 ∷ [])
enc86 MovSsAx = 0x8E ∷ (0xD0 ∷ [])
enc86 (Alu op o) = (8 * code_of_alu op + 2) ∷ (with_operand 0 o ∷ [])
enc86 (AluNum op n) = (8 * code_of_alu op + 4) ∷ (n ∷ [])
enc86 OrClCl = 0x0A ∷ (0xC9 ∷ [])
enc86 (Add16 r q) = 0x03 ∷ (two (code16 r) (code16 q) ∷ [])
enc86 (Count8 c o) = 0xFE ∷ (with_operand (code_of_count c) o ∷ [])
enc86 (Count16 c r) = (0x40 + (8 * code_of_count c + code16 r)) ∷ []
enc86 (Push r) = (0x50 + code16 (reg_of_stack r)) ∷ []
enc86 (Pop r) = (0x58 + code16 (reg_of_stack r)) ∷ []
enc86 (Xchg8 r q) = 0x86 ∷ (two (code8 r) (code8 q) ∷ [])
enc86 (Xchg16 r q) = 0x87 ∷ (two (code16 r) (code16 q) ∷ [])
enc86 (Rotate8 k r) = 0xD0 ∷ (two (code_of_rotate k) (code8 r) ∷ [])
enc86 (Rotate16 k r) = 0xD1 ∷ (two (code_of_rotate k) (code16 r) ∷ [])
enc86 (Not8 r) = 0xF6 ∷ (two 2 (code8 r) ∷ [])
enc86 Daa = 0x27 ∷ []
enc86 Sahf = 0x9E ∷ []
enc86 Lahf = 0x9F ∷ []
enc86 Cmc = 0xF5 ∷ []
enc86 Stc = 0xF9 ∷ []
enc86 Nop = 0x90 ∷ []
enc86 (Jcc j d) = code_of_jump j ∷ (d ∷ [])
enc86 (JmpNear d) = 0xE9 ∷ word_then d []
enc86 (JmpShort d) = 0xEB ∷ (d ∷ [])
enc86 JmpBx = 0xFF ∷ (0xE3 ∷ [])
enc86 (CallNear d) = 0xE8 ∷ word_then d []
enc86 Ret = 0xC3 ∷ []
enc86 Int224 = 0xCD ∷ (0xE0 ∷ [])
enc86 (InAl n) = 0xE4 ∷ (n ∷ [])
enc86 (OutAl n) = 0xE6 ∷ (n ∷ [])
