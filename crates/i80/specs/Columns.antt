-- The columns of the instruction table (Intel 8080 Assembly Language Programming Manual, chapter 2, "The 8080 instruction set"): the
-- bytes of each instruction, the parts that it uses, the parts that it defines, and whether it ends a block.
use Rattle.std.specs.Prelude.{ℕ, Bool, true, false, if◌then◌else◌, [], ◌∷◌}
use Rattle.cells.specs.declared.Cond.{Cond}
use Rattle.cells.specs.declared.Cond.TheVariants.{Nz, Z as Zero, Nc, C as Carry, Po, Pe, P as Plus, M as Minus}
use Rattle.cells.specs.declared.Part.{Part}
use Rattle.cells.specs.declared.Part.TheVariants.{A, B, C, D, E, H, L, S, Z, Ac, P, Cy}
use Rattle.cells.specs.Parts.{Parts, nothing, everything, only, union, these}
use Rattle.i80.specs.declared.Reg.{Reg as Register}
use Rattle.i80.specs.declared.Reg.TheVariants.{A as RegA, B as RegB, C as RegC, D as RegD, E as RegE, H as RegH, L as RegL}
use Rattle.i80.specs.declared.Src.{Src}
use Rattle.i80.specs.declared.Src.TheVariants.{Reg, Mem}
use Rattle.i80.specs.declared.Pair.{Pair}
use Rattle.i80.specs.declared.Pair.TheVariants.{B as PairB, D as PairD, H as PairH, Sp}
use Rattle.i80.specs.declared.StackPair.{StackPair}
use Rattle.i80.specs.declared.StackPair.TheVariants.{B as StackB, D as StackD, H as StackH, Psw}
use Rattle.i80.specs.declared.Op.{Op}
use Rattle.i80.specs.declared.Op.TheVariants.{Adc, Sub, Sbb, Xra, Cmp}
use Rattle.i80.specs.declared.Word.TheVariants.{Code}
use Rattle.i80.specs.declared.Goal.{Goal}
use Rattle.i80.specs.declared.Goal.TheVariants.{At, Boot, Bdos}
use Rattle.i80.specs.declared.Instr80.{Instr80}
use Rattle.i80.specs.declared.Instr80.TheVariants.{Nop, Mov, Mvi, Lxi, Lda, Sta, Lhld, Shld, Ldax, Stax, Xchg, Xthl, Sphl, Pchl, Alu, AluI, Inr, Dcr, Inx, Dcx, Dad, Daa, Cma, Stc, Cmc, Rlc, Rrc, Ral, Rar, Push, Pop, Jmp, Jif, Call, Cif, Ret, Rif, Rst0, In, Out}

-- LDAX and STAX are of BC and DE alone
abbrev pub is_indirect : Pair → Bool
is_indirect PairB = true
is_indirect PairD = true
is_indirect PairH = false
is_indirect Sp = false

-- the 8080 has no MOV M,M, no LDAX or STAX of another pair; no code address goes to SP
abbrev pub is_well_formed : Instr80 → Bool
is_well_formed (Mov Mem Mem) = false
is_well_formed (Ldax p) = is_indirect p
is_well_formed (Stax p) = is_indirect p
is_well_formed (Lxi Sp (Code a)) = false
is_well_formed i = true

-- the bytes of an instruction: 1, with an immediate byte or a port 2, with a word, an address or a target 3
abbrev pub length80 : Instr80 → ℕ
length80 Nop = 1
length80 (Mov to from) = 1
length80 (Mvi to n) = 2
length80 (Lxi p w) = 3
length80 (Lda a) = 3
length80 (Sta a) = 3
length80 (Lhld a) = 3
length80 (Shld a) = 3
length80 (Ldax p) = 1
length80 (Stax p) = 1
length80 Xchg = 1
length80 Xthl = 1
length80 Sphl = 1
length80 Pchl = 1
length80 (Alu op s) = 1
length80 (AluI op n) = 2
length80 (Inr s) = 1
length80 (Dcr s) = 1
length80 (Inx p) = 1
length80 (Dcx p) = 1
length80 (Dad p) = 1
length80 Daa = 1
length80 Cma = 1
length80 Stc = 1
length80 Cmc = 1
length80 Rlc = 1
length80 Rrc = 1
length80 Ral = 1
length80 Rar = 1
length80 (Push p) = 1
length80 (Pop p) = 1
length80 (Jmp t) = 3
length80 (Jif cond t) = 3
length80 (Call t) = 3
length80 (Cif cond t) = 3
length80 Ret = 1
length80 (Rif cond) = 1
length80 Rst0 = 1
length80 (In n) = 2
length80 (Out n) = 2

-- a register's part
abbrev pub part_of_reg : Register → Part
part_of_reg RegA = A
part_of_reg RegB = B
part_of_reg RegC = C
part_of_reg RegD = D
part_of_reg RegE = E
part_of_reg RegH = H
part_of_reg RegL = L

-- a byte operand that is read: a register, or for M the address in HL
abbrev pub read : Src → Parts
read (Reg r) = only (part_of_reg r)
read Mem = these (H ∷ L ∷ [])

-- a byte operand that is written: M uses the address in HL, and a register uses nothing
abbrev pub address_parts : Src → Parts
address_parts (Reg r) = nothing
address_parts Mem = these (H ∷ L ∷ [])

-- a byte operand that is written: it defines a register, and M is no part
abbrev pub parts_written : Src → Parts
parts_written (Reg r) = only (part_of_reg r)
parts_written Mem = nothing

-- a pair's two registers; SP is no part
abbrev pub pair : Pair → Parts
pair PairB = these (B ∷ C ∷ [])
pair PairD = these (D ∷ E ∷ [])
pair PairH = these (H ∷ L ∷ [])
pair Sp = nothing

-- S Z AC P CY
abbrev pub five_flags : Parts
five_flags = these (S ∷ Z ∷ Ac ∷ P ∷ Cy ∷ [])

-- what PUSH stores and POP loads; PSW is A and the five flags
abbrev pub stack_pair : StackPair → Parts
stack_pair StackB = these (B ∷ C ∷ [])
stack_pair StackD = these (D ∷ E ∷ [])
stack_pair StackH = these (H ∷ L ∷ [])
stack_pair Psw = union (only A) five_flags

-- the carry that ADC and SBB read
abbrev pub carry_used : Op → Parts
carry_used Adc = only Cy
carry_used Sbb = only Cy
carry_used op = nothing

-- an operation puts its result in A, but CMP leaves A as it was
abbrev pub result_in_a : Op → Parts
result_in_a Cmp = nothing
result_in_a op = only A

-- the flag of a condition
abbrev pub flag_of_condition : Cond → Parts
flag_of_condition Nz = only Z
flag_of_condition Zero = only Z
flag_of_condition Nc = only Cy
flag_of_condition Carry = only Cy
flag_of_condition Po = only P
flag_of_condition Pe = only P
flag_of_condition Plus = only S
flag_of_condition Minus = only S

-- the system at 5 takes its function in C and its argument in E or DE (CP/M 2.2 Operating System Manual, "BDOS functions")
abbrev pub asked_of : Goal → Parts
asked_of Bdos = these (C ∷ D ∷ E ∷ [])
asked_of Boot = nothing
asked_of (At a) = nothing

-- after the system at 5 no part is what it was
abbrev pub changed_by : Goal → Parts
changed_by Bdos = everything
changed_by Boot = nothing
changed_by (At a) = nothing

-- XRA A and SUB A, which give 0 whatever A holds
abbrev pub gives_zero : Op → Src → Bool
gives_zero Xra (Reg RegA) = true
gives_zero Sub (Reg RegA) = true
gives_zero op s = false

-- the parts that an instruction uses
abbrev pub uses80 : Instr80 → Parts
uses80 Nop = nothing
uses80 (Mov to from) = union (address_parts to) (read from)
uses80 (Mvi to n) = address_parts to
uses80 (Lxi p w) = nothing
uses80 (Lda a) = nothing
uses80 (Sta a) = only A
uses80 (Lhld a) = nothing
uses80 (Shld a) = these (H ∷ L ∷ [])
uses80 (Ldax p) = pair p
uses80 (Stax p) = union (only A) (pair p)
uses80 Xchg = these (D ∷ E ∷ H ∷ L ∷ [])
uses80 Xthl = these (H ∷ L ∷ [])
uses80 Sphl = these (H ∷ L ∷ [])
uses80 Pchl = these (H ∷ L ∷ [])
uses80 (Alu op s) = (if gives_zero op s then nothing else union (union (only A) (read s)) (carry_used op))
uses80 (AluI op n) = union (only A) (carry_used op)
uses80 (Inr s) = read s
uses80 (Dcr s) = read s
uses80 (Inx p) = pair p
uses80 (Dcx p) = pair p
uses80 (Dad p) = union (these (H ∷ L ∷ [])) (pair p)
uses80 Daa = these (A ∷ Ac ∷ Cy ∷ [])
uses80 Cma = only A
uses80 Stc = nothing
uses80 Cmc = only Cy
uses80 Rlc = only A
uses80 Rrc = only A
uses80 Ral = these (A ∷ Cy ∷ [])
uses80 Rar = these (A ∷ Cy ∷ [])
uses80 (Push p) = stack_pair p
uses80 (Pop p) = nothing
uses80 (Jmp t) = asked_of t
uses80 (Jif cond t) = union (flag_of_condition cond) (asked_of t)
uses80 (Call t) = asked_of t
uses80 (Cif cond t) = union (flag_of_condition cond) (asked_of t)
uses80 Ret = nothing
uses80 (Rif cond) = flag_of_condition cond
uses80 Rst0 = nothing
uses80 (In n) = nothing
uses80 (Out n) = only A

-- the parts that an instruction defines, whatever they held; a conditional one defines nothing
abbrev pub defs80 : Instr80 → Parts
defs80 Nop = nothing
defs80 (Mov to from) = parts_written to
defs80 (Mvi to n) = parts_written to
defs80 (Lxi p w) = pair p
defs80 (Lda a) = only A
defs80 (Sta a) = nothing
defs80 (Lhld a) = these (H ∷ L ∷ [])
defs80 (Shld a) = nothing
defs80 (Ldax p) = only A
defs80 (Stax p) = nothing
defs80 Xchg = these (D ∷ E ∷ H ∷ L ∷ [])
defs80 Xthl = these (H ∷ L ∷ [])
defs80 Sphl = nothing
defs80 Pchl = nothing
defs80 (Alu op s) = union (result_in_a op) five_flags
defs80 (AluI op n) = union (result_in_a op) five_flags
defs80 (Inr s) = union (parts_written s) (these (S ∷ Z ∷ Ac ∷ P ∷ []))
defs80 (Dcr s) = union (parts_written s) (these (S ∷ Z ∷ Ac ∷ P ∷ []))
defs80 (Inx p) = pair p
defs80 (Dcx p) = pair p
defs80 (Dad p) = these (H ∷ L ∷ Cy ∷ [])
defs80 Daa = union (only A) five_flags
defs80 Cma = only A
defs80 Stc = only Cy
defs80 Cmc = only Cy
defs80 Rlc = these (A ∷ Cy ∷ [])
defs80 Rrc = these (A ∷ Cy ∷ [])
defs80 Ral = these (A ∷ Cy ∷ [])
defs80 Rar = these (A ∷ Cy ∷ [])
defs80 (Push p) = nothing
defs80 (Pop p) = stack_pair p
defs80 (Jmp t) = changed_by t
defs80 (Jif cond t) = nothing
defs80 (Call t) = changed_by t
defs80 (Cif cond t) = nothing
defs80 Ret = nothing
defs80 (Rif cond) = nothing
defs80 Rst0 = nothing
defs80 (In n) = only A
defs80 (Out n) = nothing

-- whether an instruction ends a block: it may go elsewhere than to the next one, or it asks a port
abbrev pub ends80 : Instr80 → Bool
ends80 Pchl = true
ends80 (Jmp t) = true
ends80 (Jif cond t) = true
ends80 (Call t) = true
ends80 (Cif cond t) = true
ends80 Ret = true
ends80 (Rif cond) = true
ends80 Rst0 = true
ends80 (In n) = true
ends80 (Out n) = true
ends80 i = false
