-- The encoding of each instruction (Intel 8080 Assembly Language Programming Manual, chapter 2, "The 8080 instruction set", with the
-- fields that it names; Appendix A has the same as a list of opcodes).
use Rattle.std.specs.Prelude.{ℕ, ◌+◌, ◌*◌, ◌/◌, ◌%◌, List, [], ◌∷◌}
use Rattle.cells.specs.declared.Cond.{Cond}
use Rattle.cells.specs.declared.Cond.TheVariants.{Nz, Z, Nc, C as Carry, Po, Pe, P, M}
use Rattle.i80.specs.declared.Reg.TheVariants.{A, B, C, D, E, H, L}
use Rattle.i80.specs.declared.Src.{Src}
use Rattle.i80.specs.declared.Src.TheVariants.{Reg, Mem}
use Rattle.i80.specs.declared.Pair.{Pair}
use Rattle.i80.specs.declared.Pair.TheVariants.{B as PairB, D as PairD, H as PairH, Sp}
use Rattle.i80.specs.declared.StackPair.{StackPair}
use Rattle.i80.specs.declared.StackPair.TheVariants.{B as StackB, D as StackD, H as StackH, Psw}
use Rattle.i80.specs.declared.Op.{Op}
use Rattle.i80.specs.declared.Op.TheVariants.{Add, Adc, Sub, Sbb, Ana, Xra, Ora, Cmp}
use Rattle.i80.specs.declared.Word.{Word}
use Rattle.i80.specs.declared.Word.TheVariants.{Num, Code}
use Rattle.i80.specs.declared.Goal.{Goal}
use Rattle.i80.specs.declared.Goal.TheVariants.{At, Boot, Bdos}
use Rattle.i80.specs.declared.Instr80.{Instr80}
use Rattle.i80.specs.declared.Instr80.TheVariants.{Nop, Mov, Mvi, Lxi, Lda, Sta, Lhld, Shld, Ldax, Stax, Xchg, Xthl, Sphl, Pchl, Alu, AluI, Inr, Dcr, Inx, Dcx, Dad, Daa, Cma, Stc, Cmc, Rlc, Rrc, Ral, Rar, Push, Pop, Jmp, Jif, Call, Cif, Ret, Rif, Rst0, In, Out}

-- the number that stands for a byte operand in the fields DDD and SSS
abbrev pub code_of_operand : Src → ℕ
code_of_operand (Reg B) = 0
code_of_operand (Reg C) = 1
code_of_operand (Reg D) = 2
code_of_operand (Reg E) = 3
code_of_operand (Reg H) = 4
code_of_operand (Reg L) = 5
code_of_operand Mem = 6
code_of_operand (Reg A) = 7

-- the number that stands for a pair in the field RP
abbrev pub code_of_pair : Pair → ℕ
code_of_pair PairB = 0
code_of_pair PairD = 1
code_of_pair PairH = 2
code_of_pair Sp = 3

abbrev pub code_of_stack_pair : StackPair → ℕ
code_of_stack_pair StackB = 0
code_of_stack_pair StackD = 1
code_of_stack_pair StackH = 2
code_of_stack_pair Psw = 3

-- the number that stands for a condition in the field CCC
abbrev pub code_of_condition : Cond → ℕ
code_of_condition Nz = 0
code_of_condition Z = 1
code_of_condition Nc = 2
code_of_condition Carry = 3
code_of_condition Po = 4
code_of_condition Pe = 5
code_of_condition P = 6
code_of_condition M = 7

-- the number that stands for an operation on A
abbrev pub code_of_operation : Op → ℕ
code_of_operation Add = 0
code_of_operation Adc = 1
code_of_operation Sub = 2
code_of_operation Sbb = 3
code_of_operation Ana = 4
code_of_operation Xra = 5
code_of_operation Ora = 6
code_of_operation Cmp = 7

-- the word that LXI loads: a code address is a number
abbrev pub number_of : Word → ℕ
number_of (Num n) = n
number_of (Code a) = a

-- the address of a target: the system's warm start is at 0, the BDOS at 5 (CP/M 2.2 Operating System Manual, "CP/M organization")
abbrev pub address_of : Goal → ℕ
address_of (At a) = a
address_of Boot = 0
address_of Bdos = 5

-- an opcode that a word follows, low byte first
abbrev pub with_word : ℕ → ℕ → List ℕ
with_word opcode w = opcode ∷ (w % 256 ∷ (w / 256 ∷ []))

-- the bytes of an instruction: 1 to 3
abbrev pub enc80 : Instr80 → List ℕ
enc80 Nop = 0x00 ∷ []
enc80 (Mov to from) = (0x40 + 8 * code_of_operand to + code_of_operand from) ∷ []
enc80 (Mvi to n) = (0x06 + 8 * code_of_operand to) ∷ (n ∷ [])
enc80 (Lxi p w) = with_word (0x01 + 0x10 * code_of_pair p) (number_of w)
enc80 (Lda a) = with_word 0x3A a
enc80 (Sta a) = with_word 0x32 a
enc80 (Lhld a) = with_word 0x2A a
enc80 (Shld a) = with_word 0x22 a
enc80 (Ldax p) = (0x0A + 0x10 * code_of_pair p) ∷ []
enc80 (Stax p) = (0x02 + 0x10 * code_of_pair p) ∷ []
enc80 Xchg = 0xEB ∷ []
enc80 Xthl = 0xE3 ∷ []
enc80 Sphl = 0xF9 ∷ []
enc80 Pchl = 0xE9 ∷ []
enc80 (Alu op s) = (0x80 + 8 * code_of_operation op + code_of_operand s) ∷ []
enc80 (AluI op n) = (0xC6 + 8 * code_of_operation op) ∷ (n ∷ [])
enc80 (Inr s) = (0x04 + 8 * code_of_operand s) ∷ []
enc80 (Dcr s) = (0x05 + 8 * code_of_operand s) ∷ []
enc80 (Inx p) = (0x03 + 0x10 * code_of_pair p) ∷ []
enc80 (Dcx p) = (0x0B + 0x10 * code_of_pair p) ∷ []
enc80 (Dad p) = (0x09 + 0x10 * code_of_pair p) ∷ []
enc80 Daa = 0x27 ∷ []
enc80 Cma = 0x2F ∷ []
enc80 Stc = 0x37 ∷ []
enc80 Cmc = 0x3F ∷ []
enc80 Rlc = 0x07 ∷ []
enc80 Rrc = 0x0F ∷ []
enc80 Ral = 0x17 ∷ []
enc80 Rar = 0x1F ∷ []
enc80 (Push p) = (0xC5 + 0x10 * code_of_stack_pair p) ∷ []
enc80 (Pop p) = (0xC1 + 0x10 * code_of_stack_pair p) ∷ []
enc80 (Jmp t) = with_word 0xC3 (address_of t)
enc80 (Jif c t) = with_word (0xC2 + 8 * code_of_condition c) (address_of t)
enc80 (Call t) = with_word 0xCD (address_of t)
enc80 (Cif c t) = with_word (0xC4 + 8 * code_of_condition c) (address_of t)
enc80 Ret = 0xC9 ∷ []
enc80 (Rif c) = (0xC0 + 8 * code_of_condition c) ∷ []
enc80 Rst0 = 0xC7 ∷ []
enc80 (In port) = 0xDB ∷ (port ∷ [])
enc80 (Out port) = 0xD3 ∷ (port ∷ [])
