-- A way from the bytes to the instruction, by which the code decodes. Nobody has to believe it: what it finds is proved to be what
-- stands there by the encodings, and nothing else (`decode80`).
use Rattle.std.specs.Prelude.{ℕ, ◌+◌, ◌*◌, ◌/◌, ◌%◌, ◌==◌, cond, List, Option, Some, None, option_map, option_and_then, slice_get}
use Rattle.cells.specs.declared.Cond.{Cond}
use Rattle.cells.specs.declared.Cond.TheVariants.{Nz, Z, Nc, C as Carry, Po, Pe, P, M}
use Rattle.i80.specs.declared.Reg.TheVariants.{A, B, C, D, E, H, L}
use Rattle.i80.specs.declared.Src.{Src}
use Rattle.i80.specs.declared.Src.TheVariants.{Reg, Mem}
use Rattle.i80.specs.declared.Pair.{Pair}
use Rattle.i80.specs.declared.Pair.TheVariants.{B as PairB, D as PairD, H as PairH, Sp}
use Rattle.i80.specs.declared.StackPair.{StackPair}
use Rattle.i80.specs.declared.StackPair.TheVariants.{B as StackB, D as StackD, H as StackH, Psw}
use Rattle.i80.specs.declared.Op.{Op}
use Rattle.i80.specs.declared.Op.TheVariants.{Add, Adc, Sub, Sbb, Ana, Xra, Ora, Cmp}
use Rattle.i80.specs.declared.Word.TheVariants.{Num}
use Rattle.i80.specs.declared.Instr80.{Instr80}
use Rattle.i80.specs.declared.Instr80.TheVariants.{Nop, Mov, Mvi, Lxi, Lda, Sta, Lhld, Shld, Ldax, Stax, Xchg, Xthl, Sphl, Pchl, Alu, AluI, Inr, Dcr, Inx, Dcx, Dad, Daa, Cma, Stc, Cmc, Rlc, Rrc, Ral, Rar, Push, Pop, Jmp, Jif, Call, Cif, Ret, Rif, Rst0, In, Out}
use Rattle.i80_bytes.specs.Decoded.{goal_at}
use Rattle.i80_bytes.specs.declared.decoding.Form.{Form}
use Rattle.i80_bytes.specs.declared.decoding.Form.TheVariants.{Alone, Byte, Word}
use Rattle.i80_bytes.specs.declared.decoding.ByteForm.{ByteForm}
use Rattle.i80_bytes.specs.declared.decoding.ByteForm.TheVariants.{Mvi as ByteMvi, AluI as ByteAlu, In as ByteIn, Out as ByteOut}
use Rattle.i80_bytes.specs.declared.decoding.WordForm.{WordForm}
use Rattle.i80_bytes.specs.declared.decoding.WordForm.TheVariants.{Lxi as WordLxi, Lda as WordLda, Sta as WordSta, Lhld as WordLhld, Shld as WordShld, Jmp as WordJmp, Jif as WordJif, Call as WordCall, Cif as WordCif}

-- what the fields of an opcode name
abbrev pub operand80_of : ℕ → Src
operand80_of n =
    cond (n == 0) (Reg B)
    (cond (n == 1) (Reg C)
    (cond (n == 2) (Reg D) (cond (n == 3) (Reg E) (cond (n == 4) (Reg H) (cond (n == 5) (Reg L) (cond (n == 6) Mem (Reg A)))))))

abbrev pub pair_of : ℕ → Pair
pair_of n = cond (n == 0) PairB (cond (n == 1) PairD (cond (n == 2) PairH Sp))

abbrev pub stack_pair_of : ℕ → StackPair
stack_pair_of n = cond (n == 0) StackB (cond (n == 1) StackD (cond (n == 2) StackH Psw))

abbrev pub condition_of : ℕ → Cond
condition_of n =
    cond (n == 0) Nz
    (cond (n == 1) Z
    (cond (n == 2) Nc (cond (n == 3) Carry (cond (n == 4) Po (cond (n == 5) Pe (cond (n == 6) P M))))))

abbrev pub operation_of : ℕ → Op
operation_of n =
    cond (n == 0) Add
    (cond (n == 1) Adc
    (cond (n == 2) Sub (cond (n == 3) Sbb (cond (n == 4) Ana (cond (n == 5) Xra (cond (n == 6) Ora Cmp))))))

-- one of two, by whether a number is even
abbrev pub by_parity : {X : Type 0} → ℕ → X → X → X
by_parity n even odd = cond (n % 2 == 0) even odd

-- the opcodes below 40H that move A or HL to memory and back, by bits 3 to 5
abbrev pub memory_form : ℕ → Form
memory_form n =
    cond (n == 0) (Alone (Stax PairB))
    (cond (n == 1) (Alone (Ldax PairB))
    (cond (n == 2) (Alone (Stax PairD))
    (cond (n == 3) (Alone (Ldax PairD))
    (cond (n == 4) (Word WordShld) (cond (n == 5) (Word WordLhld) (cond (n == 6) (Word WordSta) (Word WordLda)))))))

-- those that work on A and the flags alone
abbrev pub on_a : ℕ → Instr80
on_a n =
    cond (n == 0) Rlc
    (cond (n == 1) Rrc
    (cond (n == 2) Ral (cond (n == 3) Rar (cond (n == 4) Daa (cond (n == 5) Cma (cond (n == 6) Stc Cmc))))))

-- the opcodes below 40H, by bits 3 to 5 and 0 to 2
abbrev pub low_form : ℕ → ℕ → Option Form
low_form n kind =
    cond (kind == 0) (cond (n == 0) (Some (Alone Nop)) None)
    (cond (kind == 1) (Some (by_parity n (Word (WordLxi (pair_of (n / 2)))) (Alone (Dad (pair_of (n / 2))))))
    (cond (kind == 2) (Some (memory_form n))
    (cond (kind == 3) (Some (by_parity n (Alone (Inx (pair_of (n / 2)))) (Alone (Dcx (pair_of (n / 2))))))
    (cond (kind == 4) (Some (Alone (Inr (operand80_of n))))
    (cond (kind == 5) (Some (Alone (Dcr (operand80_of n)))) (cond (kind == 6) (Some (Byte (ByteMvi (operand80_of n)))) (Some (Alone (on_a n)))))))))

-- from 40H to 7FH: MOV, where there is no MOV M,M
abbrev pub mov_form : ℕ → ℕ → Option Form
mov_form to from = cond (to == 6) (cond (from == 6) None (Some (Alone (Mov (operand80_of to) (operand80_of from))))) (Some (Alone (Mov (operand80_of to) (operand80_of from))))

-- RET, PCHL and SPHL
abbrev pub return_form : ℕ → Option Form
return_form n = cond (n == 1) (Some (Alone Ret)) (cond (n == 5) (Some (Alone Pchl)) (cond (n == 7) (Some (Alone Sphl)) None))

-- JMP, OUT, IN, XTHL and XCHG
abbrev pub jump_form : ℕ → Option Form
jump_form n =
    cond (n == 0) (Some (Word WordJmp))
    (cond (n == 2) (Some (Byte ByteOut))
    (cond (n == 3) (Some (Byte ByteIn)) (cond (n == 4) (Some (Alone Xthl)) (cond (n == 5) (Some (Alone Xchg)) None))))

-- the opcodes from 0C0H up
abbrev pub high_form : ℕ → ℕ → Option Form
high_form n kind =
    cond (kind == 0) (Some (Alone (Rif (condition_of n))))
    (cond (kind == 1) (by_parity n (Some (Alone (Pop (stack_pair_of (n / 2))))) (return_form n))
    (cond (kind == 2) (Some (Word (WordJif (condition_of n))))
    (cond (kind == 3) (jump_form n)
    (cond (kind == 4) (Some (Word (WordCif (condition_of n))))
    (cond (kind == 5) (by_parity n (Some (Alone (Push (stack_pair_of (n / 2))))) (cond (n == 1) (Some (Word WordCall)) None))
    (cond (kind == 6) (Some (Byte (ByteAlu (operation_of n)))) (cond (n == 0) (Some (Alone Rst0)) None)))))))

-- the form that an opcode says
abbrev pub form_of : ℕ → Option Form
form_of opcode =
    cond (opcode / 64 == 0) (low_form (opcode / 8 % 8) (opcode % 8))
    (cond (opcode / 64 == 1) (mov_form (opcode / 8 % 8) (opcode % 8))
    (cond (opcode / 64 == 2) (Some (Alone (Alu (operation_of (opcode / 8 % 8)) (operand80_of (opcode % 8))))) (high_form (opcode / 8 % 8) (opcode % 8))))

abbrev pub instruction_with_byte : ByteForm → ℕ → Instr80
instruction_with_byte (ByteMvi to) n = Mvi to n
instruction_with_byte (ByteAlu op) n = AluI op n
instruction_with_byte ByteIn n = In n
instruction_with_byte ByteOut n = Out n

abbrev pub instruction_with_word : WordForm → ℕ → Instr80
instruction_with_word (WordLxi p) w = Lxi p (Num w)
instruction_with_word WordLda w = Lda w
instruction_with_word WordSta w = Sta w
instruction_with_word WordLhld w = Lhld w
instruction_with_word WordShld w = Shld w
instruction_with_word WordJmp w = Jmp (goal_at w)
instruction_with_word (WordJif c) w = Jif c (goal_at w)
instruction_with_word WordCall w = Call (goal_at w)
instruction_with_word (WordCif c) w = Cif c (goal_at w)

-- a word from its two bytes
abbrev pub word_from : Option ℕ → Option ℕ → Option ℕ
word_from low high = option_and_then (λ (l : ℕ). option_map (λ h. 256 * h + l) high) low

-- the instruction of a form, by the two bytes that follow the opcode
abbrev pub by_form80 : Option Form → Option ℕ → Option ℕ → Option Instr80
by_form80 None second third = None
by_form80 (Some (Alone i)) second third = Some i
by_form80 (Some (Byte f)) second third = option_map (instruction_with_byte f) second
by_form80 (Some (Word f)) second third = option_map (instruction_with_word f) (word_from second third)

abbrev pub by_first : Option ℕ → Option ℕ → Option ℕ → Option Instr80
by_first None second third = None
by_first (Some opcode) second third = by_form80 (form_of opcode) second third

-- the instruction that stands first in the bytes
unfoldable pub decoded80 : List ℕ → Option Instr80
decoded80 bytes = by_first (slice_get bytes 0) (slice_get bytes 1) (slice_get bytes 2)
