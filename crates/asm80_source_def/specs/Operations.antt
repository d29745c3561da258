-- The operations: what each is, its operands, and the cells that it fills (Intel 8080 Assembly Language Programming Manual,
-- chapter 2; CP/M 2.2 Operating System Manual, the assembler, "Assembler directives").
use Rattle.std.specs.Prelude.{ℕ, ◌+◌, List, [], ◌∷◌, codes, Option, Some, None, option_map, find, sum_by}
use Rattle.std.specs.Str.{bytes_eq}
use Rattle.cells.specs.declared.Cond.TheVariants.{Nz, Z, Nc, C, Po, Pe, P, M}
use Rattle.i80.specs.declared.Op.TheVariants.{Add, Adc, Sub, Sbb, Ana, Xra, Ora, Cmp}
use Rattle.i80.specs.declared.Instr80.TheVariants.{Nop, Xchg, Xthl, Sphl, Pchl, Daa, Cma, Stc, Cmc, Rlc, Rrc, Ral, Rar, Ret, Rif}
use Rattle.asm80_source_def.specs.declared.operation.Operation.{Operation}
use Rattle.asm80_source_def.specs.declared.operation.Operation.TheVariants as op
use Rattle.asm80_source_def.specs.declared.operation.Kind.{Kind}
use Rattle.asm80_source_def.specs.declared.operation.Kind.TheVariants.{Register, Pair, Indirect, Stack, Byte, Word, Address, Target, Restart}

-- each operation with what it is
unfoldable pub operation_table : List (List ℕ × Operation)
operation_table =
    (codes "NOP", op.Bare Nop) ∷ (codes "MOV", op.Mov) ∷ (codes "MVI", op.Mvi) ∷ (codes "LXI", op.Lxi)
    ∷ (codes "LDA", op.Lda) ∷ (codes "STA", op.Sta) ∷ (codes "LHLD", op.Lhld) ∷ (codes "SHLD", op.Shld)
    ∷ (codes "LDAX", op.Ldax) ∷ (codes "STAX", op.Stax) ∷ (codes "XCHG", op.Bare Xchg) ∷ (codes "XTHL", op.Bare Xthl)
    ∷ (codes "SPHL", op.Bare Sphl) ∷ (codes "PCHL", op.Bare Pchl)
    ∷ (codes "ADD", op.Alu Add) ∷ (codes "ADC", op.Alu Adc) ∷ (codes "SUB", op.Alu Sub) ∷ (codes "SBB", op.Alu Sbb)
    ∷ (codes "ANA", op.Alu Ana) ∷ (codes "XRA", op.Alu Xra) ∷ (codes "ORA", op.Alu Ora) ∷ (codes "CMP", op.Alu Cmp)
    ∷ (codes "ADI", op.AluI Add) ∷ (codes "ACI", op.AluI Adc) ∷ (codes "SUI", op.AluI Sub) ∷ (codes "SBI", op.AluI Sbb)
    ∷ (codes "ANI", op.AluI Ana) ∷ (codes "XRI", op.AluI Xra) ∷ (codes "ORI", op.AluI Ora) ∷ (codes "CPI", op.AluI Cmp)
    ∷ (codes "INR", op.Inr) ∷ (codes "DCR", op.Dcr) ∷ (codes "INX", op.Inx) ∷ (codes "DCX", op.Dcx) ∷ (codes "DAD", op.Dad)
    ∷ (codes "DAA", op.Bare Daa) ∷ (codes "CMA", op.Bare Cma) ∷ (codes "STC", op.Bare Stc) ∷ (codes "CMC", op.Bare Cmc)
    ∷ (codes "RLC", op.Bare Rlc) ∷ (codes "RRC", op.Bare Rrc) ∷ (codes "RAL", op.Bare Ral) ∷ (codes "RAR", op.Bare Rar)
    ∷ (codes "PUSH", op.Push) ∷ (codes "POP", op.Pop)
    ∷ (codes "JMP", op.Jmp) ∷ (codes "JNZ", op.Jif Nz) ∷ (codes "JZ", op.Jif Z) ∷ (codes "JNC", op.Jif Nc) ∷ (codes "JC", op.Jif C)
    ∷ (codes "JPO", op.Jif Po) ∷ (codes "JPE", op.Jif Pe) ∷ (codes "JP", op.Jif P) ∷ (codes "JM", op.Jif M)
    ∷ (codes "CALL", op.Call) ∷ (codes "CNZ", op.Cif Nz) ∷ (codes "CZ", op.Cif Z) ∷ (codes "CNC", op.Cif Nc) ∷ (codes "CC", op.Cif C)
    ∷ (codes "CPO", op.Cif Po) ∷ (codes "CPE", op.Cif Pe) ∷ (codes "CP", op.Cif P) ∷ (codes "CM", op.Cif M)
    ∷ (codes "RET", op.Bare Ret) ∷ (codes "RNZ", op.Bare (Rif Nz)) ∷ (codes "RZ", op.Bare (Rif Z)) ∷ (codes "RNC", op.Bare (Rif Nc)) ∷ (codes "RC", op.Bare (Rif C))
    ∷ (codes "RPO", op.Bare (Rif Po)) ∷ (codes "RPE", op.Bare (Rif Pe)) ∷ (codes "RP", op.Bare (Rif P)) ∷ (codes "RM", op.Bare (Rif M))
    ∷ (codes "RST", op.Rst) ∷ (codes "HLT", op.Foreign) ∷ (codes "EI", op.Foreign) ∷ (codes "DI", op.Foreign)
    ∷ (codes "IN", op.In) ∷ (codes "OUT", op.Out)
    ∷ (codes "ORG", op.Org) ∷ (codes "END", op.End) ∷ (codes "EQU", op.Equ) ∷ (codes "SET", op.Set)
    ∷ (codes "IF", op.If) ∷ (codes "ENDIF", op.EndIf) ∷ (codes "DB", op.Db) ∷ (codes "DW", op.Dw) ∷ (codes "DS", op.Ds) ∷ []

-- what a word is, if it is an operation
abbrev pub operation_of : List ℕ → Option Operation
operation_of word = option_map (λ (x : List ℕ × Operation). x.1) (find (λ (x : List ℕ × Operation). bytes_eq x.0 word) operation_table)

-- the operands of an instruction; None of a directive
abbrev pub operand_kinds : Operation → Option (List Kind)
operand_kinds op.Org = None
operand_kinds op.End = None
operand_kinds op.Equ = None
operand_kinds op.Set = None
operand_kinds op.If = None
operand_kinds op.EndIf = None
operand_kinds op.Db = None
operand_kinds op.Dw = None
operand_kinds op.Ds = None
operand_kinds (op.Bare i) = Some []
operand_kinds op.Foreign = Some []
operand_kinds op.Mov = Some (Register ∷ Register ∷ [])
operand_kinds op.Mvi = Some (Register ∷ Byte ∷ [])
operand_kinds op.Lxi = Some (Pair ∷ Word ∷ [])
operand_kinds op.Lda = Some (Address ∷ [])
operand_kinds op.Sta = Some (Address ∷ [])
operand_kinds op.Lhld = Some (Address ∷ [])
operand_kinds op.Shld = Some (Address ∷ [])
operand_kinds op.Ldax = Some (Indirect ∷ [])
operand_kinds op.Stax = Some (Indirect ∷ [])
operand_kinds (op.Alu o) = Some (Register ∷ [])
operand_kinds (op.AluI o) = Some (Byte ∷ [])
operand_kinds op.Inr = Some (Register ∷ [])
operand_kinds op.Dcr = Some (Register ∷ [])
operand_kinds op.Inx = Some (Pair ∷ [])
operand_kinds op.Dcx = Some (Pair ∷ [])
operand_kinds op.Dad = Some (Pair ∷ [])
operand_kinds op.Push = Some (Stack ∷ [])
operand_kinds op.Pop = Some (Stack ∷ [])
operand_kinds op.Jmp = Some (Target ∷ [])
operand_kinds (op.Jif c) = Some (Target ∷ [])
operand_kinds op.Call = Some (Target ∷ [])
operand_kinds (op.Cif c) = Some (Target ∷ [])
operand_kinds op.Rst = Some (Restart ∷ [])
operand_kinds op.In = Some (Byte ∷ [])
operand_kinds op.Out = Some (Byte ∷ [])

-- the bytes of an operand behind the instruction's first byte
abbrev pub bytes_of_kind : Kind → ℕ
bytes_of_kind Register = 0
bytes_of_kind Pair = 0
bytes_of_kind Indirect = 0
bytes_of_kind Stack = 0
bytes_of_kind Byte = 1
bytes_of_kind Word = 2
bytes_of_kind Address = 2
bytes_of_kind Target = 2
bytes_of_kind Restart = 0

-- the bytes of an instruction with such operands
abbrev pub bytes_of : List Kind → ℕ
bytes_of ks = 1 + sum_by bytes_of_kind ks
