-- The instructions of the 8080 in Zilog's spelling and in Intel's, a row for each form (Zilog, Z80 CPU User Manual, "Z80 Instruction
-- Description"; Intel 8080 Assembly Language Programming Manual, chapter 3). What stands in no row is no statement: among it all
-- instructions that the 8080 lacks, and the registers that it lacks.
use Rattle.std.specs.Prelude.{ℕ, List, [], ◌∷◌, codes}
use Rattle.zilog80.specs.Operands.{Class, Is, At, Register, Memory, Source, Pair, StackPair, Indirect, Bare, Any, Cell, Zero}

-- a word without operands, and the operation that it is
unfoldable pub bare_rows : List (List ℕ × List ℕ)
bare_rows =
    (codes "RLCA", codes "RLC") ∷ (codes "RRCA", codes "RRC") ∷ (codes "RLA", codes "RAL") ∷ (codes "RRA", codes "RAR")
    ∷ (codes "DAA", codes "DAA") ∷ (codes "CPL", codes "CMA") ∷ (codes "SCF", codes "STC") ∷ (codes "CCF", codes "CMC") ∷ (codes "NOP", codes "NOP")
    ∷ (codes "RET", codes "RET") ∷ (codes "HALT", codes "HLT") ∷ (codes "DI", codes "DI") ∷ (codes "EI", codes "EI") ∷ []

-- a word with an operand of a class
unfoldable pub unary_rows : List (List ℕ × Class × List ℕ)
unary_rows =
    (codes "SUB", Source, codes "SUB") ∷ (codes "SUB", Any, codes "SUI")
    ∷ (codes "AND", Source, codes "ANA") ∷ (codes "AND", Any, codes "ANI")
    ∷ (codes "XOR", Source, codes "XRA") ∷ (codes "XOR", Any, codes "XRI")
    ∷ (codes "OR", Source, codes "ORA") ∷ (codes "OR", Any, codes "ORI")
    ∷ (codes "CP", Source, codes "CMP") ∷ (codes "CP", Any, codes "CPI")
    ∷ (codes "INC", Source, codes "INR") ∷ (codes "INC", Pair, codes "INX")
    ∷ (codes "DEC", Source, codes "DCR") ∷ (codes "DEC", Pair, codes "DCX")
    ∷ (codes "PUSH", StackPair, codes "PUSH") ∷ (codes "POP", StackPair, codes "POP")
    ∷ (codes "JP", Any, codes "JMP") ∷ (codes "JP", At (codes "HL"), codes "PCHL") ∷ (codes "CALL", Any, codes "CALL")
    ∷ (codes "RET", Is (codes "NZ"), codes "RNZ") ∷ (codes "RET", Is (codes "Z"), codes "RZ")
    ∷ (codes "RET", Is (codes "NC"), codes "RNC") ∷ (codes "RET", Is (codes "C"), codes "RC")
    ∷ (codes "RET", Is (codes "PO"), codes "RPO") ∷ (codes "RET", Is (codes "PE"), codes "RPE")
    ∷ (codes "RET", Is (codes "P"), codes "RP") ∷ (codes "RET", Is (codes "M"), codes "RM")
    ∷ (codes "RST", Zero, codes "RST") ∷ []

-- a word with two operands
unfoldable pub binary_rows : List (List ℕ × Class × Class × List ℕ)
binary_rows =
    (codes "LD", Register, Source, codes "MOV") ∷ (codes "LD", Memory, Register, codes "MOV")
    ∷ (codes "LD", Source, Bare, codes "MVI") ∷ (codes "LD", Pair, Bare, codes "LXI")
    ∷ (codes "LD", Is (codes "A"), Cell, codes "LDA") ∷ (codes "LD", Cell, Is (codes "A"), codes "STA")
    ∷ (codes "LD", Is (codes "HL"), Cell, codes "LHLD") ∷ (codes "LD", Cell, Is (codes "HL"), codes "SHLD")
    ∷ (codes "LD", Is (codes "A"), Indirect, codes "LDAX") ∷ (codes "LD", Indirect, Is (codes "A"), codes "STAX")
    ∷ (codes "LD", Is (codes "SP"), Is (codes "HL"), codes "SPHL")
    ∷ (codes "EX", Is (codes "DE"), Is (codes "HL"), codes "XCHG") ∷ (codes "EX", At (codes "SP"), Is (codes "HL"), codes "XTHL")
    ∷ (codes "ADD", Is (codes "A"), Source, codes "ADD") ∷ (codes "ADD", Is (codes "A"), Any, codes "ADI")
    ∷ (codes "ADC", Is (codes "A"), Source, codes "ADC") ∷ (codes "ADC", Is (codes "A"), Any, codes "ACI")
    ∷ (codes "SBC", Is (codes "A"), Source, codes "SBB") ∷ (codes "SBC", Is (codes "A"), Any, codes "SBI")
    ∷ (codes "ADD", Is (codes "HL"), Pair, codes "DAD")
    ∷ (codes "JP", Is (codes "NZ"), Any, codes "JNZ") ∷ (codes "JP", Is (codes "Z"), Any, codes "JZ")
    ∷ (codes "JP", Is (codes "NC"), Any, codes "JNC") ∷ (codes "JP", Is (codes "C"), Any, codes "JC")
    ∷ (codes "JP", Is (codes "PO"), Any, codes "JPO") ∷ (codes "JP", Is (codes "PE"), Any, codes "JPE")
    ∷ (codes "JP", Is (codes "P"), Any, codes "JP") ∷ (codes "JP", Is (codes "M"), Any, codes "JM")
    ∷ (codes "CALL", Is (codes "NZ"), Any, codes "CNZ") ∷ (codes "CALL", Is (codes "Z"), Any, codes "CZ")
    ∷ (codes "CALL", Is (codes "NC"), Any, codes "CNC") ∷ (codes "CALL", Is (codes "C"), Any, codes "CC")
    ∷ (codes "CALL", Is (codes "PO"), Any, codes "CPO") ∷ (codes "CALL", Is (codes "PE"), Any, codes "CPE")
    ∷ (codes "CALL", Is (codes "P"), Any, codes "CP") ∷ (codes "CALL", Is (codes "M"), Any, codes "CM")
    ∷ (codes "IN", Is (codes "A"), Cell, codes "IN") ∷ (codes "OUT", Cell, Is (codes "A"), codes "OUT") ∷ []
