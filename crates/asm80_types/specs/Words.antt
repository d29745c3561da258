-- The words that statements have: operations and registers (Intel 8080 Assembly Language Programming Manual, chapter 2;
-- CP/M 2.2 Operating System Manual, the assembler, "Reserved words").
use Rattle.std.specs.Prelude.{ℕ, ◌-◌, List, [], ◌∷◌, codes, Bool, false, ◌&&◌, Option, Some, None}
use Rattle.std.specs.Borrow.{Bor}
use Rattle.std.specs.List.{list_any, list_all, slice_get}
use Rattle.std.specs.Str.{bytes_eq}

-- the 8080's operations, and the directives
unfoldable pub operations : List (List ℕ)
operations = codes "NOP" ∷ codes "MOV" ∷ codes "MVI" ∷ codes "LXI" ∷ codes "LDA" ∷ codes "STA" ∷ codes "LHLD" ∷ codes "SHLD" ∷ codes "LDAX" ∷ codes "STAX" ∷ codes "XCHG" ∷ codes "XTHL" ∷ codes "SPHL" ∷ codes "PCHL"
    ∷ codes "ADD" ∷ codes "ADC" ∷ codes "SUB" ∷ codes "SBB" ∷ codes "ANA" ∷ codes "XRA" ∷ codes "ORA" ∷ codes "CMP" ∷ codes "ADI" ∷ codes "ACI" ∷ codes "SUI" ∷ codes "SBI" ∷ codes "ANI" ∷ codes "XRI" ∷ codes "ORI" ∷ codes "CPI"
    ∷ codes "INR" ∷ codes "DCR" ∷ codes "INX" ∷ codes "DCX" ∷ codes "DAD" ∷ codes "DAA" ∷ codes "CMA" ∷ codes "STC" ∷ codes "CMC" ∷ codes "RLC" ∷ codes "RRC" ∷ codes "RAL" ∷ codes "RAR" ∷ codes "PUSH" ∷ codes "POP"
    ∷ codes "JMP" ∷ codes "JNZ" ∷ codes "JZ" ∷ codes "JNC" ∷ codes "JC" ∷ codes "JPO" ∷ codes "JPE" ∷ codes "JP" ∷ codes "JM" ∷ codes "CALL" ∷ codes "CNZ" ∷ codes "CZ" ∷ codes "CNC" ∷ codes "CC" ∷ codes "CPO" ∷ codes "CPE" ∷ codes "CP" ∷ codes "CM"
    ∷ codes "RET" ∷ codes "RNZ" ∷ codes "RZ" ∷ codes "RNC" ∷ codes "RC" ∷ codes "RPO" ∷ codes "RPE" ∷ codes "RP" ∷ codes "RM" ∷ codes "RST" ∷ codes "HLT" ∷ codes "EI" ∷ codes "DI" ∷ codes "IN" ∷ codes "OUT"
    ∷ codes "ORG" ∷ codes "END" ∷ codes "EQU" ∷ codes "SET" ∷ codes "IF" ∷ codes "ENDIF" ∷ codes "DB" ∷ codes "DW" ∷ codes "DS" ∷ []

abbrev pub is_operation : List ℕ → Bool
is_operation name = list_any (λ word. bytes_eq word name) operations

-- the registers, the memory operand M, the stack pointer and the program status word
unfoldable pub registers : List (List ℕ)
registers = codes "A" ∷ codes "B" ∷ codes "C" ∷ codes "D" ∷ codes "E" ∷ codes "H" ∷ codes "L" ∷ codes "M" ∷ codes "SP" ∷ codes "PSW" ∷ []

abbrev pub is_register : List ℕ → Bool
is_register name = list_any (λ word. bytes_eq word name) registers

-- ---- words in the code

-- they lie by their first letters: those with A, those with B, and so on
abbrev pub Lists : Type 0
Lists = List (Bor (List (Bor (List ℕ))))

abbrev pub is_among : Option (Bor (List (Bor (List ℕ)))) → List ℕ → Bool
is_among None name = false
is_among (Some words) name = list_any (λ (word : Bor (List ℕ)). bytes_eq word.now name) words.now

-- the name is among the words of its first letter
abbrev pub is_by_letter : Lists → List ℕ → Bool
is_by_letter lists [] = false
is_by_letter lists (letter ∷ rest) = is_among (slice_get lists (letter - 65)) (letter ∷ rest)

-- these words lie so, and no others
abbrev pub are_by_letter : Lists → List (List ℕ) → Bool
are_by_letter lists words =
    list_all (λ (words_of : Bor (List (Bor (List ℕ)))). list_all (λ (word : Bor (List ℕ)). list_any (λ w. bytes_eq w word.now) words) words_of.now) lists
    && list_all (is_by_letter lists) words
