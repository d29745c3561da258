-- The reserved words of Zilog's spelling: the words of the table of instructions and the directives, and the names of registers, of
-- register pairs and of conditions (Zilog, Z80 CPU User Manual, "Z80 Instruction Description"; CP/M 2.2 Operating System Manual, the
-- assembler, "Assembler directives").
use Rattle.std.specs.Prelude.{ℕ, List, [], ◌∷◌, codes, Bool, ◌||◌}
use Rattle.std.specs.List.{list_any}
use Rattle.std.specs.Str.{bytes_eq}
use Rattle.zilog80.specs.Operands.{Class}
use Rattle.zilog80.specs.Table.{bare_rows, unary_rows, binary_rows}

unfoldable pub directives : List (List ℕ)
directives =
    codes "ORG" ∷ codes "END" ∷ codes "EQU" ∷ codes "SET" ∷ codes "IF" ∷ codes "ENDIF" ∷ codes "DB" ∷ codes "DW" ∷ codes "DS" ∷ []

abbrev pub is_directive : List ℕ → Bool
is_directive word = list_any (λ name. bytes_eq name word) directives

-- the word stands in a row of the table, by the number of its operands
abbrev pub is_bare : List ℕ → Bool
is_bare word = list_any (λ (r : List ℕ × List ℕ). bytes_eq r.0 word) bare_rows

abbrev pub is_unary : List ℕ → Bool
is_unary word = list_any (λ (r : List ℕ × Class × List ℕ). bytes_eq r.0 word) unary_rows

abbrev pub is_binary : List ℕ → Bool
is_binary word = list_any (λ (r : List ℕ × Class × Class × List ℕ). bytes_eq r.0 word) binary_rows

abbrev pub is_in_table : List ℕ → Bool
is_in_table word = is_bare word || (is_unary word || is_binary word)

abbrev pub is_operation : List ℕ → Bool
is_operation word = is_directive word || is_in_table word

-- the registers, the pairs, the conditions, and M and PSW, which statements have for registers
unfoldable pub reserved_names : List (List ℕ)
reserved_names =
    codes "A" ∷ codes "B" ∷ codes "C" ∷ codes "D" ∷ codes "E" ∷ codes "H" ∷ codes "L" ∷ codes "AF" ∷ codes "BC" ∷ codes "DE" ∷ codes "HL" ∷ codes "SP"
    ∷ codes "NZ" ∷ codes "Z" ∷ codes "NC" ∷ codes "PO" ∷ codes "PE" ∷ codes "P" ∷ codes "M" ∷ codes "PSW" ∷ []

abbrev pub is_register : List ℕ → Bool
is_register word = list_any (λ name. bytes_eq name word) reserved_names
