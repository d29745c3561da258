-- The words that mean something in a line: operations, registers, the words of operands, and labels (Intel 8086 Family User's Manual,
-- "Instruction set"; CP/M-86 Programmer's Guide, "Identifiers" and "Assembler Directives"; the choice of them is this project's).
use Rattle.std.specs.Prelude.{ℕ, ◌==◌, cond, codes, List, [], ◌∷◌, Option, Some, None, option_map, length, slice_index}
use Rattle.std.specs.List.{find}
use Rattle.std.specs.Str.{bytes_eq}
use Rattle.i86.specs.declared.Reg8.TheVariants.{Al, Cl, Dl, Bl, Ah, Ch, Dh, Bh}
use Rattle.i86.specs.declared.Reg16.TheVariants.{Ax, Cx, Dx, Bx, Sp, Si}
use Rattle.i86.specs.declared.AluOp.TheVariants.{Add, Or, Adc, Sbb, And, Sub, Xor, Cmp}
use Rattle.i86.specs.declared.Count.TheVariants.{Inc, Dec}
use Rattle.i86.specs.declared.Rotate.TheVariants.{Rol, Ror, Rcl, Rcr}
use Rattle.i86.specs.declared.Jump.TheVariants.{Jb, Jnb, Jz, Jnz, Js, Jns, Jp, Jnp}
use Rattle.asm86_line_types.specs.declared.line.Label.{Label}
use Rattle.asm86_line_types.specs.declared.line.Label.TheVariants.{At, Skip, User, Sys, End as XEnd}
use Rattle.asm86_line_reader.specs.declared.token.Operation.TheVariants.{Mov, Alu, Count, Push, Pop, Xchg, Rotate, Not, In, Out, Daa, Sahf, Lahf, Cmc, Stc, Nop, Ret, Int, Jmp, Jmps, Call, Jcc, Cseg, Dseg, Org, Rb, Db, Dw, End}
use Rattle.asm86_line_reader.specs.declared.token.Token.{Token}
use Rattle.asm86_line_reader.specs.declared.token.Token.TheVariants as tokens
use Rattle.asm86_line_reader.specs.Letters.{is_digit}
use Rattle.asm86_line_reader.specs.Numbers.{value_in, number_of_word}

-- the entry of a table under a word
abbrev pub word_in_table : List (List ℕ × Token) → List ℕ → Option Token
word_in_table table word = option_map (λ (e : List ℕ × Token). e.1) (find (λ (e : List ℕ × Token). bytes_eq e.0 word) table)

-- the words of instructions
unfoldable pub instruction_words : List (List ℕ × Token)
instruction_words =
    (codes "MOV", tokens.Operation Mov) ∷ (codes "ADD", tokens.Operation (Alu Add)) ∷ (codes "OR", tokens.Operation (Alu Or)) ∷ (codes "ADC", tokens.Operation (Alu Adc)) ∷ (codes "SBB", tokens.Operation (Alu Sbb))
    ∷ (codes "AND", tokens.Operation (Alu And)) ∷ (codes "SUB", tokens.Operation (Alu Sub)) ∷ (codes "XOR", tokens.Operation (Alu Xor)) ∷ (codes "CMP", tokens.Operation (Alu Cmp))
    ∷ (codes "INC", tokens.Operation (Count Inc)) ∷ (codes "DEC", tokens.Operation (Count Dec)) ∷ (codes "PUSH", tokens.Operation Push) ∷ (codes "POP", tokens.Operation Pop) ∷ (codes "XCHG", tokens.Operation Xchg)
    ∷ (codes "ROL", tokens.Operation (Rotate Rol)) ∷ (codes "ROR", tokens.Operation (Rotate Ror)) ∷ (codes "RCL", tokens.Operation (Rotate Rcl)) ∷ (codes "RCR", tokens.Operation (Rotate Rcr)) ∷ (codes "NOT", tokens.Operation Not)
    ∷ (codes "DAA", tokens.Operation Daa) ∷ (codes "SAHF", tokens.Operation Sahf) ∷ (codes "LAHF", tokens.Operation Lahf) ∷ (codes "CMC", tokens.Operation Cmc) ∷ (codes "STC", tokens.Operation Stc) ∷ (codes "NOP", tokens.Operation Nop)
    ∷ (codes "JB", tokens.Operation (Jcc Jb)) ∷ (codes "JNB", tokens.Operation (Jcc Jnb)) ∷ (codes "JZ", tokens.Operation (Jcc Jz)) ∷ (codes "JNZ", tokens.Operation (Jcc Jnz))
    ∷ (codes "JS", tokens.Operation (Jcc Js)) ∷ (codes "JNS", tokens.Operation (Jcc Jns)) ∷ (codes "JP", tokens.Operation (Jcc Jp)) ∷ (codes "JNP", tokens.Operation (Jcc Jnp))
    ∷ (codes "JMP", tokens.Operation Jmp) ∷ (codes "JMPS", tokens.Operation Jmps) ∷ (codes "CALL", tokens.Operation Call) ∷ (codes "RET", tokens.Operation Ret) ∷ (codes "INT", tokens.Operation Int) ∷ (codes "IN", tokens.Operation In) ∷ (codes "OUT", tokens.Operation Out) ∷ []

-- the words of directives, of operands, and the two labels without a number
unfoldable pub others : List (List ℕ × Token)
others =
    (codes "CSEG", tokens.Operation Cseg) ∷ (codes "DSEG", tokens.Operation Dseg) ∷ (codes "ORG", tokens.Operation Org) ∷ (codes "RB", tokens.Operation Rb) ∷ (codes "DB", tokens.Operation Db) ∷ (codes "DW", tokens.Operation Dw) ∷ (codes "END", tokens.Operation End)
    ∷ (codes "AL", tokens.Reg8 Al) ∷ (codes "CL", tokens.Reg8 Cl) ∷ (codes "DL", tokens.Reg8 Dl) ∷ (codes "BL", tokens.Reg8 Bl) ∷ (codes "AH", tokens.Reg8 Ah) ∷ (codes "CH", tokens.Reg8 Ch) ∷ (codes "DH", tokens.Reg8 Dh) ∷ (codes "BH", tokens.Reg8 Bh)
    ∷ (codes "AX", tokens.Reg16 Ax) ∷ (codes "CX", tokens.Reg16 Cx) ∷ (codes "DX", tokens.Reg16 Dx) ∷ (codes "BX", tokens.Reg16 Bx) ∷ (codes "SP", tokens.Reg16 Sp) ∷ (codes "SI", tokens.Reg16 Si) ∷ (codes "DS", tokens.Ds) ∷ (codes "SS", tokens.Ss)
    ∷ (codes "BYTE", tokens.Byte) ∷ (codes "WORD", tokens.Word) ∷ (codes "PTR", tokens.Ptr) ∷ (codes "OFFSET", tokens.Offset) ∷ (codes "X_SYS", tokens.Label Sys) ∷ (codes "X_END", tokens.Label XEnd) ∷ []

-- the label of a number, by its letter
abbrev pub lettered : ℕ → ℕ → Option Label
lettered letter n = cond (letter == 0x4C) (Some (At n)) (cond (letter == 0x4B) (Some (Skip n)) (cond (letter == 0x55) (Some (User n)) None))

-- the label that a letter and its number make
abbrev pub label_with : ℕ → Option ℕ → Option Label
label_with letter None = None
label_with letter (Some n) = lettered letter n

-- L, K or U with four hexadecimal digits
abbrev pub numbered_label : List ℕ → Option Label
numbered_label [] = None
numbered_label (letter ∷ digits) = cond (length digits == 4) (label_with letter (value_in 16 digits)) None

-- a word that is in no table: a label with a number, or a word that means nothing
abbrev pub label_or_unknown : Option Label → Token
label_or_unknown None = tokens.Unknown
label_or_unknown (Some l) = tokens.Label l

abbrev pub value_or : {X : Type 0} → Option X → X → X
value_or None other = other
value_or (Some x) other = x

-- the token of a word that begins with no digit
unfoldable pub name_token : List ℕ → Token
name_token word = value_or (word_in_table instruction_words word) (value_or (word_in_table others word) (label_or_unknown (numbered_label word)))

-- the token of a word; a word that begins with a digit and is no number has none
abbrev pub word_token : List ℕ → Option Token
word_token word = cond (is_digit (slice_index word 0)) (option_map tokens.Number (number_of_word word)) (Some (name_token word))
