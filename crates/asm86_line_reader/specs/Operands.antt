-- The operands that tokens are (CP/M-86 Programmer's Guide, "Operators"; the choice of them is this project's): a register, a number, a
-- label, `OFFSET label`, `BYTE PTR [BX]`, `BYTE PTR [SI]`, `BYTE PTR .a`, `WORD PTR .a`.
use Rattle.std.specs.Prelude.{ℕ, List, [], ◌∷◌, Bool, true, false, cond, Option, Some, None, option_map, option_and_then}
use Rattle.std.specs.List.{slice_split}
use Rattle.i86.specs.declared.Reg16.{Reg16}
use Rattle.i86.specs.declared.Reg16.TheVariants.{Bx, Si}
use Rattle.i86.specs.declared.Ptr.{Ptr}
use Rattle.i86.specs.declared.Ptr.TheVariants.{Bx as PtrBx, Si as PtrSi}
use Rattle.asm86_line_types.specs.declared.line.Label.{Label}
use Rattle.asm86_line_reader.specs.declared.token.Token.{Token}
use Rattle.asm86_line_reader.specs.declared.token.Token.TheVariants as tokens
use Rattle.asm86_line_reader.specs.declared.token.Operand.{Operand}
use Rattle.asm86_line_reader.specs.declared.token.Operand.TheVariants as operands

-- a number and nothing more
abbrev pub number_alone : List Token → Option ℕ
number_alone (tokens.Number n ∷ []) = Some n
number_alone _ = None

-- a label and nothing more
abbrev pub label_alone : List Token → Option Label
label_alone (tokens.Label l ∷ []) = Some l
label_alone _ = None

-- the registers that hold the address of a byte
abbrev pub pointer : Reg16 → Option Ptr
pointer Bx = Some PtrBx
pointer Si = Some PtrSi
pointer _ = None

-- `]` and nothing more
abbrev pub is_closing : List Token → Bool
is_closing (tokens.Close ∷ []) = true
is_closing _ = false

-- such a register, `]`, and nothing more
abbrev pub pointer_alone : List Token → Option Ptr
pointer_alone (tokens.Reg16 r ∷ ts) = cond (is_closing ts) (pointer r) None
pointer_alone _ = None

-- what stands behind PTR
abbrev pub after_ptr : List Token → Option (List Token)
after_ptr (tokens.Ptr ∷ ts) = Some ts
after_ptr _ = None

-- a byte behind `BYTE PTR`
abbrev pub byte_cell : List Token → Option Operand
byte_cell (tokens.Dot ∷ ts) = option_map operands.DirectByte (number_alone ts)
byte_cell (tokens.Open ∷ ts) = option_map operands.Mem (pointer_alone ts)
byte_cell _ = None

-- a word behind `WORD PTR`
abbrev pub word_cell : List Token → Option Operand
word_cell (tokens.Dot ∷ ts) = option_map operands.DirectWord (number_alone ts)
word_cell _ = None

-- an operand of one word or number
abbrev pub plain_operand : Token → Option Operand
plain_operand (tokens.Reg8 r) = Some (operands.Reg8 r)
plain_operand (tokens.Reg16 r) = Some (operands.Reg16 r)
plain_operand tokens.Ds = Some operands.Ds
plain_operand tokens.Ss = Some operands.Ss
plain_operand (tokens.Number n) = Some (operands.Number n)
plain_operand (tokens.Label l) = Some (operands.Label l)
plain_operand _ = None

abbrev pub plain_alone : Token → List Token → Option Operand
plain_alone t [] = plain_operand t
plain_alone t _ = None

-- the operand that all of the tokens are
abbrev pub operand_in : List Token → Option Operand
operand_in [] = None
operand_in (tokens.Byte ∷ ts) = option_and_then byte_cell (after_ptr ts)
operand_in (tokens.Word ∷ ts) = option_and_then word_cell (after_ptr ts)
operand_in (tokens.Offset ∷ ts) = option_map operands.Offset (label_alone ts)
operand_in (t ∷ ts) = plain_alone t ts

abbrev pub is_comma : Token → Bool
is_comma tokens.Comma = true
is_comma _ = false

-- what each element gives, where each gives something
unfoldable pub each : {X Y : Type 0} → (X → Option Y) → List X → Option (List Y)
each f [] = Some []
each {Y} f (x ∷ xs) = option_and_then (λ (y : Y). option_map (λ ys. y ∷ ys) (each f xs)) (f x)

-- the operands that tokens are, with commas between them; no tokens are no operands
abbrev pub operands_in : List Token → Option (List Operand)
operands_in [] = Some []
operands_in (t ∷ ts) = each operand_in (slice_split is_comma (t ∷ ts))
