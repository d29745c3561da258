-- A way from the bytes to the instruction, by which the code decodes. Nobody has to believe it: what it finds is proved to be what
-- stands there by the encodings, and nothing else (`decode_at`, `code_has_one_reader`).
use Rattle.std.specs.Prelude.{ℕ, ◌+◌, ◌*◌, ◌/◌, ◌%◌, ◌==◌, nat_le, Bool, ◌&&◌, cond, List, [], ◌∷◌, Option, Some, None, option_map, option_and_then, slice_get}
use Rattle.i86.specs.declared.Reg8.{Reg8}
use Rattle.i86.specs.declared.Reg8.TheVariants.{Al, Cl, Dl, Bl, Ah, Ch, Dh, Bh}
use Rattle.i86.specs.declared.Reg16.{Reg16}
use Rattle.i86.specs.declared.Reg16.TheVariants.{Ax, Cx, Dx, Bx, Sp, Si}
use Rattle.i86.specs.declared.StackReg.{StackReg}
use Rattle.i86.specs.declared.StackReg.TheVariants.{Ax as StackAx, Cx as StackCx, Dx as StackDx, Bx as StackBx, Si as StackSi}
use Rattle.i86.specs.declared.Ptr.{Ptr}
use Rattle.i86.specs.declared.Ptr.TheVariants.{Bx as PtrBx, Si as PtrSi}
use Rattle.i86.specs.declared.Operand8.{Operand8}
use Rattle.i86.specs.declared.Operand8.TheVariants.{Reg, Mem}
use Rattle.i86.specs.declared.Operand16.{Operand16}
use Rattle.i86.specs.declared.Operand16.TheVariants.{Reg as Reg_16, Direct}
use Rattle.i86.specs.declared.AluOp.{AluOp}
use Rattle.i86.specs.declared.AluOp.TheVariants.{Add, Or, Adc, Sbb, And, Sub, Xor, Cmp}
use Rattle.i86.specs.declared.Count.{Count}
use Rattle.i86.specs.declared.Count.TheVariants.{Inc, Dec}
use Rattle.i86.specs.declared.Rotate.{Rotate}
use Rattle.i86.specs.declared.Rotate.TheVariants.{Rol, Ror, Rcl, Rcr}
use Rattle.i86.specs.declared.Jump.{Jump}
use Rattle.i86.specs.declared.Jump.TheVariants.{Jb, Jnb, Jz, Jnz, Js, Jns, Jp, Jnp}
use Rattle.i86.specs.declared.Instr86.{Instr86}
use Rattle.i86.specs.declared.Instr86.TheVariants.{MovReg8, MovMem8, MovAlDirect, MovDirectAl, MovNum8, MovNum16, MovMemNum, MovReg16, MovDirect16, MovAxDs, MovSsAx, Alu, AluNum, OrClCl, Add16, Count8, Count16, Push, Pop, Xchg8, Xchg16, Rotate8, Rotate16, Not8, Daa, Sahf, Lahf, Cmc, Stc, Nop, Jcc, JmpNear, JmpShort, JmpBx, CallNear, Ret, Int224, InAl, OutAl}
use Rattle.i86.specs.declared.decoding.ByteForm.{ByteForm}
use Rattle.i86.specs.declared.decoding.ByteForm.TheVariants.{MovNum8 as ByteMov, AluNum as ByteAlu, Jcc as ByteJcc, JmpShort as ByteJmp, InAl as ByteIn, OutAl as ByteOut}
use Rattle.i86.specs.declared.decoding.WordForm.{WordForm}
use Rattle.i86.specs.declared.decoding.WordForm.TheVariants.{MovAlDirect as WordToAl, MovDirectAl as WordFromAl, MovNum16 as WordMov, JmpNear as WordJmp, CallNear as WordCall}
use Rattle.i86.specs.declared.decoding.FieldsForm.{FieldsForm}
use Rattle.i86.specs.declared.decoding.FieldsForm.TheVariants.{MovReg8 as FieldsMov8, MovMem8 as FieldsToMem, MovMemNum as FieldsMemNum, MovReg16 as FieldsMov16, MovDirect16 as FieldsToDirect, Alu as FieldsAlu, Add16 as FieldsAdd16, Count8 as FieldsCount8, Xchg8 as FieldsXchg8, Xchg16 as FieldsXchg16, Rotate8 as FieldsRotate8, Rotate16 as FieldsRotate16, Not8 as FieldsNot8}
use Rattle.i86.specs.declared.decoding.Form.{Form}
use Rattle.i86.specs.declared.decoding.Form.TheVariants.{Alone, Fixed, Byte, Word, Fields}

-- the entry of a table under a number
abbrev pub entry_under : {X : Type 0} → List (ℕ × X) → ℕ → Option X
entry_under [] n = None
entry_under (e ∷ es) n = cond (e.0 == n) (Some e.1) (entry_under es n)

abbrev pub regs8 : List (ℕ × Reg8)
regs8 = (0, Al) ∷ ((1, Cl) ∷ ((2, Dl) ∷ ((3, Bl) ∷ ((4, Ah) ∷ ((5, Ch) ∷ ((6, Dh) ∷ ((7, Bh) ∷ [])))))))

abbrev pub regs16 : List (ℕ × Reg16)
regs16 = (0, Ax) ∷ ((1, Cx) ∷ ((2, Dx) ∷ ((3, Bx) ∷ ((4, Sp) ∷ ((6, Si) ∷ [])))))

abbrev pub stack_regs : List (ℕ × StackReg)
stack_regs = (0, StackAx) ∷ ((1, StackCx) ∷ ((2, StackDx) ∷ ((3, StackBx) ∷ ((6, StackSi) ∷ []))))

abbrev pub ptrs : List (ℕ × Ptr)
ptrs = (4, PtrSi) ∷ ((7, PtrBx) ∷ [])

abbrev pub alu_ops : List (ℕ × AluOp)
alu_ops = (0, Add) ∷ ((1, Or) ∷ ((2, Adc) ∷ ((3, Sbb) ∷ ((4, And) ∷ ((5, Sub) ∷ ((6, Xor) ∷ ((7, Cmp) ∷ [])))))))

abbrev pub counts : List (ℕ × Count)
counts = (0, Inc) ∷ ((1, Dec) ∷ [])

abbrev pub rotates : List (ℕ × Rotate)
rotates = (0, Rol) ∷ ((1, Ror) ∷ ((2, Rcl) ∷ ((3, Rcr) ∷ [])))

-- the conditional jumps by the low four bits of their opcodes
abbrev pub jumps : List (ℕ × Jump)
jumps = (2, Jb) ∷ ((3, Jnb) ∷ ((4, Jz) ∷ ((5, Jnz) ∷ ((8, Js) ∷ ((9, Jns) ∷ ((10, Jp) ∷ ((11, Jnp) ∷ [])))))))

-- the opcodes below 40H, by their bits 3 to 5 and 0 to 2
abbrev pub arithmetic : ℕ → ℕ → Option Form
arithmetic op low =
    cond (low == 2) (option_map (λ o. Fields (FieldsAlu o)) (entry_under alu_ops op))
    (cond (low == 4) (option_map (λ o. Byte (ByteAlu o)) (entry_under alu_ops op))
    (cond (low == 3) (cond (op == 0) (Some (Fields FieldsAdd16)) None)
    (cond (low == 7) (cond (op == 4) (Some (Alone Daa)) None) None)))

-- the opcodes from 40H to 5FH, by their high five and low three bits
abbrev pub on_word : ℕ → ℕ → Option Form
on_word high low =
    cond (high == 8) (option_map (λ r. Alone (Count16 Inc r)) (entry_under regs16 low))
    (cond (high == 9) (option_map (λ r. Alone (Count16 Dec r)) (entry_under regs16 low))
    (cond (high == 10) (option_map (λ r. Alone (Push r)) (entry_under stack_regs low)) (option_map (λ r. Alone (Pop r)) (entry_under stack_regs low))))

-- the opcodes that stand for one form each
abbrev pub singles : List (ℕ × Form)
singles =
    (0x86, Fields FieldsXchg8) ∷ ((0x87, Fields FieldsXchg16) ∷ ((0x88, Fields FieldsToMem) ∷ ((0x89, Fields FieldsToDirect) ∷ ((0x8A, Fields FieldsMov8) ∷ ((0x8B, Fields FieldsMov16) ∷
    ((0x8C, Fixed 0xD8 MovAxDs) ∷ ((0x8E, Fixed 0xD0 MovSsAx) ∷ ((0x90, Alone Nop) ∷ ((0x9E, Alone Sahf) ∷ ((0x9F, Alone Lahf) ∷ ((0xA0, Word WordToAl) ∷ ((0xA2, Word WordFromAl) ∷
    ((0xC3, Alone Ret) ∷ ((0xC6, Fields FieldsMemNum) ∷ ((0xCD, Fixed 0xE0 Int224) ∷ ((0xD0, Fields FieldsRotate8) ∷ ((0xD1, Fields FieldsRotate16) ∷ ((0xE4, Byte ByteIn) ∷ ((0xE6, Byte ByteOut) ∷ ((0xE8, Word WordCall) ∷ ((0xE9, Word WordJmp) ∷ ((0xEB, Byte ByteJmp) ∷
    ((0xF5, Alone Cmc) ∷ ((0xF6, Fields FieldsNot8) ∷ ((0xF9, Alone Stc) ∷ ((0xFE, Fields FieldsCount8) ∷ ((0xFF, Fixed 0xE3 JmpBx) ∷ [])))))))))))))))))))))))))))

-- a first byte from one to another
abbrev pub is_from : ℕ → ℕ → ℕ → Bool
is_from low high first = nat_le low first && nat_le first high

-- the form that a first byte says
abbrev pub form_of : ℕ → Option Form
form_of first =
    cond (is_from 0x00 0x3F first) (arithmetic (first / 8) (first % 8))
    (cond (is_from 0x40 0x5F first) (on_word (first / 8) (first % 8))
    (cond (is_from 0x70 0x7F first) (option_map (λ j. Byte (ByteJcc j)) (entry_under jumps (first % 16)))
    (cond (is_from 0xB0 0xB7 first) (option_map (λ r. Byte (ByteMov r)) (entry_under regs8 (first % 8)))
    (cond (is_from 0xB8 0xBF first) (option_map (λ r. Word (WordMov r)) (entry_under regs16 (first % 8)))
    (entry_under singles first)))))

-- the operands that the fields mod and rm name
abbrev pub reg8_at : ℕ → ℕ → Option Reg8
reg8_at mode rm = cond (mode == 3) (entry_under regs8 rm) None

abbrev pub reg16_at : ℕ → ℕ → Option Reg16
reg16_at mode rm = cond (mode == 3) (entry_under regs16 rm) None

abbrev pub ptr_at : ℕ → ℕ → Option Ptr
ptr_at mode rm = cond (mode == 0) (entry_under ptrs rm) None

abbrev pub operand8_at : ℕ → ℕ → Option Operand8
operand8_at mode rm = cond (mode == 3) (option_map Reg (entry_under regs8 rm)) (option_map Mem (ptr_at mode rm))

-- a word that follows the fields, where they are those of a direct address
abbrev pub direct_at : ℕ → ℕ → Option ℕ → Option ℕ
direct_at mode rm word = cond (mode == 0) (cond (rm == 6) word None) None

abbrev pub operand16_at : ℕ → ℕ → Option ℕ → Option Operand16
operand16_at mode rm word = cond (mode == 3) (option_map Reg_16 (entry_under regs16 rm)) (option_map Direct (direct_at mode rm word))

abbrev pub or_cl_cl : AluOp → ℕ → ℕ → ℕ → Option Instr86
or_cl_cl Or mode reg rm = cond (mode == 3) (cond (reg == 1) (cond (rm == 1) (Some OrClCl) None) None) None
or_cl_cl op mode reg rm = None

-- the instruction of two operands, by the table of the one and by the other
abbrev pub of_two : {A B : Type 0} → (A → B → Instr86) → Option A → Option B → Option Instr86
of_two f None b = None
of_two f (Some a) b = option_map (f a) b

-- the instruction of a form with fields: mod, reg and rm, then the byte or the word behind them
abbrev pub with_fields : FieldsForm → ℕ → ℕ → ℕ → Option ℕ → Option ℕ → Option Instr86
with_fields FieldsMov8 mode reg rm byte word = of_two MovReg8 (entry_under regs8 reg) (operand8_at mode rm)
with_fields FieldsToMem mode reg rm byte word = of_two (λ r p. MovMem8 p r) (entry_under regs8 reg) (ptr_at mode rm)
with_fields FieldsMemNum mode reg rm byte word = cond (reg == 0) (of_two MovMemNum (ptr_at mode rm) byte) None
with_fields FieldsMov16 mode reg rm byte word = of_two MovReg16 (entry_under regs16 reg) (operand16_at mode rm word)
with_fields FieldsToDirect mode reg rm byte word = of_two (λ r a. MovDirect16 a r) (entry_under regs16 reg) (direct_at mode rm word)
with_fields (FieldsAlu op) mode reg rm byte word = cond (reg == 0) (option_map (Alu op) (operand8_at mode rm)) (or_cl_cl op mode reg rm)
with_fields FieldsAdd16 mode reg rm byte word = of_two Add16 (entry_under regs16 reg) (reg16_at mode rm)
with_fields FieldsCount8 mode reg rm byte word = of_two Count8 (entry_under counts reg) (operand8_at mode rm)
with_fields FieldsXchg8 mode reg rm byte word = of_two Xchg8 (entry_under regs8 reg) (reg8_at mode rm)
with_fields FieldsXchg16 mode reg rm byte word = of_two Xchg16 (entry_under regs16 reg) (reg16_at mode rm)
with_fields FieldsRotate8 mode reg rm byte word = of_two Rotate8 (entry_under rotates reg) (reg8_at mode rm)
with_fields FieldsRotate16 mode reg rm byte word = of_two Rotate16 (entry_under rotates reg) (reg16_at mode rm)
with_fields FieldsNot8 mode reg rm byte word = cond (reg == 2) (option_map Not8 (reg8_at mode rm)) None

abbrev pub instruction_with_byte : ByteForm → ℕ → Instr86
instruction_with_byte (ByteMov r) n = MovNum8 r n
instruction_with_byte (ByteAlu op) n = AluNum op n
instruction_with_byte (ByteJcc j) n = Jcc j n
instruction_with_byte ByteJmp n = JmpShort n
instruction_with_byte ByteIn n = InAl n
instruction_with_byte ByteOut n = OutAl n

abbrev pub instruction_with_word : WordForm → ℕ → Instr86
instruction_with_word WordToAl w = MovAlDirect w
instruction_with_word WordFromAl w = MovDirectAl w
instruction_with_word (WordMov r) w = MovNum16 r w
instruction_with_word WordJmp w = JmpNear w
instruction_with_word WordCall w = CallNear w

-- a word from its two bytes
abbrev pub word_from : Option ℕ → Option ℕ → Option ℕ
word_from low high = option_and_then (λ (l : ℕ). option_map (λ h. 256 * h + l) high) low

-- the instruction of a form, by the bytes that follow the first
abbrev pub by_form : Option Form → Option ℕ → Option ℕ → Option ℕ → Option Instr86
by_form None x y z = None
by_form (Some (Alone i)) x y z = Some i
by_form (Some (Fixed second i)) x y z = option_and_then (λ (m : ℕ). cond (m == second) (Some i) None) x
by_form (Some (Byte f)) x y z = option_map (instruction_with_byte f) x
by_form (Some (Word f)) x y z = option_map (instruction_with_word f) (word_from x y)
by_form (Some (Fields f)) x y z = option_and_then (λ (m : ℕ). with_fields f (m / 64) (m / 8 % 8) (m % 8) y (word_from y z)) x

abbrev pub by_first : Option ℕ → Option ℕ → Option ℕ → Option ℕ → Option Instr86
by_first None x y z = None
by_first (Some first) x y z = by_form (form_of first) x y z

-- the instruction at a place of the code
unfoldable pub decoded : List ℕ → ℕ → Option Instr86
decoded code at = by_first (slice_get code at) (slice_get code (at + 1)) (slice_get code (at + 2)) (slice_get code (at + 3))
