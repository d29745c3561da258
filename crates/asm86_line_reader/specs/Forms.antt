-- The forms of a statement: an operation with its operands, and the statement that they make (Intel 8086 Family User's Manual,
-- "Instruction set"; CP/M-86 Programmer's Guide, "Assembler Directives"; the choice of forms is this project's). What is in no row is
-- no statement. A number may be above 255 here where a byte is needed: `is_small` says where none is.
use Rattle.std.specs.Prelude.{ℕ, ◌==◌, nat_le, cond, List, [], ◌∷◌, Bool, true, false, Option, Some, None, option_map, option_and_then}
use Rattle.i86.specs.declared.Reg8.{Reg8}
use Rattle.i86.specs.declared.Reg8.TheVariants.{Al, Cl}
use Rattle.i86.specs.declared.Reg16.{Reg16}
use Rattle.i86.specs.declared.Reg16.TheVariants.{Ax, Cx, Dx, Bx, Sp, Si}
use Rattle.i86.specs.declared.StackReg.{StackReg}
use Rattle.i86.specs.declared.StackReg.TheVariants.{Ax as StackAx, Cx as StackCx, Dx as StackDx, Bx as StackBx, Si as StackSi}
use Rattle.i86.specs.declared.Ptr.{Ptr}
use Rattle.i86.specs.declared.Operand8.TheVariants.{Reg, Mem as Mem_8}
use Rattle.i86.specs.declared.Operand16.TheVariants.{Reg as Reg_16, Direct}
use Rattle.i86.specs.declared.AluOp.{AluOp}
use Rattle.i86.specs.declared.AluOp.TheVariants.{Add, Or}
use Rattle.i86.specs.declared.Count.{Count}
use Rattle.i86.specs.declared.Rotate.{Rotate}
use Rattle.i86.specs.declared.Instr86.{Instr86}
use Rattle.i86.specs.declared.Instr86.TheVariants.{MovReg8, MovMem8, MovAlDirect, MovDirectAl, MovNum8, MovNum16, MovMemNum, MovReg16, MovDirect16, MovAxDs, MovSsAx, Alu, AluNum, OrClCl, Add16, Count8, Count16, Push, Pop, Xchg8, Xchg16, Rotate8, Rotate16, Not8, Daa, Sahf, Lahf, Cmc, Stc, Nop, Jcc as JccBy, JmpNear, JmpShort, JmpBx, CallNear, Ret, Int224, InAl, OutAl}
use Rattle.asm86_line_types.specs.declared.line.Label.{Label}
use Rattle.asm86_line_types.specs.declared.line.Value16.TheVariants.{Num, Offset as OffsetOf}
use Rattle.asm86_line_types.specs.declared.line.Stmt86.{Stmt86}
use Rattle.asm86_line_types.specs.declared.line.Stmt86.TheVariants.{Cseg, Dseg, Org, Rb, Db, Dw, Mark, Run, MovOffset, Jmp, Jmps, Jcc, Call, EndText}
use Rattle.asm86_line_reader.specs.declared.token.Operation.{Operation}
use Rattle.asm86_line_reader.specs.declared.token.Operation.TheVariants as op
use Rattle.asm86_line_reader.specs.declared.token.Token.{Token}
use Rattle.asm86_line_reader.specs.declared.token.Token.TheVariants as tokens
use Rattle.asm86_line_reader.specs.declared.token.Operand.{Operand}
use Rattle.asm86_line_reader.specs.declared.token.Operand.TheVariants.{Reg8 as Byte, Reg16 as Word, Ds, Ss, Number, Label as To, Offset, Mem, DirectByte, DirectWord}
use Rattle.asm86_line_reader.specs.Operands.{each, operands_in}

abbrev pub run : Instr86 → Option Stmt86
run i = Some (Run i)

-- ---- no operand

abbrev pub bare : Operation → Option Stmt86
bare op.Daa = run Daa
bare op.Sahf = run Sahf
bare op.Lahf = run Lahf
bare op.Cmc = run Cmc
bare op.Stc = run Stc
bare op.Nop = run Nop
bare op.Ret = run Ret
bare op.Cseg = Some Cseg
bare op.Dseg = Some Dseg
bare op.End = Some EndText
bare _ = None

-- ---- one operand

-- INC and DEC
abbrev pub counted : Count → Operand → Option Stmt86
counted c (Byte r) = run (Count8 c (Reg r))
counted c (Mem p) = run (Count8 c (Mem_8 p))
counted c (Word r) = run (Count16 c r)
counted c _ = None

-- the registers of PUSH and POP: SP is none
abbrev pub stacked : Reg16 → Option StackReg
stacked Ax = Some StackAx
stacked Cx = Some StackCx
stacked Dx = Some StackDx
stacked Bx = Some StackBx
stacked Sp = None
stacked Si = Some StackSi

abbrev pub pushed : Operand → Option Stmt86
pushed (Word r) = option_and_then (λ (s : StackReg). run (Push s)) (stacked r)
pushed _ = None

abbrev pub popped : Operand → Option Stmt86
popped (Word r) = option_and_then (λ (s : StackReg). run (Pop s)) (stacked r)
popped _ = None

-- NOT
abbrev pub inverted : Operand → Option Stmt86
inverted (Byte r) = run (Not8 r)
inverted _ = None

-- INT 224, however it is written
abbrev pub interrupt : Operand → Option Stmt86
interrupt (Number n) = cond (n == 224) (run Int224) None
interrupt _ = None

-- JMP BX
abbrev pub to_bx : Reg16 → Option Stmt86
to_bx Bx = run JmpBx
to_bx _ = None

-- JMP
abbrev pub jumped : Operand → Option Stmt86
jumped (To l) = Some (Jmp l)
jumped (Word r) = to_bx r
jumped _ = None

-- an operand that is a label, and one that is a number
abbrev pub label_in : Operand → Option Label
label_in (To l) = Some l
label_in _ = None

abbrev pub number_in : Operand → Option ℕ
number_in (Number n) = Some n
number_in _ = None

abbrev pub with_one : Operation → Operand → Option Stmt86
with_one (op.Count c) a = counted c a
with_one op.Push a = pushed a
with_one op.Pop a = popped a
with_one op.Not a = inverted a
with_one op.Int a = interrupt a
with_one op.Jmp a = jumped a
with_one op.Jmps a = option_map Jmps (label_in a)
with_one op.Call a = option_map Call (label_in a)
with_one (op.Jcc j) a = option_map (Jcc j) (label_in a)
with_one op.Org a = option_map Org (number_in a)
with_one op.Rb a = option_map Rb (number_in a)
with_one _ a = None

-- ---- two operands

-- a form of AL, of CL and of AX alone
abbrev pub if_al : Reg8 → Option Stmt86 → Option Stmt86
if_al Al s = s
if_al _ s = None

abbrev pub if_cl : Reg8 → Option Stmt86 → Option Stmt86
if_cl Cl s = s
if_cl _ s = None

abbrev pub if_ax : Reg16 → Option Stmt86 → Option Stmt86
if_ax Ax s = s
if_ax _ s = None

-- MOV to a byte register
abbrev pub into_reg8 : Reg8 → Operand → Option Stmt86
into_reg8 r (Byte q) = run (MovReg8 r (Reg q))
into_reg8 r (Mem p) = run (MovReg8 r (Mem_8 p))
into_reg8 r (Number n) = run (MovNum8 r n)
into_reg8 r (DirectByte a) = if_al r (run (MovAlDirect a))
into_reg8 r _ = None

-- to a word register
abbrev pub into_reg16 : Reg16 → Operand → Option Stmt86
into_reg16 r (Word q) = run (MovReg16 r (Reg_16 q))
into_reg16 r (DirectWord a) = run (MovReg16 r (Direct a))
into_reg16 r (Number w) = run (MovNum16 r w)
into_reg16 r (Offset l) = Some (MovOffset r l)
into_reg16 r Ds = if_ax r (run MovAxDs)
into_reg16 r _ = None

-- to the byte that a register points to
abbrev pub into_mem : Ptr → Operand → Option Stmt86
into_mem p (Byte r) = run (MovMem8 p r)
into_mem p (Number n) = run (MovMemNum p n)
into_mem p _ = None

-- to the byte and to the word at an address
abbrev pub into_byte : ℕ → Operand → Option Stmt86
into_byte a (Byte r) = if_al r (run (MovDirectAl a))
into_byte a _ = None

abbrev pub into_word : ℕ → Operand → Option Stmt86
into_word a (Word r) = run (MovDirect16 a r)
into_word a _ = None

-- to SS
abbrev pub into_ss : Operand → Option Stmt86
into_ss (Word r) = if_ax r (run MovSsAx)
into_ss _ = None

abbrev pub moved : Operand → Operand → Option Stmt86
moved (Byte r) b = into_reg8 r b
moved (Word r) b = into_reg16 r b
moved (Mem p) b = into_mem p b
moved (DirectByte a) b = into_byte a b
moved (DirectWord a) b = into_word a b
moved Ss b = into_ss b
moved _ b = None

-- ADD and the like with AL
abbrev pub on_al : AluOp → Operand → Option Stmt86
on_al o (Byte q) = run (Alu o (Reg q))
on_al o (Mem p) = run (Alu o (Mem_8 p))
on_al o (Number n) = run (AluNum o n)
on_al o _ = None

-- OR CL,CL
abbrev pub or_cl : AluOp → Operand → Option Stmt86
or_cl Or (Byte q) = if_cl q (run OrClCl)
or_cl _ b = None

abbrev pub on_reg8 : AluOp → Reg8 → Operand → Option Stmt86
on_reg8 o Al b = on_al o b
on_reg8 o Cl b = or_cl o b
on_reg8 o _ b = None

-- ADD r16,r16
abbrev pub on_reg16 : AluOp → Reg16 → Operand → Option Stmt86
on_reg16 Add r (Word q) = run (Add16 r q)
on_reg16 _ r b = None

abbrev pub computed : AluOp → Operand → Operand → Option Stmt86
computed o (Byte r) b = on_reg8 o r b
computed o (Word r) b = on_reg16 o r b
computed o _ b = None

-- XCHG of two bytes, of two words
abbrev pub with_reg8 : Reg8 → Operand → Option Stmt86
with_reg8 r (Byte q) = run (Xchg8 r q)
with_reg8 r _ = None

abbrev pub with_reg16 : Reg16 → Operand → Option Stmt86
with_reg16 r (Word q) = run (Xchg16 r q)
with_reg16 r _ = None

abbrev pub exchanged : Operand → Operand → Option Stmt86
exchanged (Byte r) b = with_reg8 r b
exchanged (Word r) b = with_reg16 r b
exchanged _ b = None

-- a rotation by 1, however it is written
abbrev pub by_one : Operand → Option Stmt86 → Option Stmt86
by_one (Number n) s = cond (n == 1) s None
by_one _ s = None

abbrev pub rotated : Rotate → Operand → Operand → Option Stmt86
rotated k (Byte r) b = by_one b (run (Rotate8 k r))
rotated k (Word r) b = by_one b (run (Rotate16 k r))
rotated k _ b = None

-- IN AL,n
abbrev pub into_al : Operand → Option Stmt86
into_al (Number n) = run (InAl n)
into_al _ = None

abbrev pub received : Operand → Operand → Option Stmt86
received (Byte r) b = if_al r (into_al b)
received _ b = None

-- OUT n,AL
abbrev pub to_port : ℕ → Operand → Option Stmt86
to_port n (Byte r) = if_al r (run (OutAl n))
to_port n _ = None

abbrev pub sent : Operand → Operand → Option Stmt86
sent (Number n) b = to_port n b
sent _ b = None

abbrev pub with_two : Operation → Operand → Operand → Option Stmt86
with_two op.Mov a b = moved a b
with_two (op.Alu o) a b = computed o a b
with_two op.Xchg a b = exchanged a b
with_two (op.Rotate k) a b = rotated k a b
with_two op.In a b = received a b
with_two op.Out a b = sent a b
with_two _ a b = None

-- ---- any number of operands

-- an item of DB, and one of DW
abbrev pub byte_item : Operand → Option Stmt86
byte_item a = option_map Db (number_in a)

abbrev pub word_item : Operand → Option Stmt86
word_item (Number w) = Some (Dw (Num w))
word_item (Offset l) = Some (Dw (OffsetOf l))
word_item _ = None

-- one item or more
abbrev pub items_of : (Operand → Option Stmt86) → List Operand → Option (List Stmt86)
items_of item [] = None
items_of item (o ∷ os) = each item (o ∷ os)

abbrev pub single : Operation → List Operand → Option Stmt86
single o [] = bare o
single o (a ∷ []) = with_one o a
single o (a ∷ b ∷ []) = with_two o a b
single o _ = None

-- the statements of an operation with its operands
abbrev pub formed : Operation → List Operand → Option (List Stmt86)
formed op.Db os = items_of byte_item os
formed op.Dw os = items_of word_item os
formed o os = option_map (λ s. s ∷ []) (single o os)

-- ---- the words of a line

-- what follows the label: nothing, or an operation with its operands
abbrev pub body_of : List Token → Option (List Stmt86)
body_of [] = Some []
body_of (tokens.Operation o ∷ ts) = option_and_then (formed o) (operands_in ts)
body_of _ = None

-- a label, if there is one, has a colon, and is a statement of its own
abbrev pub statements_of : List Token → Option (List Stmt86)
statements_of (tokens.Label l ∷ tokens.Colon ∷ ts) = option_map (λ ss. Mark l ∷ ss) (body_of ts)
statements_of ts = body_of ts

-- ---- bytes

abbrev pub is_small_instr : Instr86 → Bool
is_small_instr (MovNum8 r n) = nat_le n 255
is_small_instr (MovMemNum p n) = nat_le n 255
is_small_instr (AluNum o n) = nat_le n 255
is_small_instr (InAl n) = nat_le n 255
is_small_instr (OutAl n) = nat_le n 255
is_small_instr _ = true

-- no number above 255 stands where a byte is needed
abbrev pub is_small : Stmt86 → Bool
is_small (Db n) = nat_le n 255
is_small (Run i) = is_small_instr i
is_small _ = true

-- ---- labels

-- a jump or a call with a displacement stands in no text: a statement names the label that it goes to
abbrev pub names_no_offset : Instr86 → Bool
names_no_offset (JccBy j d) = false
names_no_offset (JmpNear d) = false
names_no_offset (JmpShort d) = false
names_no_offset (CallNear d) = false
names_no_offset _ = true

abbrev pub names_labels : Stmt86 → Bool
names_labels (Run i) = names_no_offset i
names_labels _ = true
