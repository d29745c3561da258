-- A written line reads back.
use Rattle.std.proofs.Common.{◌≡◌, ℕ, ◌+◌, List, [], ◌∷◌, ◌++◌, true, ltb, leb, codes, Ok, refl, arith}
use Rattle.std.proofs.lemmas.Bool.{ltb-true, le-leb}
use Rattle.i86.specs.declared.Reg8.{Reg8}
use Rattle.i86.specs.declared.Reg8.TheVariants.{Al, Cl}
use Rattle.i86.specs.declared.Reg16.{Reg16}
use Rattle.i86.specs.declared.Reg16.TheVariants.{Ax, Bx, Si}
use Rattle.i86.specs.declared.StackReg.{StackReg}
use Rattle.i86.specs.declared.StackReg.TheVariants.{Ax as StackAx}
use Rattle.i86.specs.declared.AluOp.{AluOp}
use Rattle.i86.specs.declared.AluOp.TheVariants.{Add, Or}
use Rattle.i86.specs.declared.Count.{Count}
use Rattle.i86.specs.declared.Ptr.{Ptr}
use Rattle.i86.specs.declared.Ptr.TheVariants.{Bx as PtrBx, Si as PtrSi}
use Rattle.i86.specs.declared.Operand8.TheVariants.{Reg, Mem}
use Rattle.i86.specs.declared.Operand16.TheVariants.{Reg as Reg_16, Direct}
use Rattle.i86.specs.declared.Instr86.{Instr86}
use Rattle.i86.specs.declared.Instr86.TheVariants.{MovReg8, MovMem8, MovAlDirect, MovDirectAl, MovNum8, MovNum16, MovMemNum, MovReg16, MovDirect16, MovAxDs, MovSsAx, Alu, AluNum, OrClCl, Add16, Count8, Count16, Push, Pop, Xchg8, Xchg16, Rotate8, Rotate16, Not8, Daa, Sahf, Lahf, Cmc, Stc, Nop, Jcc as JccBy, JmpNear, JmpShort, JmpBx, CallNear, Ret, Int224, InAl, OutAl}
use Rattle.i86.specs.Enc86.{reg_of_stack}
use Rattle.asm86_line_types.specs.declared.line.Label.{Label}
use Rattle.asm86_line_types.specs.declared.line.Value16.TheVariants.{Num, Offset}
use Rattle.asm86_line_types.specs.declared.line.Stmt86.{Stmt86}
use Rattle.asm86_line_types.specs.declared.line.Stmt86.TheVariants.{Cseg, Dseg, Org, Rb, Db, Dw, Mark, Run, MovOffset, Jmp, Jmps, Jcc, Call, EndText}
use Rattle.asm86_line_types.specs.Written.{byte_text, word_text, reg8_text, reg16_text, ptr_text, direct8_text, direct16_text, offset_text, label_text, instr_line, written_line}
use Rattle.asm86_line_reader.specs.declared.token.Operation.TheVariants as op
use Rattle.asm86_line_reader.specs.declared.token.Token.{Token}
use Rattle.asm86_line_reader.specs.declared.token.Token.TheVariants as tokens
use Rattle.asm86_line_reader.specs.Operands.{each}
use Rattle.asm86_line_reader.specs.Words.{name_token, instruction_words, others}
use Rattle.asm86_line_reader.specs.Numbers.{number_of_word, value_in}
use Rattle.asm86_line_reader.specs.Line.{TextLineGives}
use Rattle.asm86_line_reader.specs.ReadBack.{label_fits, instr_fits, has_line}
use Rattle.asm86_line_reader.proofs.Pieces.{Piece, IsWord, nothing, word, join, after_blank, after_sign, alone_line, one_line, two_line, mark_line}
use Rattle.asm86_line_reader.proofs.WrittenWords as words

-- ---- words

mov : IsWord (codes "MOV") (tokens.Operation op.Mov)
unfolding name_token instruction_words others
mov = words.known (codes "MOV") (tokens.Operation op.Mov) refl refl refl refl

ds : IsWord (codes "DS") tokens.Ds
unfolding name_token instruction_words others
ds = words.known (codes "DS") tokens.Ds refl refl refl refl

ss : IsWord (codes "SS") tokens.Ss
unfolding name_token instruction_words others
ss = words.known (codes "SS") tokens.Ss refl refl refl refl

byte_word : IsWord (codes "BYTE") tokens.Byte
unfolding name_token instruction_words others
byte_word = words.known (codes "BYTE") tokens.Byte refl refl refl refl

word_word : IsWord (codes "WORD") tokens.Word
unfolding name_token instruction_words others
word_word = words.known (codes "WORD") tokens.Word refl refl refl refl

ptr_word : IsWord (codes "PTR") tokens.Ptr
unfolding name_token instruction_words others
ptr_word = words.known (codes "PTR") tokens.Ptr refl refl refl refl

offset_word : IsWord (codes "OFFSET") tokens.Offset
unfolding name_token instruction_words others
offset_word = words.known (codes "OFFSET") tokens.Offset refl refl refl refl

one : IsWord (codes "1") (tokens.Number 1)
unfolding number_of_word value_in
one = words.known (codes "1") (tokens.Number 1) refl refl refl refl

two_hundred : IsWord (codes "224") (tokens.Number 224)
unfolding number_of_word value_in
two_hundred = words.known (codes "224") (tokens.Number 224) refl refl refl refl

-- ---- operands

reg8 : (r : Reg8) → Piece 6 (reg8_text r) (tokens.Reg8 r ∷ [])
reg8 r = word (reg8_text r) (tokens.Reg8 r) (words.reg8 r)

reg16 : (r : Reg16) → Piece 6 (reg16_text r) (tokens.Reg16 r ∷ [])
reg16 r = word (reg16_text r) (tokens.Reg16 r) (words.reg16 r)

byte : (n : ℕ) → ltb n 256 ≡ true → Piece 6 (byte_text n) (tokens.Number n ∷ [])
byte n h = word (byte_text n) (tokens.Number n) (words.byte n (ltb-true n 256 h))

number : (w : ℕ) → ltb w 65536 ≡ true → Piece 6 (word_text w) (tokens.Number w ∷ [])
number w h = word (word_text w) (tokens.Number w) (words.word w (ltb-true w 65536 h))

label : (l : Label) → label_fits l ≡ true → Piece 6 (label_text l) (tokens.Label l ∷ [])
label l h = word (label_text l) (tokens.Label l) (words.label l h)

offset : (l : Label) → label_fits l ≡ true → Piece 13 (offset_text l) (tokens.Offset ∷ (tokens.Label l ∷ []))
offset l h = join (word (codes "OFFSET") tokens.Offset offset_word) (after_blank (label l h)) refl

in_brackets : (r : Reg16) → Piece 8 (0x5B ∷ (reg16_text r ++ (0x5D ∷ []))) (tokens.Open ∷ (tokens.Reg16 r ∷ (tokens.Close ∷ [])))
in_brackets r = after_sign 0x5B tokens.Open refl refl (λ k. absurd (omega arith)) refl refl (join (reg16 r) (after_sign 0x5D tokens.Close refl refl (λ k. absurd (omega arith)) refl refl nothing) refl)

byte_at : {n : ℕ} {q : List ℕ} {vs : List Token} → Piece n q vs → Piece (6 + (6 + (n + 1) + 1)) (codes "BYTE" ++ (0x20 ∷ (codes "PTR" ++ (0x20 ∷ q)))) (tokens.Byte ∷ (tokens.Ptr ∷ vs))
byte_at b = join (word (codes "BYTE") tokens.Byte byte_word) (after_blank (join (word (codes "PTR") tokens.Ptr ptr_word) (after_blank b) refl)) refl

word_at : {n : ℕ} {q : List ℕ} {vs : List Token} → Piece n q vs → Piece (6 + (6 + (n + 1) + 1)) (codes "WORD" ++ (0x20 ∷ (codes "PTR" ++ (0x20 ∷ q)))) (tokens.Word ∷ (tokens.Ptr ∷ vs))
word_at b = join (word (codes "WORD") tokens.Word word_word) (after_blank (join (word (codes "PTR") tokens.Ptr ptr_word) (after_blank b) refl)) refl

reg_of : Ptr → Reg16
reg_of PtrBx = Bx
reg_of PtrSi = Si

ptr : (p : Ptr) → Piece 22 (ptr_text p) (tokens.Byte ∷ (tokens.Ptr ∷ (tokens.Open ∷ (tokens.Reg16 (reg_of p) ∷ (tokens.Close ∷ [])))))
unfolding reg_of
ptr PtrBx = byte_at (in_brackets Bx)
ptr PtrSi = byte_at (in_brackets Si)

direct8 : (a : ℕ) → ltb a 65536 ≡ true → Piece 21 (direct8_text a) (tokens.Byte ∷ (tokens.Ptr ∷ (tokens.Dot ∷ (tokens.Number a ∷ []))))
direct8 a h = byte_at (after_sign 0x2E tokens.Dot refl refl (λ k. absurd (omega arith)) refl refl (number a h))

direct16 : (a : ℕ) → ltb a 65536 ≡ true → Piece 21 (direct16_text a) (tokens.Word ∷ (tokens.Ptr ∷ (tokens.Dot ∷ (tokens.Number a ∷ []))))
direct16 a h = word_at (after_sign 0x2E tokens.Dot refl refl (λ k. absurd (omega arith)) refl refl (number a h))

-- ---- instructions

small : (n : ℕ) → ltb n 256 ≡ true → leb n 255 ≡ true
small n h = let k = ltb-true n 256 h in le-leb n 255 (omega arith)

pushed : (r : StackReg) (line : List ℕ) → instr_line (Push r) ≡ line ++ codes "\r\n" → TextLineGives line (Ok (Run (Push r) ∷ []))
unfolding each name_token instruction_words others
pushed StackAx line e = one_line line (words.known (codes "PUSH") (tokens.Operation op.Push) refl refl refl refl) (reg16 Ax) (omega arith) e refl refl
pushed r line e = one_line line (words.known (codes "PUSH") (tokens.Operation op.Push) refl refl refl refl) (reg16 (reg_of_stack r)) (omega arith) e refl refl

popped : (r : StackReg) (line : List ℕ) → instr_line (Pop r) ≡ line ++ codes "\r\n" → TextLineGives line (Ok (Run (Pop r) ∷ []))
unfolding each name_token instruction_words others
popped StackAx line e = one_line line (words.known (codes "POP") (tokens.Operation op.Pop) refl refl refl refl) (reg16 Ax) (omega arith) e refl refl
popped r line e = one_line line (words.known (codes "POP") (tokens.Operation op.Pop) refl refl refl refl) (reg16 (reg_of_stack r)) (omega arith) e refl refl

from_mem : (r : Reg8) (p : Ptr) (line : List ℕ) → instr_line (MovReg8 r (Mem p)) ≡ line ++ codes "\r\n" → TextLineGives line (Ok (Run (MovReg8 r (Mem p)) ∷ []))
unfolding each reg_of
from_mem r PtrBx line e = two_line line mov (reg8 r) (ptr PtrBx) (omega arith) (omega arith) e refl refl
from_mem r PtrSi line e = two_line line mov (reg8 r) (ptr PtrSi) (omega arith) (omega arith) e refl refl

into_mem : (p : Ptr) (r : Reg8) (line : List ℕ) → instr_line (MovMem8 p r) ≡ line ++ codes "\r\n" → TextLineGives line (Ok (Run (MovMem8 p r) ∷ []))
unfolding each reg_of
into_mem PtrBx r line e = two_line line mov (ptr PtrBx) (reg8 r) (omega arith) (omega arith) e refl refl
into_mem PtrSi r line e = two_line line mov (ptr PtrSi) (reg8 r) (omega arith) (omega arith) e refl refl

set_mem : (p : Ptr) (n : ℕ) (line : List ℕ) → ltb n 256 ≡ true → instr_line (MovMemNum p n) ≡ line ++ codes "\r\n" → TextLineGives line (Ok (Run (MovMemNum p n) ∷ []))
unfolding each reg_of
set_mem PtrBx n line h e = two_line line mov (ptr PtrBx) (byte n h) (omega arith) (omega arith) e refl (small n h)
set_mem PtrSi n line h e = two_line line mov (ptr PtrSi) (byte n h) (omega arith) (omega arith) e refl (small n h)

alu_mem : (o : AluOp) (p : Ptr) (line : List ℕ) → instr_line (Alu o (Mem p)) ≡ line ++ codes "\r\n" → TextLineGives line (Ok (Run (Alu o (Mem p)) ∷ []))
unfolding each reg_of
alu_mem o PtrBx line e = two_line line (words.alu o) (reg8 Al) (ptr PtrBx) (omega arith) (omega arith) e refl refl
alu_mem o PtrSi line e = two_line line (words.alu o) (reg8 Al) (ptr PtrSi) (omega arith) (omega arith) e refl refl

count_mem : (c : Count) (p : Ptr) (line : List ℕ) → instr_line (Count8 c (Mem p)) ≡ line ++ codes "\r\n" → TextLineGives line (Ok (Run (Count8 c (Mem p)) ∷ []))
unfolding each reg_of
count_mem c PtrBx line e = one_line line (words.count c) (ptr PtrBx) (omega arith) e refl refl
count_mem c PtrSi line e = one_line line (words.count c) (ptr PtrSi) (omega arith) e refl refl

instr : (i : Instr86) (line : List ℕ) → instr_fits i ≡ true → instr_line i ≡ line ++ codes "\r\n" → TextLineGives line (Ok (Run i ∷ []))
unfolding each name_token instruction_words others
instr (MovReg8 r (Reg q)) line h e = two_line line mov (reg8 r) (reg8 q) (omega arith) (omega arith) e refl refl
instr (MovReg8 r (Mem p)) line h e = from_mem r p line e
instr (MovMem8 p r) line h e = into_mem p r line e
instr (MovAlDirect a) line h e = two_line line mov (reg8 Al) (direct8 a h) (omega arith) (omega arith) e refl refl
instr (MovDirectAl a) line h e = two_line line mov (direct8 a h) (reg8 Al) (omega arith) (omega arith) e refl refl
instr (MovNum8 r n) line h e = two_line line mov (reg8 r) (byte n h) (omega arith) (omega arith) e refl (small n h)
instr (MovNum16 r w) line h e = two_line line mov (reg16 r) (number w h) (omega arith) (omega arith) e refl refl
instr (MovMemNum p n) line h e = set_mem p n line h e
instr (MovReg16 r (Reg_16 q)) line h e = two_line line mov (reg16 r) (reg16 q) (omega arith) (omega arith) e refl refl
instr (MovReg16 r (Direct a)) line h e = two_line line mov (reg16 r) (direct16 a h) (omega arith) (omega arith) e refl refl
instr (MovDirect16 a r) line h e = two_line line mov (direct16 a h) (reg16 r) (omega arith) (omega arith) e refl refl
instr MovAxDs line h e = two_line line mov (reg16 Ax) (word (codes "DS") tokens.Ds ds) (omega arith) (omega arith) e refl refl
instr MovSsAx line h e = two_line line mov (word (codes "SS") tokens.Ss ss) (reg16 Ax) (omega arith) (omega arith) e refl refl
instr (Alu o (Reg q)) line h e = two_line line (words.alu o) (reg8 Al) (reg8 q) (omega arith) (omega arith) e refl refl
instr (Alu o (Mem p)) line h e = alu_mem o p line e
instr (AluNum o n) line h e = two_line line (words.alu o) (reg8 Al) (byte n h) (omega arith) (omega arith) e refl (small n h)
instr OrClCl line h e = two_line line (words.alu Or) (reg8 Cl) (reg8 Cl) (omega arith) (omega arith) e refl refl
instr (Add16 r q) line h e = two_line line (words.alu Add) (reg16 r) (reg16 q) (omega arith) (omega arith) e refl refl
instr (Count8 c (Reg r)) line h e = one_line line (words.count c) (reg8 r) (omega arith) e refl refl
instr (Count8 c (Mem p)) line h e = count_mem c p line e
instr (Count16 c r) line h e = one_line line (words.count c) (reg16 r) (omega arith) e refl refl
instr (Push r) line h e = pushed r line e
instr (Pop r) line h e = popped r line e
instr (Xchg8 r q) line h e = two_line line (words.known (codes "XCHG") (tokens.Operation op.Xchg) refl refl refl refl) (reg8 r) (reg8 q) (omega arith) (omega arith) e refl refl
instr (Xchg16 r q) line h e = two_line line (words.known (codes "XCHG") (tokens.Operation op.Xchg) refl refl refl refl) (reg16 r) (reg16 q) (omega arith) (omega arith) e refl refl
instr (Rotate8 k r) line h e = two_line line (words.rotate k) (reg8 r) (word (codes "1") (tokens.Number 1) one) (omega arith) (omega arith) e refl refl
instr (Rotate16 k r) line h e = two_line line (words.rotate k) (reg16 r) (word (codes "1") (tokens.Number 1) one) (omega arith) (omega arith) e refl refl
instr (Not8 r) line h e = one_line line (words.known (codes "NOT") (tokens.Operation op.Not) refl refl refl refl) (reg8 r) (omega arith) e refl refl
instr Daa line h e = alone_line line (words.known (codes "DAA") (tokens.Operation op.Daa) refl refl refl refl) e refl refl
instr Sahf line h e = alone_line line (words.known (codes "SAHF") (tokens.Operation op.Sahf) refl refl refl refl) e refl refl
instr Lahf line h e = alone_line line (words.known (codes "LAHF") (tokens.Operation op.Lahf) refl refl refl refl) e refl refl
instr Cmc line h e = alone_line line (words.known (codes "CMC") (tokens.Operation op.Cmc) refl refl refl refl) e refl refl
instr Stc line h e = alone_line line (words.known (codes "STC") (tokens.Operation op.Stc) refl refl refl refl) e refl refl
instr Nop line h e = alone_line line (words.known (codes "NOP") (tokens.Operation op.Nop) refl refl refl refl) e refl refl
instr (JccBy j d) line h e = absurd cc
instr (JmpNear d) line h e = absurd cc
instr (JmpShort d) line h e = absurd cc
instr JmpBx line h e = one_line line (words.known (codes "JMP") (tokens.Operation op.Jmp) refl refl refl refl) (reg16 Bx) (omega arith) e refl refl
instr (CallNear d) line h e = absurd cc
instr Ret line h e = alone_line line (words.known (codes "RET") (tokens.Operation op.Ret) refl refl refl refl) e refl refl
instr Int224 line h e = one_line line (words.known (codes "INT") (tokens.Operation op.Int) refl refl refl refl) (word (codes "224") (tokens.Number 224) two_hundred) (omega arith) e refl refl
instr (InAl n) line h e = two_line line (words.known (codes "IN") (tokens.Operation op.In) refl refl refl refl) (reg8 Al) (byte n h) (omega arith) (omega arith) e refl (small n h)
instr (OutAl n) line h e = two_line line (words.known (codes "OUT") (tokens.Operation op.Out) refl refl refl refl) (byte n h) (reg8 Al) (omega arith) (omega arith) e refl (small n h)

-- ---- statements

pub read_back : (s : Stmt86) (line : List ℕ) → has_line s ≡ true → written_line s ≡ line ++ codes "\r\n" → TextLineGives line (Ok (s ∷ []))
unfolding each name_token instruction_words others
read_back Cseg line h e = alone_line line (words.known (codes "CSEG") (tokens.Operation op.Cseg) refl refl refl refl) e refl refl
read_back Dseg line h e = alone_line line (words.known (codes "DSEG") (tokens.Operation op.Dseg) refl refl refl refl) e refl refl
read_back (Org w) line h e = one_line line (words.known (codes "ORG") (tokens.Operation op.Org) refl refl refl refl) (number w h) (omega arith) e refl refl
read_back (Rb w) line h e = one_line line (words.known (codes "RB") (tokens.Operation op.Rb) refl refl refl refl) (number w h) (omega arith) e refl refl
read_back (Db n) line h e = one_line line (words.known (codes "DB") (tokens.Operation op.Db) refl refl refl refl) (byte n h) (omega arith) e refl (small n h)
read_back (Dw (Num w)) line h e = one_line line (words.known (codes "DW") (tokens.Operation op.Dw) refl refl refl refl) (number w h) (omega arith) e refl refl
read_back (Dw (Offset l)) line h e = one_line line (words.known (codes "DW") (tokens.Operation op.Dw) refl refl refl refl) (offset l h) (omega arith) e refl refl
read_back (Mark l) line h e = mark_line line (words.label l h) e refl refl
read_back (Run i) line h e = instr i line h e
read_back (MovOffset r l) line h e = two_line line mov (reg16 r) (offset l h) (omega arith) (omega arith) e refl refl
read_back (Jmp l) line h e = one_line line (words.known (codes "JMP") (tokens.Operation op.Jmp) refl refl refl refl) (label l h) (omega arith) e refl refl
read_back (Jmps l) line h e = one_line line (words.known (codes "JMPS") (tokens.Operation op.Jmps) refl refl refl refl) (label l h) (omega arith) e refl refl
read_back (Jcc j l) line h e = one_line line (words.jump j) (label l h) (omega arith) e refl refl
read_back (Call l) line h e = one_line line (words.known (codes "CALL") (tokens.Operation op.Call) refl refl refl refl) (label l h) (omega arith) e refl refl
read_back EndText line h e = alone_line line (words.known (codes "END") (tokens.Operation op.End) refl refl refl refl) e refl refl
