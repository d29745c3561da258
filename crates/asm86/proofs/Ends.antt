-- Written lines end with CR and LF, and have no other LF.
use Rattle.std.proofs.Common.{◌≡◌, ℕ, ◌==◌, ◌&&◌, ◌/◌, ◌%◌, List, [], ◌∷◌, ◌++◌, Bool, true, false, not, codes, refl, sym, ap, ◌∙◌, append_assoc, arith, inl, inr}
use Rattle.std.specs.List.{list_all, AllByRecursion}
use Rattle.std.proofs.lemmas.Bool.{cases_lt, lt-ltb, le-ltb}
use Rattle.i86.specs.declared.Reg8.{Reg8}
use Rattle.i86.specs.declared.Reg8.TheVariants.{Al, Cl, Dl, Bl, Ah, Ch, Dh, Bh}
use Rattle.i86.specs.declared.Reg16.{Reg16}
use Rattle.i86.specs.declared.Reg16.TheVariants.{Ax, Cx, Dx, Bx, Sp, Si}
use Rattle.i86.specs.declared.Ptr.{Ptr}
use Rattle.i86.specs.declared.Ptr.TheVariants.{Bx as PtrBx, Si as PtrSi}
use Rattle.i86.specs.declared.Operand8.{Operand8}
use Rattle.i86.specs.declared.Operand8.TheVariants.{Reg, Mem}
use Rattle.i86.specs.declared.Operand16.{Operand16}
use Rattle.i86.specs.declared.Operand16.TheVariants.{Reg as Reg_16, Direct}
use Rattle.i86.specs.declared.AluOp.{AluOp}
use Rattle.i86.specs.declared.AluOp.TheVariants.{Add, Or, Adc, Sbb, And, Sub, Xor, Cmp}
use Rattle.i86.specs.declared.Count.{Count}
use Rattle.i86.specs.declared.Count.TheVariants.{Inc, Dec}
use Rattle.i86.specs.declared.Rotate.{Rotate}
use Rattle.i86.specs.declared.Rotate.TheVariants.{Rol, Ror, Rcl, Rcr}
use Rattle.i86.specs.declared.Jump.{Jump}
use Rattle.i86.specs.declared.Jump.TheVariants.{Jb, Jnb, Jz, Jnz, Js, Jns, Jp, Jnp}
use Rattle.i86.specs.declared.Instr86.{Instr86}
use Rattle.i86.specs.declared.Instr86.TheVariants.{MovReg8, MovMem8, MovAlDirect, MovDirectAl, MovNum8, MovNum16, MovMemNum, MovReg16, MovDirect16, MovAxDs, MovSsAx, Alu, AluNum, OrClCl, Add16, Count8, Count16, Push, Pop, Xchg8, Xchg16, Rotate8, Rotate16, Not8, Daa, Sahf, Lahf, Cmc, Stc, Nop, Jcc, JmpNear, JmpShort, JmpBx, CallNear, Ret, Int224, InAl, OutAl}
use Rattle.i86.specs.Enc86.{reg_of_stack}
use Rattle.asm86_line_types.specs.declared.line.Label.{Label}
use Rattle.asm86_line_types.specs.declared.line.Label.TheVariants.{At, Skip, User, Sys, End}
use Rattle.asm86_line_types.specs.declared.line.Value16.{Value16}
use Rattle.asm86_line_types.specs.declared.line.Value16.TheVariants.{Num, Offset}
use Rattle.asm86_line_types.specs.declared.line.Stmt86.{Stmt86}
use Rattle.asm86_line_types.specs.declared.line.Stmt86.TheVariants.{Cseg, Dseg, Org, Rb, Db, Dw, Mark, Run, MovOffset, Jmp, Jmps, Jcc as JccTo, Call, EndText}
use Rattle.asm86_line_types.specs.Written.{digit, four_digits, byte_text, word_text, reg8_text, reg16_text, ptr_text, operand8_text, direct8_text, direct16_text, operand16_text, alu_text, count_text, rotate_text, jump_text, label_text, offset_text, value_text, alone, with_one, with_two, instr_line, written_line}
use Rattle.asm86_line_reader.specs.ReadBack.{instr_fits, has_line}
use Rattle.asm86.specs.Stream.{IsNotLf}
use Rattle.asm86.proofs.Lines.{true_false}

both : (a b : List ℕ) → AllByRecursion IsNotLf a → AllByRecursion IsNotLf b → AllByRecursion IsNotLf (a ++ b)
both [] b p q = q
both (x ∷ a) b p q = (p.0, both a b p.1 q)

not_ten : (b : ℕ) → not (b == 10) ≡ true → IsNotLf b
not_ten b h e = true_false (not (b == 10)) h (rw e refl)

and_is : (a b : Bool) → (a && b) ≡ true → (a ≡ true) × (b ≡ true)
and_is true b h = (refl, h)
and_is false b h = absurd cc

-- bytes of which a test says so
tested : (bytes : List ℕ) → list_all (λ (b : ℕ). not (b == 10)) bytes ≡ true → AllByRecursion IsNotLf bytes
tested [] h = tt
tested (b ∷ bytes) h = let k = and_is (not (b == 10)) (list_all (λ (a : ℕ). not (a == 10)) bytes) h in (not_ten b k.0, tested bytes k.1)

-- ---- operands

digit_plain : (n : ℕ) → IsNotLf (digit n)
digit_plain n = elim (cases_lt n 10) [
  | inl lt ↦ rw (lt-ltb n 10 lt) (λ e. omega (arith, e))
  | inr le ↦ rw (le-ltb n 10 le) (λ e. omega (arith, e))
]

zero_plain : IsNotLf 0x30
zero_plain e = omega (arith, e)

four_plain : (w : ℕ) → AllByRecursion IsNotLf (four_digits w)
four_plain w = (digit_plain (w / 4096), (digit_plain (w / 256 % 16), (digit_plain (w / 16 % 16), (digit_plain (w % 16), tt))))

byte_plain : (n : ℕ) → AllByRecursion IsNotLf (byte_text n)
byte_plain n = (zero_plain, (digit_plain (n / 16), (digit_plain (n % 16), tested (codes "H") refl)))

word_plain : (w : ℕ) → AllByRecursion IsNotLf (word_text w)
word_plain w = (zero_plain, both (four_digits w) (codes "H") (four_plain w) (tested (codes "H") refl))

reg8_plain : (x : Reg8) → AllByRecursion IsNotLf (reg8_text x)
reg8_plain Al = tested (codes "AL") refl
reg8_plain Cl = tested (codes "CL") refl
reg8_plain Dl = tested (codes "DL") refl
reg8_plain Bl = tested (codes "BL") refl
reg8_plain Ah = tested (codes "AH") refl
reg8_plain Ch = tested (codes "CH") refl
reg8_plain Dh = tested (codes "DH") refl
reg8_plain Bh = tested (codes "BH") refl

reg16_plain : (x : Reg16) → AllByRecursion IsNotLf (reg16_text x)
reg16_plain Ax = tested (codes "AX") refl
reg16_plain Cx = tested (codes "CX") refl
reg16_plain Dx = tested (codes "DX") refl
reg16_plain Bx = tested (codes "BX") refl
reg16_plain Sp = tested (codes "SP") refl
reg16_plain Si = tested (codes "SI") refl

ptr_plain : (x : Ptr) → AllByRecursion IsNotLf (ptr_text x)
ptr_plain PtrBx = tested (codes "BYTE PTR [BX]") refl
ptr_plain PtrSi = tested (codes "BYTE PTR [SI]") refl

alu_plain : (x : AluOp) → AllByRecursion IsNotLf (alu_text x)
alu_plain Add = tested (codes "ADD") refl
alu_plain Or = tested (codes "OR") refl
alu_plain Adc = tested (codes "ADC") refl
alu_plain Sbb = tested (codes "SBB") refl
alu_plain And = tested (codes "AND") refl
alu_plain Sub = tested (codes "SUB") refl
alu_plain Xor = tested (codes "XOR") refl
alu_plain Cmp = tested (codes "CMP") refl

count_plain : (x : Count) → AllByRecursion IsNotLf (count_text x)
count_plain Inc = tested (codes "INC") refl
count_plain Dec = tested (codes "DEC") refl

rotate_plain : (x : Rotate) → AllByRecursion IsNotLf (rotate_text x)
rotate_plain Rol = tested (codes "ROL") refl
rotate_plain Ror = tested (codes "ROR") refl
rotate_plain Rcl = tested (codes "RCL") refl
rotate_plain Rcr = tested (codes "RCR") refl

jump_plain : (x : Jump) → AllByRecursion IsNotLf (jump_text x)
jump_plain Jb = tested (codes "JB") refl
jump_plain Jnb = tested (codes "JNB") refl
jump_plain Jz = tested (codes "JZ") refl
jump_plain Jnz = tested (codes "JNZ") refl
jump_plain Js = tested (codes "JS") refl
jump_plain Jns = tested (codes "JNS") refl
jump_plain Jp = tested (codes "JP") refl
jump_plain Jnp = tested (codes "JNP") refl

operand8_plain : (x : Operand8) → AllByRecursion IsNotLf (operand8_text x)
operand8_plain (Reg r) = reg8_plain r
operand8_plain (Mem p) = ptr_plain p

direct8_plain : (a : ℕ) → AllByRecursion IsNotLf (direct8_text a)
direct8_plain a = both (codes "BYTE PTR .") (word_text a) (tested (codes "BYTE PTR .") refl) (word_plain a)

direct16_plain : (a : ℕ) → AllByRecursion IsNotLf (direct16_text a)
direct16_plain a = both (codes "WORD PTR .") (word_text a) (tested (codes "WORD PTR .") refl) (word_plain a)

operand16_plain : (x : Operand16) → AllByRecursion IsNotLf (operand16_text x)
operand16_plain (Reg_16 r) = reg16_plain r
operand16_plain (Direct a) = direct16_plain a

label_plain : (x : Label) → AllByRecursion IsNotLf (label_text x)
label_plain (At a) = both (codes "L") (four_digits a) (tested (codes "L") refl) (four_plain a)
label_plain (Skip a) = both (codes "K") (four_digits a) (tested (codes "K") refl) (four_plain a)
label_plain (User a) = both (codes "U") (four_digits a) (tested (codes "U") refl) (four_plain a)
label_plain Sys = tested (codes "X_SYS") refl
label_plain End = tested (codes "X_END") refl

offset_plain : (l : Label) → AllByRecursion IsNotLf (offset_text l)
offset_plain l = both (codes "OFFSET ") (label_text l) (tested (codes "OFFSET ") refl) (label_plain l)

value_plain : (x : Value16) → AllByRecursion IsNotLf (value_text x)
value_plain (Num w) = word_plain w
value_plain (Offset l) = offset_plain l

-- ---- lines

-- a line is a front without LF, and then CR and LF
pub record EndsOnce (line : List ℕ) : Type 0 where
  pub front : List ℕ
  pub is : line ≡ front ++ 13 ∷ (10 ∷ [])
  pub each : AllByRecursion IsNotLf front

tab_plain : IsNotLf 9
tab_plain e = omega (arith, e)

comma_plain : IsNotLf 0x2C
comma_plain e = omega (arith, e)

alone_ends : (w : List ℕ) → list_all (λ (b : ℕ). not (b == 10)) w ≡ true → EndsOnce (alone w)
alone_ends w p = record { front = 9 ∷ w; is = refl; each = (tab_plain, tested w p) }

one_ends : (w a : List ℕ) → AllByRecursion IsNotLf w → AllByRecursion IsNotLf a → EndsOnce (with_one w a)
one_ends w a p q = record {
  front = 9 ∷ (w ++ 9 ∷ a);
  is = ap (λ (t : List ℕ). 9 ∷ t) (sym (append_assoc w (9 ∷ a) (13 ∷ (10 ∷ []))));
  each = (tab_plain, both w (9 ∷ a) p (tab_plain, q));
}

two_ends : (w a b : List ℕ) → AllByRecursion IsNotLf w → AllByRecursion IsNotLf a → AllByRecursion IsNotLf b → EndsOnce (with_two w a b)
two_ends w a b p q r = record {
  front = 9 ∷ (w ++ 9 ∷ (a ++ 0x2C ∷ b));
  is = ap (λ (t : List ℕ). 9 ∷ t) (ap (λ (t : List ℕ). w ++ 9 ∷ t) (sym (append_assoc a (0x2C ∷ b) (13 ∷ (10 ∷ [])))) ∙ sym (append_assoc w (9 ∷ (a ++ 0x2C ∷ b)) (13 ∷ (10 ∷ []))));
  each = (tab_plain, both w (9 ∷ (a ++ 0x2C ∷ b)) p (tab_plain, both a (0x2C ∷ b) q (comma_plain, r)));
}

-- a line of a word with one operand or two
word_one : (w a : List ℕ) → list_all (λ (b : ℕ). not (b == 10)) w ≡ true → AllByRecursion IsNotLf a → EndsOnce (with_one w a)
word_one w a p q = one_ends w a (tested w p) q

word_two : (w a b : List ℕ) → list_all (λ (c : ℕ). not (c == 10)) w ≡ true → AllByRecursion IsNotLf a → AllByRecursion IsNotLf b → EndsOnce (with_two w a b)
word_two w a b p q r = two_ends w a b (tested w p) q r

mark_ends : (l : List ℕ) → AllByRecursion IsNotLf l → EndsOnce (l ++ codes ":\r\n")
mark_ends l p = record { front = l ++ codes ":"; is = sym (append_assoc l (codes ":") (13 ∷ (10 ∷ []))); each = both l (codes ":") p (tested (codes ":") refl) }

instr_ends : (i : Instr86) → instr_fits i ≡ true → EndsOnce (instr_line i)
instr_ends (MovReg8 r o) h = word_two (codes "MOV") (reg8_text r) (operand8_text o) refl (reg8_plain r) (operand8_plain o)
instr_ends (MovMem8 p r) h = word_two (codes "MOV") (ptr_text p) (reg8_text r) refl (ptr_plain p) (reg8_plain r)
instr_ends (MovAlDirect a) h = word_two (codes "MOV") (codes "AL") (direct8_text a) refl (tested (codes "AL") refl) (direct8_plain a)
instr_ends (MovDirectAl a) h = word_two (codes "MOV") (direct8_text a) (codes "AL") refl (direct8_plain a) (tested (codes "AL") refl)
instr_ends (MovNum8 r n) h = word_two (codes "MOV") (reg8_text r) (byte_text n) refl (reg8_plain r) (byte_plain n)
instr_ends (MovNum16 r w) h = word_two (codes "MOV") (reg16_text r) (word_text w) refl (reg16_plain r) (word_plain w)
instr_ends (MovMemNum p n) h = word_two (codes "MOV") (ptr_text p) (byte_text n) refl (ptr_plain p) (byte_plain n)
instr_ends (MovReg16 r o) h = word_two (codes "MOV") (reg16_text r) (operand16_text o) refl (reg16_plain r) (operand16_plain o)
instr_ends (MovDirect16 a r) h = word_two (codes "MOV") (direct16_text a) (reg16_text r) refl (direct16_plain a) (reg16_plain r)
instr_ends MovAxDs h = word_two (codes "MOV") (codes "AX") (codes "DS") refl (tested (codes "AX") refl) (tested (codes "DS") refl)
instr_ends MovSsAx h = word_two (codes "MOV") (codes "SS") (codes "AX") refl (tested (codes "SS") refl) (tested (codes "AX") refl)
instr_ends (Alu op o) h = two_ends (alu_text op) (codes "AL") (operand8_text o) (alu_plain op) (tested (codes "AL") refl) (operand8_plain o)
instr_ends (AluNum op n) h = two_ends (alu_text op) (codes "AL") (byte_text n) (alu_plain op) (tested (codes "AL") refl) (byte_plain n)
instr_ends OrClCl h = word_two (codes "OR") (codes "CL") (codes "CL") refl (tested (codes "CL") refl) (tested (codes "CL") refl)
instr_ends (Add16 r q) h = word_two (codes "ADD") (reg16_text r) (reg16_text q) refl (reg16_plain r) (reg16_plain q)
instr_ends (Count8 c o) h = one_ends (count_text c) (operand8_text o) (count_plain c) (operand8_plain o)
instr_ends (Count16 c r) h = one_ends (count_text c) (reg16_text r) (count_plain c) (reg16_plain r)
instr_ends (Push r) h = word_one (codes "PUSH") (reg16_text (reg_of_stack r)) refl (reg16_plain (reg_of_stack r))
instr_ends (Pop r) h = word_one (codes "POP") (reg16_text (reg_of_stack r)) refl (reg16_plain (reg_of_stack r))
instr_ends (Xchg8 r q) h = word_two (codes "XCHG") (reg8_text r) (reg8_text q) refl (reg8_plain r) (reg8_plain q)
instr_ends (Xchg16 r q) h = word_two (codes "XCHG") (reg16_text r) (reg16_text q) refl (reg16_plain r) (reg16_plain q)
instr_ends (Rotate8 t r) h = two_ends (rotate_text t) (reg8_text r) (codes "1") (rotate_plain t) (reg8_plain r) (tested (codes "1") refl)
instr_ends (Rotate16 t r) h = two_ends (rotate_text t) (reg16_text r) (codes "1") (rotate_plain t) (reg16_plain r) (tested (codes "1") refl)
instr_ends (Not8 r) h = word_one (codes "NOT") (reg8_text r) refl (reg8_plain r)
instr_ends Daa h = alone_ends (codes "DAA") refl
instr_ends Sahf h = alone_ends (codes "SAHF") refl
instr_ends Lahf h = alone_ends (codes "LAHF") refl
instr_ends Cmc h = alone_ends (codes "CMC") refl
instr_ends Stc h = alone_ends (codes "STC") refl
instr_ends Nop h = alone_ends (codes "NOP") refl
instr_ends (Jcc j d) h = absurd cc
instr_ends (JmpNear d) h = absurd cc
instr_ends (JmpShort d) h = absurd cc
instr_ends JmpBx h = word_one (codes "JMP") (codes "BX") refl (tested (codes "BX") refl)
instr_ends (CallNear d) h = absurd cc
instr_ends Ret h = alone_ends (codes "RET") refl
instr_ends Int224 h = word_one (codes "INT") (codes "224") refl (tested (codes "224") refl)
instr_ends (InAl n) h = word_two (codes "IN") (codes "AL") (byte_text n) refl (tested (codes "AL") refl) (byte_plain n)
instr_ends (OutAl n) h = word_two (codes "OUT") (byte_text n) (codes "AL") refl (byte_plain n) (tested (codes "AL") refl)

-- the written line of a statement
pub line_ends : (s : Stmt86) → has_line s ≡ true → EndsOnce (written_line s)
line_ends Cseg h = alone_ends (codes "CSEG") refl
line_ends Dseg h = alone_ends (codes "DSEG") refl
line_ends (Org w) h = word_one (codes "ORG") (word_text w) refl (word_plain w)
line_ends (Rb w) h = word_one (codes "RB") (word_text w) refl (word_plain w)
line_ends (Db n) h = word_one (codes "DB") (byte_text n) refl (byte_plain n)
line_ends (Dw v) h = word_one (codes "DW") (value_text v) refl (value_plain v)
line_ends (Mark l) h = mark_ends (label_text l) (label_plain l)
line_ends (Run i) h = instr_ends i h
line_ends (MovOffset r l) h = word_two (codes "MOV") (reg16_text r) (offset_text l) refl (reg16_plain r) (offset_plain l)
line_ends (Jmp l) h = word_one (codes "JMP") (label_text l) refl (label_plain l)
line_ends (Jmps l) h = word_one (codes "JMPS") (label_text l) refl (label_plain l)
line_ends (JccTo j l) h = one_ends (jump_text j) (label_text l) (jump_plain j) (label_plain l)
line_ends (Call l) h = word_one (codes "CALL") (label_text l) refl (label_plain l)
line_ends EndText h = alone_ends (codes "END") refl
