-- What an 8086 instruction does, as terms (Intel 8086 Family User's Manual, "Instruction set"): the instruction table over terms.
-- The parts of the 8080 stand where the register map has them: A in AL, B in CH, C in CL, D in DH, E in DL, H in BH, L in BL, and
-- S Z AC P CY in SF ZF AF PF CF (XLT86 User's Guide, "Register mapping"). AH and SI stand beside them.
use Rattle.std.specs.Prelude.{ℕ, Bool, true, false, cond}
use Rattle.cells.specs.declared.Place.{Place}
use Rattle.cells.specs.declared.Place.TheVariants.{At as AtPlace, Exit}
use Rattle.cells.specs.declared.Part.{Part}
use Rattle.cells.specs.declared.Part.TheVariants.{A, B, C, D, E, H, L, S, Z, Ac, P, Cy}
use Rattle.cells.specs.Parts.{Parts, has}
use Rattle.i80.specs.declared.Op.{Op}
use Rattle.i80.specs.declared.Op.TheVariants.{Add, Adc as AddWithCarry, Sub, Sbb as SubWithBorrow, Ana, Xra, Ora, Cmp as Compare}
use Rattle.i86.specs.declared.Reg8.{Reg8}
use Rattle.i86.specs.declared.Reg8.TheVariants.{Al, Cl, Dl, Bl, Ah, Ch, Dh, Bh}
use Rattle.i86.specs.declared.Reg16.{Reg16}
use Rattle.i86.specs.declared.Reg16.TheVariants.{Ax, Cx, Dx, Bx, Sp, Si}
use Rattle.i86.specs.declared.Ptr.{Ptr}
use Rattle.i86.specs.declared.Ptr.TheVariants.{Bx as PtrBx, Si as PtrSi}
use Rattle.i86.specs.declared.Operand8.{Operand8}
use Rattle.i86.specs.declared.Operand8.TheVariants.{Reg, Mem}
use Rattle.i86.specs.declared.Operand16.{Operand16}
use Rattle.i86.specs.declared.Operand16.TheVariants.{Reg as Reg_16, Direct}
use Rattle.i86.specs.declared.AluOp.{AluOp}
use Rattle.i86.specs.declared.AluOp.TheVariants.{Add as Add86, Or, Adc, Sbb, And, Sub as Sub86, Xor, Cmp}
use Rattle.i86.specs.declared.Count.{Count}
use Rattle.i86.specs.declared.Count.TheVariants.{Inc, Dec}
use Rattle.i86.specs.declared.Rotate.{Rotate}
use Rattle.i86.specs.declared.Rotate.TheVariants.{Rol, Ror, Rcl, Rcr}
use Rattle.i86.specs.declared.Instr86.{Instr86}
use Rattle.i86.specs.declared.Instr86.TheVariants.{MovReg8, MovMem8, MovAlDirect, MovDirectAl, MovNum8, MovNum16, MovMemNum, MovReg16, MovDirect16, MovAxDs, Alu as AluWith, AluNum, OrClCl, Add16, Count8, Count16, Push, Pop, Xchg8, Xchg16, Rotate8, Rotate16, Not8, Daa, Sahf, Lahf, Cmc, Stc}
use Rattle.i86.specs.Enc86.{reg_of_stack}
use Rattle.asm86_line_types.specs.declared.line.Label.{Label}
use Rattle.asm86_line_types.specs.declared.line.Label.TheVariants.{At, Skip, User, Sys, End}
use Rattle.sym_terms.specs.Term.{Term, Num, Start, StartSp, Loaded8, Loaded16, Turned, Code, Unknown}
use Rattle.sym_terms.specs.Making.{alu, flag, sum16, high, low, join, turn, adjust, carry_of}
use Rattle.sym_block_def.specs.Outcome.{Load8, Load16, Store8, Store16, Held, with_flags_of, with_count_flags_of, with_flags_in, Trace, no_actions, loading, storing}
use Rattle.sym_block_def.specs.Block80.{operation, carry_in, with_result, cleared, flag_byte}

-- the terms so far
pub record Symbolic86 : Type 0 where
  pub held : Held
  pub ah : Term
  pub si : Term
  pub sp : Term
  pub trace : Trace

-- the start of a walk: of the parts only those that are kept are what they were at the start
abbrev pub start_if : Parts → Part → Term
start_if keep part = cond (has keep part) (Start part) Unknown

abbrev pub start86 : Parts → Symbolic86
start86 keep = record {
  held = record {
    a = start_if keep A;
    b = start_if keep B;
    c = start_if keep C;
    d = start_if keep D;
    e = start_if keep E;
    h = start_if keep H;
    l = start_if keep L;
    s = start_if keep S;
    z = start_if keep Z;
    ac = start_if keep Ac;
    p = start_if keep P;
    cy = start_if keep Cy;
  };
  ah = Unknown;
  si = Unknown;
  sp = StartSp;
  trace = no_actions;
}

-- registers: AX, CX, DX and BX are pairs of bytes, SI and SP are words

abbrev pub reg8_term : Symbolic86 → Reg8 → Term
reg8_term s Al = s.held.a
reg8_term s Cl = s.held.c
reg8_term s Dl = s.held.e
reg8_term s Bl = s.held.l
reg8_term s Ah = s.ah
reg8_term s Ch = s.held.b
reg8_term s Dh = s.held.d
reg8_term s Bh = s.held.h

abbrev pub with_reg8 : Symbolic86 → Reg8 → Term → Symbolic86
with_reg8 s Al t = record s { held = record (s.held) { a = t } }
with_reg8 s Cl t = record s { held = record (s.held) { c = t } }
with_reg8 s Dl t = record s { held = record (s.held) { e = t } }
with_reg8 s Bl t = record s { held = record (s.held) { l = t } }
with_reg8 s Ah t = record s { ah = t }
with_reg8 s Ch t = record s { held = record (s.held) { b = t } }
with_reg8 s Dh t = record s { held = record (s.held) { d = t } }
with_reg8 s Bh t = record s { held = record (s.held) { h = t } }

abbrev pub reg16_term : Symbolic86 → Reg16 → Term
reg16_term s Ax = join s.ah s.held.a
reg16_term s Cx = join s.held.b s.held.c
reg16_term s Dx = join s.held.d s.held.e
reg16_term s Bx = join s.held.h s.held.l
reg16_term s Sp = s.sp
reg16_term s Si = s.si

abbrev pub with_reg16 : Symbolic86 → Reg16 → Term → Symbolic86
with_reg16 s Ax w = record s { held = record (s.held) { a = low w }; ah = high w }
with_reg16 s Cx w = record s { held = record (s.held) { b = high w; c = low w } }
with_reg16 s Dx w = record s { held = record (s.held) { d = high w; e = low w } }
with_reg16 s Bx w = record s { held = record (s.held) { h = high w; l = low w } }
with_reg16 s Sp w = record s { sp = w }
with_reg16 s Si w = record s { si = w }

abbrev pub with_held : Symbolic86 → Held → Symbolic86
with_held s x = record s { held = x }

abbrev pub with_cf : Symbolic86 → Term → Symbolic86
with_cf s t = record s { held = record (s.held) { cy = t } }

-- loads and stores

abbrev pub load8 : Symbolic86 → Term → Symbolic86
load8 s address = record s { trace = loading (Load8 address) s.trace }

abbrev pub load16 : Symbolic86 → Term → Symbolic86
load16 s address = record s { trace = loading (Load16 address) s.trace }

abbrev pub store8 : Symbolic86 → Term → Term → Symbolic86
store8 s address value = record s { trace = storing (Store8 address value) s.trace }

abbrev pub store16 : Symbolic86 → Term → Term → Symbolic86
store16 s address value = record s { trace = storing (Store16 address value) s.trace }

abbrev pub next_byte : Symbolic86 → Term
next_byte s = Loaded8 s.trace.loads

abbrev pub next_word : Symbolic86 → Term
next_word s = Loaded16 s.trace.loads

-- the address in BX or SI
abbrev pub pointed : Symbolic86 → Ptr → Term
pointed s PtrBx = reg16_term s Bx
pointed s PtrSi = s.si

-- operands that are read, and those that are written

abbrev pub operand8 : Symbolic86 → Operand8 → Term
operand8 s (Reg r) = reg8_term s r
operand8 s (Mem p) = next_byte s

abbrev pub after_operand8 : Symbolic86 → Operand8 → Symbolic86
after_operand8 s (Reg r) = s
after_operand8 s (Mem p) = load8 s (pointed s p)

abbrev pub into_operand8 : Symbolic86 → Operand8 → Term → Symbolic86
into_operand8 s (Reg r) t = with_reg8 s r t
into_operand8 s (Mem p) t = store8 s (pointed s p) t

abbrev pub operand16 : Symbolic86 → Operand16 → Term
operand16 s (Reg_16 r) = reg16_term s r
operand16 s (Direct a) = next_word s

abbrev pub after_operand16 : Symbolic86 → Operand16 → Symbolic86
after_operand16 s (Reg_16 r) = s
after_operand16 s (Direct a) = load16 s (Num a)

-- arithmetic

-- the 8080's operation
abbrev pub op_of : AluOp → Op
op_of Add86 = Add
op_of Or = Ora
op_of Adc = AddWithCarry
op_of Sbb = SubWithBorrow
op_of And = Ana
op_of Sub86 = Sub
op_of Xor = Xra
op_of Cmp = Compare

abbrev pub operated : Symbolic86 → AluOp → Term → Symbolic86
operated s op b =
    let x = s.held in
    with_held s (with_result (op_of op) (alu (operation (op_of op)) x.a b (carry_in (op_of op) x.cy)) x)

-- XOR AL,AL and SUB AL,AL give 0, whatever AL holds
abbrev pub clears_al : AluOp → Operand8 → Bool
clears_al Xor (Reg Al) = true
clears_al Sub86 (Reg Al) = true
clears_al op o = false

abbrev pub alu_al : Symbolic86 → AluOp → Operand8 → Symbolic86
alu_al s op o =
    cond (clears_al op o) (with_held s (cleared s.held)) (operated (after_operand8 s o) op (operand8 s o))

-- OR CL,CL
abbrev pub or_cl : Symbolic86 → Symbolic86
or_cl s =
    let r = alu Ora s.held.c s.held.c (Num 0) in
    with_held s (with_flags_of r (record (s.held) { c = r }))

-- INC and DEC keep CF
abbrev pub count_op : Count → Op
count_op Inc = Add
count_op Dec = Sub

abbrev pub count8 : Symbolic86 → Count → Operand8 → Symbolic86
count8 s c o =
    let r = alu (count_op c) (operand8 s o) (Num 1) (Num 0) in
    let t = into_operand8 (after_operand8 s o) o r in
    with_held t (with_count_flags_of r t.held)

-- of a word's INC, DEC and ADD no term says SF, ZF, AF and PF
abbrev pub losing_flags : Symbolic86 → Symbolic86
losing_flags s = with_held s (record (s.held) { s = Unknown; z = Unknown; ac = Unknown; p = Unknown })

abbrev pub count_step : Count → ℕ
count_step Inc = 1
count_step Dec = 0xFFFF

abbrev pub count16 : Symbolic86 → Count → Reg16 → Symbolic86
count16 s c r = losing_flags (with_reg16 s r (sum16 (reg16_term s r) (Num (count_step c))))

abbrev pub add16 : Symbolic86 → Reg16 → Reg16 → Symbolic86
add16 s r q =
    with_cf (losing_flags (with_reg16 s r (sum16 (reg16_term s r) (reg16_term s q)))) (carry_of (reg16_term s r) (reg16_term s q))

-- rotations by 1; of a byte they are the kinds 0 to 3, and through CF goes the old CF
abbrev pub turn_kind : Rotate → ℕ
turn_kind Rol = 0
turn_kind Ror = 1
turn_kind Rcl = 2
turn_kind Rcr = 3

abbrev pub turn_carry : Rotate → Term → Term
turn_carry Rol cf = Num 0
turn_carry Ror cf = Num 0
turn_carry Rcl cf = cf
turn_carry Rcr cf = cf

abbrev pub rotate8 : Symbolic86 → Rotate → Reg8 → Symbolic86
rotate8 s k r =
    let t = turn (turn_kind k) (reg8_term s r) (turn_carry k s.held.cy) in
    with_cf (with_reg8 s r t) (flag Cy t)

-- of a word, RCR puts CF into bit 15, and RCL of such a word brings it back; nothing else is known of either
abbrev pub brought_back : Term → Term
brought_back (Turned c) = c
brought_back w = Unknown

abbrev pub rotate16 : Symbolic86 → Rotate → Reg16 → Symbolic86
rotate16 s Rol r = with_cf (with_reg16 s r Unknown) Unknown
rotate16 s Ror r = with_cf (with_reg16 s r Unknown) Unknown
rotate16 s Rcl r = with_cf (with_reg16 s r Unknown) (brought_back (reg16_term s r))
rotate16 s Rcr r = with_cf (with_reg16 s r (Turned s.held.cy)) Unknown

abbrev pub daa : Symbolic86 → Symbolic86
daa s =
    let r = adjust s.held.a s.held.ac s.held.cy in
    with_held s (with_flags_of r (record (s.held) { a = r }))

-- the stack, and exchanges

abbrev pub push : Symbolic86 → Reg16 → Symbolic86
push s r =
    let sp = sum16 s.sp (Num 0xFFFE) in
    record (store16 s sp (reg16_term s r)) { sp = sp }

abbrev pub pop : Symbolic86 → Reg16 → Symbolic86
pop s r =
    let t = load16 s s.sp in
    with_reg16 (record t { sp = sum16 s.sp (Num 2) }) r (next_word s)

abbrev pub xchg8 : Symbolic86 → Reg8 → Reg8 → Symbolic86
xchg8 s r q = with_reg8 (with_reg8 s r (reg8_term s q)) q (reg8_term s r)

abbrev pub xchg16 : Symbolic86 → Reg16 → Reg16 → Symbolic86
xchg16 s r q = with_reg16 (with_reg16 s r (reg16_term s q)) q (reg16_term s r)

-- the offset of a label: a code address where the label is that of a place
abbrev pub code_word : Place → Term
code_word q = join (Code q true) (Code q false)

abbrev pub offset_term : Label → Term
offset_term (At a) = code_word (AtPlace a)
offset_term (Skip a) = Unknown
offset_term (User a) = Unknown
offset_term Sys = Unknown
offset_term End = code_word Exit

-- the table, of what goes on to the next instruction; the others have no effect here
abbrev pub effect86 : Symbolic86 → Instr86 → Symbolic86
effect86 s (MovReg8 r o) = with_reg8 (after_operand8 s o) r (operand8 s o)
effect86 s (MovMem8 p r) = store8 s (pointed s p) (reg8_term s r)
effect86 s (MovAlDirect a) = with_reg8 (load8 s (Num a)) Al (next_byte s)
effect86 s (MovDirectAl a) = store8 s (Num a) s.held.a
effect86 s (MovNum8 r n) = with_reg8 s r (Num n)
effect86 s (MovNum16 r w) = with_reg16 s r (Num w)
effect86 s (MovMemNum p n) = store8 s (pointed s p) (Num n)
effect86 s (MovReg16 r o) = with_reg16 (after_operand16 s o) r (operand16 s o)
effect86 s (MovDirect16 a r) = store16 s (Num a) (reg16_term s r)
effect86 s MovAxDs = with_reg16 s Ax Unknown
effect86 s (AluWith op o) = alu_al s op o
effect86 s (AluNum op n) = operated s op (Num n)
effect86 s OrClCl = or_cl s
effect86 s (Add16 r q) = add16 s r q
effect86 s (Count8 c o) = count8 s c o
effect86 s (Count16 c r) = count16 s c r
effect86 s (Push r) = push s (reg_of_stack r)
effect86 s (Pop r) = pop s (reg_of_stack r)
effect86 s (Xchg8 r q) = xchg8 s r q
effect86 s (Xchg16 r q) = xchg16 s r q
effect86 s (Rotate8 k r) = rotate8 s k r
effect86 s (Rotate16 k r) = rotate16 s k r
effect86 s (Not8 r) = with_reg8 s r (alu Xra (reg8_term s r) (Num 0xFF) (Num 0))
effect86 s Daa = daa s
effect86 s Sahf = with_held s (with_flags_in s.ah s.held)
effect86 s Lahf = record s { ah = flag_byte s.held }
effect86 s Cmc = with_cf s (alu Xra s.held.cy (Num 1) (Num 0))
effect86 s Stc = with_cf s (Num 1)
effect86 s i = s
