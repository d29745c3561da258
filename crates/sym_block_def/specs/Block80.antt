-- What a block of 8080 instructions does (Intel 8080 Assembly Language Programming Manual, chapter 2): the instruction table over
-- terms. All parts begin as they were at the start, and the k-th load, counted from 0, brings the k-th loaded byte or word.
use Rattle.std.specs.Prelude.{◌≡◌, ℕ, zero, suc, ◌+◌, ◌<◌, ◌≤◌, Bool, true, false, cond, List, [], ◌∷◌, length, Option, Some, None}
use Rattle.cells.specs.declared.Place.{Place}
use Rattle.cells.specs.declared.Place.TheVariants.{At}
use Rattle.cells.specs.declared.Part.TheVariants.{Cy}
use Rattle.cells.specs.declared.Cond.{Cond}
use Rattle.cells.specs.declared.Cond.TheVariants.{Nz, Z, Nc, C as Carry, Po, Pe, P as Plus, M as Minus}
use Rattle.i80.specs.declared.Reg.{Reg as Register}
use Rattle.i80.specs.declared.Reg.TheVariants.{A as RegA, B as RegB, C as RegC, D as RegD, E as RegE, H as RegH, L as RegL}
use Rattle.i80.specs.declared.Src.{Src}
use Rattle.i80.specs.declared.Src.TheVariants.{Reg as InReg, Mem}
use Rattle.i80.specs.declared.Pair.{Pair}
use Rattle.i80.specs.declared.Pair.TheVariants.{B as PairB, D as PairD, H as PairH, Sp as PairSp}
use Rattle.i80.specs.declared.StackPair.{StackPair}
use Rattle.i80.specs.declared.StackPair.TheVariants.{B as StackB, D as StackD, H as StackH, Psw}
use Rattle.i80.specs.declared.Op.{Op}
use Rattle.i80.specs.declared.Op.TheVariants.{Add, Adc, Sub, Sbb, Xra, Cmp}
use Rattle.i80.specs.declared.Word.{Word}
use Rattle.i80.specs.declared.Word.TheVariants.{Num as Number, Code as CodeAt}
use Rattle.i80.specs.declared.Goal.{Goal}
use Rattle.i80.specs.declared.Goal.TheVariants.{At as ToInstr, Boot as ToBoot, Bdos as ToBdos}
use Rattle.i80.specs.declared.Instr80.{Instr80}
use Rattle.i80.specs.declared.Instr80.TheVariants.{Nop, Mov, Mvi, Lxi, Lda, Sta, Lhld, Shld, Ldax, Stax, Xchg, Xthl, Sphl, Pchl, Alu as AluWith, AluI, Inr, Dcr, Inx, Dcx, Dad, Daa, Cma, Stc, Cmc, Rlc, Rrc, Ral, Rar, Push, Pop, Jmp, Jif, Call as CallTo, Cif, Ret, Rif, Rst0, In as InFrom, Out as OutTo}
use Rattle.i80.specs.Columns.{length80, ends80, gives_zero}
use Rattle.asm80_types.specs.Program.{Program, instr_at, is_start}
use Rattle.sym_terms.specs.Term.{Term, Num, StartSp, Loaded8, Loaded16, FlagByte, Code, Unknown}
use Rattle.sym_terms.specs.Making.{alu, flag, sum16, high, low, join, turn, adjust, carry_of}
use Rattle.sym_block_def.specs.Outcome.{Load8, Load16, Store8, Store16, Way, Goto, ByTerms, Call, Sys, SysReturn, Boot, Leave, In, Out, Exit, One, Two, Held, Outcome, held_at_start, with_flags_of, with_count_flags_of, with_flags_in, Trace, no_actions, loading, storing}

-- the terms so far
pub record Symbolic80 : Type 0 where
  pub held : Held
  pub sp : Term
  pub trace : Trace

abbrev pub start80 : Symbolic80
start80 = record { held = held_at_start; sp = StartSp; trace = no_actions }

-- registers and pairs

abbrev pub reg_term : Held → Register → Term
reg_term x RegA = x.a
reg_term x RegB = x.b
reg_term x RegC = x.c
reg_term x RegD = x.d
reg_term x RegE = x.e
reg_term x RegH = x.h
reg_term x RegL = x.l

abbrev pub with_reg : Held → Register → Term → Held
with_reg x RegA t = record x { a = t }
with_reg x RegB t = record x { b = t }
with_reg x RegC t = record x { c = t }
with_reg x RegD t = record x { d = t }
with_reg x RegE t = record x { e = t }
with_reg x RegH t = record x { h = t }
with_reg x RegL t = record x { l = t }

abbrev pub pair_term : Symbolic80 → Pair → Term
pair_term s PairB = join s.held.b s.held.c
pair_term s PairD = join s.held.d s.held.e
pair_term s PairH = join s.held.h s.held.l
pair_term s PairSp = s.sp

abbrev pub with_pair : Symbolic80 → Pair → Term → Symbolic80
with_pair s PairB w = record s { held = record (s.held) { b = high w; c = low w } }
with_pair s PairD w = record s { held = record (s.held) { d = high w; e = low w } }
with_pair s PairH w = record s { held = record (s.held) { h = high w; l = low w } }
with_pair s PairSp w = record s { sp = w }

abbrev pub with_held : Symbolic80 → Held → Symbolic80
with_held s x = record s { held = x }

abbrev pub with_a : Symbolic80 → Term → Symbolic80
with_a s t = record s { held = record (s.held) { a = t } }

-- loads and stores

abbrev pub load8 : Symbolic80 → Term → Symbolic80
load8 s address = record s { trace = loading (Load8 address) s.trace }

abbrev pub load16 : Symbolic80 → Term → Symbolic80
load16 s address = record s { trace = loading (Load16 address) s.trace }

abbrev pub store8 : Symbolic80 → Term → Term → Symbolic80
store8 s address value = record s { trace = storing (Store8 address value) s.trace }

abbrev pub store16 : Symbolic80 → Term → Term → Symbolic80
store16 s address value = record s { trace = storing (Store16 address value) s.trace }

-- the byte that the next load brings, and the word
abbrev pub next_byte : Symbolic80 → Term
next_byte s = Loaded8 s.trace.loads

abbrev pub next_word : Symbolic80 → Term
next_word s = Loaded16 s.trace.loads

-- moves

-- M is loaded from the address in HL
abbrev pub source : Symbolic80 → Src → Term
source s (InReg r) = reg_term s.held r
source s Mem = next_byte s

abbrev pub after_source : Symbolic80 → Src → Symbolic80
after_source s (InReg r) = s
after_source s Mem = load8 s (pair_term s PairH)

-- a byte into a register, or stored at the address in HL
abbrev pub into : Symbolic80 → Src → Term → Symbolic80
into s (InReg r) t = with_held s (with_reg s.held r t)
into s Mem t = store8 s (pair_term s PairH) t

abbrev pub lxi : Symbolic80 → Pair → Word → Symbolic80
lxi s pair (Number w) = with_pair s pair (Num w)
lxi s pair (CodeAt a) = with_pair s pair (join (Code (At a) true) (Code (At a) false))

abbrev pub lda : Symbolic80 → Term → Symbolic80
lda s address = with_a (load8 s address) (next_byte s)

abbrev pub lhld : Symbolic80 → Term → Symbolic80
lhld s address = with_pair (load16 s address) PairH (next_word s)

abbrev pub xchg : Symbolic80 → Symbolic80
xchg s = with_held s (record (s.held) { d = s.held.h; e = s.held.l; h = s.held.d; l = s.held.e })

-- arithmetic

-- CMP subtracts
abbrev pub operation : Op → Op
operation Cmp = Sub
operation op = op

-- ADC and SBB take CY, the others 0
abbrev pub carry_in : Op → Term → Term
carry_in Adc cy = cy
carry_in Sbb cy = cy
carry_in op cy = Num 0

-- all but CMP put their result into A
abbrev pub a_after : Op → Term → Term → Term
a_after Cmp a r = a
a_after op a r = r

abbrev pub with_result : Op → Term → Held → Held
with_result op r x = with_flags_of r (record x { a = a_after op x.a r })

abbrev pub operated : Op → Term → Held → Held
operated op b x = with_result op (alu (operation op) x.a b (carry_in op x.cy)) x

-- XRA A and SUB A give 0, whatever A holds
abbrev pub cleared : Held → Held
cleared x = record x { a = Num 0; s = Num 0; z = Num 1; ac = Unknown; p = Num 1; cy = Num 0 }

abbrev pub alu_by : Symbolic80 → Op → Src → Symbolic80
alu_by s op from =
    cond (gives_zero op from) (with_held s (cleared s.held)) (with_held (after_source s from) (operated op (source s from) s.held))

-- INR and DCR add and subtract 1, and keep CY
abbrev pub count_by : Symbolic80 → Op → Src → Symbolic80
count_by s op on =
    let r = alu op (source s on) (Num 1) (Num 0) in
    let t = into (after_source s on) on r in
    with_held t (with_count_flags_of r t.held)

abbrev pub add_to_pair : Symbolic80 → Pair → ℕ → Symbolic80
add_to_pair s pair n = with_pair s pair (sum16 (pair_term s pair) (Num n))

abbrev pub dad : Symbolic80 → Pair → Symbolic80
dad s pair =
    let t = with_pair s PairH (sum16 (pair_term s PairH) (pair_term s pair)) in
    with_held t (record (t.held) { cy = carry_of (pair_term s PairH) (pair_term s pair) })

-- RLC, RRC, RAL and RAR are the rotations 0 to 3; through CY goes the old CY
abbrev pub turn_by : Symbolic80 → ℕ → Term → Symbolic80
turn_by s kind carry =
    let r = turn kind s.held.a carry in
    with_held s (record (s.held) { a = r; cy = flag Cy r })

abbrev pub daa : Symbolic80 → Symbolic80
daa s =
    let r = adjust s.held.a s.held.ac s.held.cy in
    with_held s (with_flags_of r (record (s.held) { a = r }))

-- the stack

abbrev pub flag_byte : Held → Term
flag_byte x = FlagByte x.s x.z x.ac x.p x.cy

abbrev pub pushed : Symbolic80 → StackPair → Term
pushed s StackB = pair_term s PairB
pushed s StackD = pair_term s PairD
pushed s StackH = pair_term s PairH
pushed s Psw = join s.held.a (flag_byte s.held)

-- SP falls by 2, and the word is stored there
abbrev pub push : Symbolic80 → Term → Symbolic80
push s w =
    let sp = sum16 s.sp (Num 0xFFFE) in
    record (store16 s sp w) { sp = sp }

abbrev pub popped : Symbolic80 → StackPair → Term → Symbolic80
popped s StackB w = with_pair s PairB w
popped s StackD w = with_pair s PairD w
popped s StackH w = with_pair s PairH w
popped s Psw w = with_held s (with_flags_in (low w) (record (s.held) { a = high w }))

-- the word at SP is loaded, and SP rises by 2
abbrev pub pop : Symbolic80 → StackPair → Symbolic80
pop s pair =
    let t = popped (load16 s s.sp) pair (next_word s) in
    record t { sp = sum16 s.sp (Num 2) }

-- the word at SP is popped and HL is pushed: SP is what it was, as a sum of it
abbrev pub xthl : Symbolic80 → Symbolic80
xthl s =
    let t = record (load16 s s.sp) { sp = sum16 s.sp (Num 2) } in
    with_pair (push t (pair_term s PairH)) PairH (next_word s)

-- the table; what ends a block has no effect beside its exit
abbrev pub effect80 : Symbolic80 → Instr80 → Symbolic80
effect80 s Nop = s
effect80 s (Mov to from) = into (after_source s from) to (source s from)
effect80 s (Mvi to n) = into s to (Num n)
effect80 s (Lxi pair w) = lxi s pair w
effect80 s (Lda a) = lda s (Num a)
effect80 s (Sta a) = store8 s (Num a) s.held.a
effect80 s (Lhld a) = lhld s (Num a)
effect80 s (Shld a) = store16 s (Num a) (pair_term s PairH)
effect80 s (Ldax pair) = lda s (pair_term s pair)
effect80 s (Stax pair) = store8 s (pair_term s pair) s.held.a
effect80 s Xchg = xchg s
effect80 s Xthl = xthl s
effect80 s Sphl = record s { sp = pair_term s PairH }
effect80 s (AluWith op from) = alu_by s op from
effect80 s (AluI op n) = with_held s (operated op (Num n) s.held)
effect80 s (Inr on) = count_by s Add on
effect80 s (Dcr on) = count_by s Sub on
effect80 s (Inx pair) = add_to_pair s pair 1
effect80 s (Dcx pair) = add_to_pair s pair 0xFFFF
effect80 s (Dad pair) = dad s pair
effect80 s Daa = daa s
effect80 s Cma = with_a s (alu Xra s.held.a (Num 0xFF) (Num 0))
effect80 s Stc = with_held s (record (s.held) { cy = Num 1 })
effect80 s Cmc = with_held s (record (s.held) { cy = alu Xra s.held.cy (Num 1) (Num 0) })
effect80 s Rlc = turn_by s 0 (Num 0)
effect80 s Rrc = turn_by s 1 (Num 0)
effect80 s Ral = turn_by s 2 s.held.cy
effect80 s Rar = turn_by s 3 s.held.cy
effect80 s (Push pair) = push s (pushed s pair)
effect80 s (Pop pair) = pop s pair
effect80 s i = s

-- exits

-- to an instruction; where there is none, the program leaves the profile
abbrev pub goto : Program → ℕ → Way
goto p a = cond (is_start p a) (Goto (At a)) Leave

abbrev pub jump : Program → Goal → Way
jump p (ToInstr t) = goto p t
jump p ToBoot = Boot
jump p ToBdos = SysReturn

-- a call, with the place after it; one of an instruction pushes the place, which must be an instruction
abbrev pub call : Program → ℕ → Goal → Way
call p a (ToInstr t) = cond (is_start p a) (Call (At t) (At a)) Leave
call p a ToBoot = Boot
call p a ToBdos = Sys (At a)

-- the word at SP names the place; its pop belongs to the way
abbrev pub return_by : Symbolic80 → Way
return_by s = ByTerms (high (next_word s)) (low (next_word s))

-- a port is asked, and the program goes on to an instruction
abbrev pub asking : Program → ℕ → (Place → Way) → Way
asking p a way = cond (is_start p a) (way (At a)) Leave

-- the flag of a condition, and the value where the condition holds
abbrev pub flag_term : Held → Cond → Term
flag_term x Nz = x.z
flag_term x Z = x.z
flag_term x Nc = x.cy
flag_term x Carry = x.cy
flag_term x Po = x.p
flag_term x Pe = x.p
flag_term x Plus = x.s
flag_term x Minus = x.s

abbrev pub wanted : Cond → Bool
wanted Nz = false
wanted Z = true
wanted Nc = false
wanted Carry = true
wanted Po = false
wanted Pe = true
wanted Plus = false
wanted Minus = true

abbrev pub where_holds : Symbolic80 → Cond → Way → Way → Exit
where_holds s c way otherwise = Two (flag_term s.held c) (wanted c) way otherwise

-- the exit of a block by its last instruction; `a` is the place after it
abbrev pub exit80 : Program → ℕ → Symbolic80 → Instr80 → Exit
exit80 p a s Pchl = One (ByTerms s.held.h s.held.l)
exit80 p a s (Jmp t) = One (jump p t)
exit80 p a s (Jif c t) = where_holds s c (jump p t) (goto p a)
exit80 p a s (CallTo t) = One (call p a t)
exit80 p a s (Cif c t) = where_holds s c (call p a t) (goto p a)
exit80 p a s Ret = One (return_by s)
exit80 p a s (Rif c) = where_holds s c (return_by s) (goto p a)
exit80 p a s Rst0 = One Boot
exit80 p a s (InFrom n) = One (asking p a (In n))
exit80 p a s (OutTo n) = One (asking p a (Out n))
exit80 p a s i = One (goto p a)

-- the outcome with which terms end
abbrev pub outcome80 : Symbolic80 → Exit → Outcome
outcome80 s exit = record { actions = s.trace.actions; held = s.held; sp = s.sp; exit = exit; direct = false }

-- the outcome of instructions from an address on, one after the other; the exit is by the last one
abbrev pub outcome_from : Program → ℕ → List Instr80 → Symbolic80 → Outcome
outcome_from p at [] s = outcome80 s (One (goto p at))
outcome_from p at (i ∷ []) s = outcome80 (effect80 s i) (exit80 p (at + length80 i) (effect80 s i) i)
outcome_from p at (i ∷ j ∷ is) s = outcome_from p (at + length80 i) (j ∷ is) (effect80 s i)

-- so many instructions from an address on; fewer where none starts behind one of them
abbrev pub before_more : Option Instr80 → (Instr80 → List Instr80) → List Instr80
before_more None more = []
before_more (Some i) more = more i

abbrev pub instrs_from : Program → ℕ → ℕ → List Instr80
instrs_from p at zero = []
instrs_from p at (suc n) = before_more (instr_at p at) (λ i. i ∷ instrs_from p (at + length80 i) n)

-- of instructions only the last may end a block
abbrev pub OnlyLastEnds : List Instr80 → Type 0
OnlyLastEnds [] = Unit {0}
OnlyLastEnds (i ∷ []) = Unit {0}
OnlyLastEnds (i ∷ j ∷ is) = (ends80 i ≡ false) × OnlyLastEnds (j ∷ is)

-- a block: 1 to 16 instructions from its first address on, of which only the last may end it
pub record MayRun (p : Program) (first count : ℕ) : Type 0 where
  pub some : 0 < count
  pub few : count ≤ 16
  pub whole : length (instrs_from p first count) ≡ count
  pub ends : OnlyLastEnds (instrs_from p first count)

-- what a block does
abbrev pub block80 : Program → ℕ → ℕ → Outcome
block80 p first count = outcome_from p first (instrs_from p first count) start80

-- the address after instructions
abbrev pub address_after_all : ℕ → List Instr80 → ℕ
address_after_all at [] = at
address_after_all at (i ∷ is) = address_after_all (at + length80 i) is

-- the addresses of instructions
abbrev pub addresses_from : ℕ → List Instr80 → List ℕ
addresses_from at [] = []
addresses_from at (i ∷ is) = at ∷ addresses_from (at + length80 i) is
