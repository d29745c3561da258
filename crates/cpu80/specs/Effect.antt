-- What each instruction does before the place that comes next is looked at: the table of the Intel 8080 Assembly Language
-- Programming Manual, chapter 2, over untagged bytes.
use Rattle.std.specs.Prelude.{ℕ, ◌+◌, ◌-◌, nat_lt, not, Bool, true, cond, Some, None}
use Rattle.i80.specs.declared.Src.{Src}
use Rattle.i80.specs.declared.Src.TheVariants.{Reg as InReg, Mem}
use Rattle.i80.specs.declared.Pair.{Pair}
use Rattle.i80.specs.declared.Pair.TheVariants.{H as PairH}
use Rattle.i80.specs.declared.StackPair.{StackPair}
use Rattle.i80.specs.declared.StackPair.TheVariants.{B as StackB, D as StackD, H as StackH, Psw}
use Rattle.i80.specs.declared.Op.{Op}
use Rattle.i80.specs.declared.Op.TheVariants.{Add, Adc, Sub, Sbb, Ana, Xra, Ora, Cmp}
use Rattle.i80.specs.declared.Word.{Word}
use Rattle.i80.specs.declared.Word.TheVariants.{Num as Number, Code}
use Rattle.i80.specs.declared.Instr80.{Instr80}
use Rattle.i80.specs.declared.Instr80.TheVariants.{Nop, Mov, Mvi, Lxi, Lda, Sta, Lhld, Shld, Ldax, Stax, Xchg, Xthl, Sphl, Pchl, Alu, AluI, Inr, Dcr, Inx, Dcx, Dad, Daa, Cma, Stc, Cmc, Rlc, Rrc, Ral, Rar, Push, Pop, Jmp, Jif, Call, Cif, Ret, Rif, Rst0, In, Out}
use Rattle.base.specs.Arithmetic.{as_bit, sum8, carry4, difference8, turned_left, turned_right, bit7, bit0, daa_result, daa_carry, daa_excepted}
use Rattle.base.specs.Operations.{flags_by, result_of, flags_of}
use Rattle.dialogue.specs.ByteMemory.{put}
use Rattle.dialogue.specs.Words.{wrap}
use Rattle.dialogue.specs.Choice.{byte_of}
use Rattle.cpu80.specs.State.{UntaggedFlags, UntaggedState, reg, with_reg, pair_word, with_bc, with_de, with_hl, with_word, with_a, with_flags, with_cy, next, put_word}
use Rattle.cpu80.specs.Flags.{settled, chosen_flags, flag_byte, flags_in_byte}

-- moves

abbrev pub store : UntaggedState → ℕ → ℕ → UntaggedState
store u a v = record u { mem = put u.mem a v }

-- the byte of a register or of M
abbrev pub source : UntaggedState → Src → ℕ
source u (InReg r) = reg u.regs r
source u Mem = u.mem (pair_word u PairH)

-- a byte into a register or into M
abbrev pub into : UntaggedState → Src → ℕ → UntaggedState
into u (InReg r) v = record u { regs = with_reg u.regs r v }
into u Mem v = store u (pair_word u PairH) v

-- a code address is the 8080 address
abbrev pub word_of : Word → ℕ
word_of (Number w) = w
word_of (Code a) = a

abbrev pub lda : UntaggedState → ℕ → UntaggedState
lda u a = with_a u (u.mem a)

abbrev pub lhld : UntaggedState → ℕ → UntaggedState
lhld u a = with_hl u (u.mem (next a)) (u.mem a)

abbrev pub shld : UntaggedState → ℕ → UntaggedState
shld u a = record u { mem = put_word u.mem a u.regs.h u.regs.l }

abbrev pub xchg : UntaggedState → UntaggedState
xchg u = record u { regs = record (u.regs) { d = u.regs.h; e = u.regs.l; h = u.regs.d; l = u.regs.e } }

-- HL and the word at SP change places
abbrev pub xthl : UntaggedState → UntaggedState
xthl u = with_hl (shld u u.sp) (u.mem (next u.sp)) (u.mem u.sp)

-- arithmetic

-- the carry that an operation takes: CY for ADC and SBB, else 0
abbrev pub carry_for : Op → UntaggedFlags → ℕ
carry_for Add f = 0
carry_for Adc f = as_bit f.cy
carry_for Sub f = 0
carry_for Sbb f = as_bit f.cy
carry_for Ana f = 0
carry_for Xra f = 0
carry_for Ora f = 0
carry_for Cmp f = 0

-- CMP keeps A
abbrev pub a_after : Op → ℕ → ℕ → ℕ
a_after Add a v = v
a_after Adc a v = v
a_after Sub a v = v
a_after Sbb a v = v
a_after Ana a v = v
a_after Xra a v = v
a_after Ora a v = v
a_after Cmp a v = a

-- an operation on A, which is the byte x, and a byte y, with a carry
abbrev pub computed : UntaggedState → Op → ℕ → ℕ → ℕ → ℕ → UntaggedState
computed u op x y c choice =
    with_flags (with_a u (a_after op u.regs.a (result_of op x y c))) (settled (flags_of op x y c) choice)

abbrev pub alu : UntaggedState → Op → ℕ → ℕ → UntaggedState
alu u op y choice = computed u op u.regs.a y (carry_for op u.flags) choice

-- INR and DCR keep CY
abbrev pub counted_up : UntaggedState → ℕ → ℕ → UntaggedState
counted_up u x choice = with_flags u (settled (flags_by (sum8 x 1 0) (Some (carry4 x 1 0)) (Some u.flags.cy)) choice)

abbrev pub counted_down : UntaggedState → ℕ → ℕ → UntaggedState
counted_down u x choice = with_flags u (settled (flags_by (difference8 x 1 0) None (Some u.flags.cy)) choice)

abbrev pub inr : UntaggedState → Src → ℕ → UntaggedState
inr u on choice = counted_up (into u on (sum8 (source u on) 1 0)) (source u on) choice

abbrev pub dcr : UntaggedState → Src → ℕ → UntaggedState
dcr u on choice = counted_down (into u on (difference8 (source u on) 1 0)) (source u on) choice

-- INX and DCX change no flag; DCX adds 0FFFFH modulo 65,536
abbrev pub add_to_pair : UntaggedState → Pair → ℕ → UntaggedState
add_to_pair u pair k = with_word u pair (wrap (pair_word u pair + k))

abbrev pub added : UntaggedState → ℕ → ℕ → UntaggedState
added u x y = with_cy (with_word u PairH (wrap (x + y))) (nat_lt 0xFFFF (x + y))

abbrev pub dad : UntaggedState → Pair → UntaggedState
dad u pair = added u (pair_word u PairH) (pair_word u pair)

-- DAA: where the processors may differ, A is bits 0 to 7 of the choice, and S Z AC P CY are bits 8 to 12
abbrev pub adjusted : UntaggedState → ℕ → Bool → Bool → ℕ → UntaggedState
adjusted u x ac cy choice =
    cond (daa_excepted x ac cy) (with_flags (with_a u (byte_of choice 0)) (chosen_flags choice 8))
    (with_flags (with_a u (daa_result x ac cy)) (settled (flags_by (daa_result x ac cy) None (Some (daa_carry x ac cy))) choice))

abbrev pub daa : UntaggedState → ℕ → UntaggedState
daa u choice = adjusted u u.regs.a u.flags.ac u.flags.cy choice

-- rotations: CY is the bit that goes out; what comes in is that bit, or for RAL and RAR the old CY
abbrev pub turned : UntaggedState → ℕ → Bool → UntaggedState
turned u v c = with_cy (with_a u v) c

-- the stack

abbrev pub push : UntaggedState → ℕ → ℕ → UntaggedState
push u high low = record u { mem = put_word u.mem (wrap (u.sp + 0xFFFE)) high low; sp = wrap (u.sp + 0xFFFE) }

abbrev pub push_pair : UntaggedState → StackPair → ℕ → UntaggedState
push_pair u StackB choice = push u u.regs.b u.regs.c
push_pair u StackD choice = push u u.regs.d u.regs.e
push_pair u StackH choice = push u u.regs.h u.regs.l
push_pair u Psw choice = push u u.regs.a (flag_byte u.flags choice)

abbrev pub popped : UntaggedState → StackPair → ℕ → ℕ → UntaggedState
popped u StackB high low = with_bc u high low
popped u StackD high low = with_de u high low
popped u StackH high low = with_hl u high low
popped u Psw high low = with_flags (with_a u high) (flags_in_byte low)

abbrev pub pop_pair : UntaggedState → StackPair → UntaggedState
pop_pair u pair = popped (record u { sp = wrap (u.sp + 2) }) pair (u.mem (next u.sp)) (u.mem u.sp)

-- the table; a jump, call or return is a goto, and has its rows beside the system calls and the ports
abbrev pub effect : UntaggedState → Instr80 → ℕ → UntaggedState
effect u Nop choice = u
effect u (Mov to from) choice = into u to (source u from)
effect u (Mvi to n) choice = into u to n
effect u (Lxi pair w) choice = with_word u pair (word_of w)
effect u (Lda a) choice = lda u a
effect u (Sta a) choice = store u a u.regs.a
effect u (Lhld a) choice = lhld u a
effect u (Shld a) choice = shld u a
effect u (Ldax pair) choice = lda u (pair_word u pair)
effect u (Stax pair) choice = store u (pair_word u pair) u.regs.a
effect u Xchg choice = xchg u
effect u Xthl choice = xthl u
effect u Sphl choice = record u { sp = pair_word u PairH }
effect u (Alu op from) choice = alu u op (source u from) choice
effect u (AluI op n) choice = alu u op n choice
effect u (Inr on) choice = inr u on choice
effect u (Dcr on) choice = dcr u on choice
effect u (Inx pair) choice = add_to_pair u pair 1
effect u (Dcx pair) choice = add_to_pair u pair 0xFFFF
effect u (Dad pair) choice = dad u pair
effect u Daa choice = daa u choice
effect u Cma choice = with_a u (255 - u.regs.a)
effect u Stc choice = with_cy u true
effect u Cmc choice = with_cy u (not u.flags.cy)
effect u Rlc choice = turned u (turned_left u.regs.a (as_bit (bit7 u.regs.a))) (bit7 u.regs.a)
effect u Rrc choice = turned u (turned_right u.regs.a (as_bit (bit0 u.regs.a))) (bit0 u.regs.a)
effect u Ral choice = turned u (turned_left u.regs.a (as_bit u.flags.cy)) (bit7 u.regs.a)
effect u Rar choice = turned u (turned_right u.regs.a (as_bit u.flags.cy)) (bit0 u.regs.a)
effect u (Push pair) choice = push_pair u pair choice
effect u (Pop pair) choice = pop_pair u pair
effect u Pchl choice = u
effect u (Jmp t) choice = u
effect u (Jif c t) choice = u
effect u (Call t) choice = u
effect u (Cif c t) choice = u
effect u Ret choice = u
effect u (Rif c) choice = u
effect u Rst0 choice = u
effect u (In n) choice = u
effect u (Out n) choice = u
