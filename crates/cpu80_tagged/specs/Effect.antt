-- What each instruction does before the place that comes next is looked at: the table of the Intel 8080 Assembly Language
-- Programming Manual, chapter 2, over tagged values. Moves, loads, stores, PUSH and POP carry any cell; arithmetic is of
-- numbers alone. Within a row the rules stand in the order P8, P4, P2, P3, P5, P6, P7.
use Rattle.std.specs.Prelude.{ℕ, ◌+◌, ◌-◌, ◌*◌, nat_lt, not, Bool, true, false, cond, Option, Some, None, Result, Ok, Err}
use Rattle.cells.specs.declared.Place.TheVariants.{At}
use Rattle.cells.specs.declared.Flags.{Flags}
use Rattle.cells.specs.declared.Cell.{Cell}
use Rattle.cells.specs.declared.Cell.TheVariants.{Num, Lo, Hi, Psw as PswCell}
use Rattle.cells.specs.declared.Rule.{Rule}
use Rattle.cells.specs.declared.Rule.TheVariants.{P5, P6, P7}
use Rattle.i80.specs.declared.Src.{Src}
use Rattle.i80.specs.declared.Src.TheVariants.{Reg as InReg, Mem}
use Rattle.i80.specs.declared.Pair.{Pair}
use Rattle.i80.specs.declared.Pair.TheVariants.{B as PairB, D as PairD, H as PairH, Sp}
use Rattle.i80.specs.declared.StackPair.{StackPair}
use Rattle.i80.specs.declared.StackPair.TheVariants.{B as StackB, D as StackD, H as StackH, Psw}
use Rattle.i80.specs.declared.Op.{Op}
use Rattle.i80.specs.declared.Op.TheVariants.{Add, Adc, Sub, Sbb, Ana, Xra, Ora, Cmp}
use Rattle.i80.specs.declared.Word.{Word}
use Rattle.i80.specs.declared.Word.TheVariants.{Num as Number, Code}
use Rattle.i80.specs.declared.Instr80.{Instr80}
use Rattle.i80.specs.declared.Instr80.TheVariants.{Nop, Mov, Mvi, Lxi, Lda, Sta, Lhld, Shld, Ldax, Stax, Xchg, Xthl, Sphl, Pchl, Alu, AluI, Inr, Dcr, Inx, Dcx, Dad, Daa, Cma, Stc, Cmc, Rlc, Rrc, Ral, Rar, Push, Pop, Jmp, Jif, Call, Cif, Ret, Rif, Rst0, In, Out}
use Rattle.i80.specs.Columns.{gives_zero}
use Rattle.dialogue.specs.Tried.{try_then}
use Rattle.dialogue.specs.Words.{wrap}
use Rattle.base.specs.Arithmetic.{as_bit, sum8, carry4, difference8, turned_left, turned_right, bit7, bit0, daa_result, daa_carry, daa_excepted}
use Rattle.base.specs.Operations.{flags_by, result_of, flags_of, flags_in}
use Rattle.asm80_types.specs.Program.{Program}
use Rattle.cpu80_tagged.specs.State.{State80, reg80, with_reg80, high_of, low_of, with_bc, with_de, with_hl, with_num, with_a, with_flags, with_cy, num_or}
use Rattle.cpu80_tagged.specs.Memory.{Halves, address, read_at, may_write, write_at, read_word, write_word}

-- moves

-- the cell of a register or of M
abbrev pub source : Program → State80 → Src → Result Cell Rule
source p s (InReg r) = Ok (reg80 s.regs r)
source p s Mem = try_then (address s.regs.h s.regs.l) (read_at p s)

-- a cell into a register or into M
abbrev pub into : Program → State80 → Src → Cell → Result State80 Rule
into p s (InReg r) v = Ok (record s { regs = with_reg80 s.regs r v })
into p s Mem v = try_then (address s.regs.h s.regs.l) (λ a. write_at p s a v)

abbrev pub lxi : State80 → Pair → Word → State80
lxi s pair (Number w) = with_num s pair w
lxi s PairB (Code a) = with_bc s (Hi (At a)) (Lo (At a))
lxi s PairD (Code a) = with_de s (Hi (At a)) (Lo (At a))
lxi s PairH (Code a) = with_hl s (Hi (At a)) (Lo (At a))
lxi s Sp (Code a) = s

abbrev pub lda : Program → State80 → ℕ → Result State80 Rule
lda p s a = try_then (read_at p s a) (λ v. Ok (with_a s v))

abbrev pub sta : Program → State80 → ℕ → Result State80 Rule
sta p s a = write_at p s a s.regs.a

abbrev pub lhld : Program → State80 → ℕ → Result State80 Rule
lhld p s a = try_then (read_word p s a) (λ w. Ok (with_hl s w.high w.low))

abbrev pub xchg : State80 → State80
xchg s = record s { regs = record (s.regs) { d = s.regs.h; e = s.regs.l; h = s.regs.d; l = s.regs.e } }

abbrev pub xthl : Program → State80 → Result State80 Rule
xthl p s =
    try_then (read_word p s s.sp) (λ w. try_then (write_word p s s.sp s.regs.h s.regs.l) (λ t. Ok (with_hl t w.high w.low)))

abbrev pub sphl : State80 → Result State80 Rule
sphl s = try_then (address s.regs.h s.regs.l) (λ a. Ok (record s { sp = a }))

-- arithmetic

-- a flag that is read is known (P6)
abbrev pub known : Option Bool → Result Bool Rule
known (Some b) = Ok b
known None = Err P6

-- the carry that an operation takes: CY for ADC and SBB, else 0
abbrev pub carry_for : Op → Flags → Result ℕ Rule
carry_for Add f = Ok 0
carry_for Adc f = try_then (known f.cy) (λ c. Ok (as_bit c))
carry_for Sub f = Ok 0
carry_for Sbb f = try_then (known f.cy) (λ c. Ok (as_bit c))
carry_for Ana f = Ok 0
carry_for Xra f = Ok 0
carry_for Ora f = Ok 0
carry_for Cmp f = Ok 0

-- CMP keeps A
abbrev pub a_after : Op → Cell → ℕ → Cell
a_after Add a v = Num v
a_after Adc a v = Num v
a_after Sub a v = Num v
a_after Sbb a v = Num v
a_after Ana a v = Num v
a_after Xra a v = Num v
a_after Ora a v = Num v
a_after Cmp a v = a

-- an operation on A and a cell
abbrev pub alu_with : State80 → Op → Cell → Result State80 Rule
alu_with s op v =
    try_then (num_or P5 s.regs.a) (λ x. try_then (num_or P5 v) (λ y. try_then (carry_for op s.flags) (λ c.
    Ok (with_flags (with_a s (a_after op s.regs.a (result_of op x y c))) (flags_of op x y c)))))

-- XRA A and SUB A clear A, whatever it holds
abbrev pub cleared : State80 → State80
cleared s = with_flags (with_a s (Num 0)) (flags_by 0 None (Some false))

abbrev pub alu : Program → State80 → Op → Src → Result State80 Rule
alu p s op from = cond (gives_zero op from) (Ok (cleared s)) (try_then (source p s from) (alu_with s op))

-- a count up or down keeps CY; AC is known after a count up
abbrev pub counted_up : State80 → ℕ → State80
counted_up s x = with_flags s (flags_by (sum8 x 1 0) (Some (carry4 x 1 0)) s.flags.cy)

abbrev pub counted_down : State80 → ℕ → State80
counted_down s x = with_flags s (flags_by (difference8 x 1 0) None s.flags.cy)

-- the number that INR and DCR count, in a cell that can be written too
abbrev pub counted : Program → State80 → Src → Result ℕ Rule
counted p s (InReg r) = num_or P5 (reg80 s.regs r)
counted p s Mem =
    try_then (address s.regs.h s.regs.l) (λ a. try_then (read_at p s a) (λ v. try_then (may_write p a) (λ o. num_or P5 v)))

abbrev pub inr : Program → State80 → Src → Result State80 Rule
inr p s on = try_then (counted p s on) (λ x. try_then (into p s on (Num (sum8 x 1 0))) (λ t. Ok (counted_up t x)))

abbrev pub dcr : Program → State80 → Src → Result State80 Rule
dcr p s on = try_then (counted p s on) (λ x. try_then (into p s on (Num (difference8 x 1 0))) (λ t. Ok (counted_down t x)))

-- the number in a pair
abbrev pub pair_num : State80 → Pair → Result ℕ Rule
pair_num s pair = try_then (num_or P5 (high_of s pair)) (λ h. try_then (num_or P5 (low_of s pair)) (λ l. Ok (256 * h + l)))

-- INX and DCX change no flag; DCX adds 0FFFFH modulo 65,536
abbrev pub add_to_pair : State80 → Pair → ℕ → Result State80 Rule
add_to_pair s pair k = try_then (pair_num s pair) (λ w. Ok (with_num s pair (wrap (w + k))))

abbrev pub dad : State80 → Pair → Result State80 Rule
dad s pair =
    try_then (pair_num s PairH) (λ x. try_then (pair_num s pair) (λ y.
    Ok (with_cy (with_num s PairH (wrap (x + y))) (nat_lt 0xFFFF (x + y)))))

-- DAA reads AC and CY, and leaves AC unknown; P7 where the processors may differ
abbrev pub daa_of : State80 → ℕ → Bool → Bool → Result State80 Rule
daa_of s x ac cy =
    cond (daa_excepted x ac cy) (Err P7)
    (Ok (with_flags (with_a s (Num (daa_result x ac cy))) (flags_by (daa_result x ac cy) None (Some (daa_carry x ac cy)))))

abbrev pub daa : State80 → Result State80 Rule
daa s =
    try_then (num_or P5 s.regs.a) (λ x. try_then (known s.flags.ac) (λ ac. try_then (known s.flags.cy) (λ cy. daa_of s x ac cy)))

abbrev pub cma : State80 → Result State80 Rule
cma s = try_then (num_or P5 s.regs.a) (λ x. Ok (with_a s (Num (255 - x))))

abbrev pub cmc : State80 → Result State80 Rule
cmc s = try_then (known s.flags.cy) (λ c. Ok (with_cy s (not c)))

-- rotations: CY is the bit that goes out; what comes in is that bit, or for RAL and RAR the old CY
abbrev pub rlc : State80 → Result State80 Rule
rlc s = try_then (num_or P5 s.regs.a) (λ x. Ok (with_cy (with_a s (Num (turned_left x (as_bit (bit7 x))))) (bit7 x)))

abbrev pub rrc : State80 → Result State80 Rule
rrc s = try_then (num_or P5 s.regs.a) (λ x. Ok (with_cy (with_a s (Num (turned_right x (as_bit (bit0 x))))) (bit0 x)))

abbrev pub ral : State80 → Result State80 Rule
ral s =
    try_then (num_or P5 s.regs.a) (λ x. try_then (known s.flags.cy) (λ c.
    Ok (with_cy (with_a s (Num (turned_left x (as_bit c)))) (bit7 x))))

abbrev pub rar : State80 → Result State80 Rule
rar s =
    try_then (num_or P5 s.regs.a) (λ x. try_then (known s.flags.cy) (λ c.
    Ok (with_cy (with_a s (Num (turned_right x (as_bit c)))) (bit0 x))))

-- the stack

abbrev pub push : Program → State80 → Cell → Cell → Result State80 Rule
push p s high low =
    try_then (write_word p s (wrap (s.sp + 0xFFFE)) high low) (λ t. Ok (record t { sp = wrap (s.sp + 0xFFFE) }))

abbrev pub push_pair : Program → State80 → StackPair → Result State80 Rule
push_pair p s StackB = push p s s.regs.b s.regs.c
push_pair p s StackD = push p s s.regs.d s.regs.e
push_pair p s StackH = push p s s.regs.h s.regs.l
push_pair p s Psw = push p s s.regs.a (PswCell s.flags)

abbrev pub popped : State80 → StackPair → Halves → State80
popped s StackB w = with_bc s w.high w.low
popped s StackD w = with_de s w.high w.low
popped s StackH w = with_hl s w.high w.low
popped s Psw w = with_flags (with_a s w.high) (flags_in w.low)

abbrev pub pop_pair : Program → State80 → StackPair → Result State80 Rule
pop_pair p s pair =
    try_then (read_word p s s.sp) (λ w. Ok (popped (record s { sp = wrap (s.sp + 2) }) pair w))

-- the table; a jump, call or return is a goto, and has its rows beside the system calls and the ports
abbrev pub effect : Program → State80 → Instr80 → Result State80 Rule
effect p s Nop = Ok s
effect p s (Mov to from) = try_then (source p s from) (into p s to)
effect p s (Mvi to n) = into p s to (Num n)
effect p s (Lxi pair w) = Ok (lxi s pair w)
effect p s (Lda a) = lda p s a
effect p s (Sta a) = sta p s a
effect p s (Lhld a) = lhld p s a
effect p s (Shld a) = write_word p s a s.regs.h s.regs.l
effect p s (Ldax pair) = try_then (address (high_of s pair) (low_of s pair)) (lda p s)
effect p s (Stax pair) = try_then (address (high_of s pair) (low_of s pair)) (sta p s)
effect p s Xchg = Ok (xchg s)
effect p s Xthl = xthl p s
effect p s Sphl = sphl s
effect p s (Alu op from) = alu p s op from
effect p s (AluI op n) = alu_with s op (Num n)
effect p s (Inr on) = inr p s on
effect p s (Dcr on) = dcr p s on
effect p s (Inx pair) = add_to_pair s pair 1
effect p s (Dcx pair) = add_to_pair s pair 0xFFFF
effect p s (Dad pair) = dad s pair
effect p s Daa = daa s
effect p s Cma = cma s
effect p s Stc = Ok (with_cy s true)
effect p s Cmc = cmc s
effect p s Rlc = rlc s
effect p s Rrc = rrc s
effect p s Ral = ral s
effect p s Rar = rar s
effect p s (Push pair) = push_pair p s pair
effect p s (Pop pair) = pop_pair p s pair
effect p s Pchl = Ok s
effect p s (Jmp t) = Ok s
effect p s (Jif c t) = Ok s
effect p s (Call t) = Ok s
effect p s (Cif c t) = Ok s
effect p s Ret = Ok s
effect p s (Rif c) = Ok s
effect p s Rst0 = Ok s
effect p s (In n) = Ok s
effect p s (Out n) = Ok s
