-- Results and flags of the 8086's operations (Intel 8086 Family User's Manual, "Flags" and "Instruction set"). What the
-- manual leaves undefined is taken from the step's choice.
use Rattle.std.specs.Prelude.{ℕ, ◌+◌, ◌*◌, ◌/◌, ◌%◌, ◌==◌, nat_lt, not, Bool, false, cond, bit_and, bit_or, bit_xor}
use Rattle.i86.specs.declared.AluOp.{AluOp}
use Rattle.i86.specs.declared.AluOp.TheVariants.{Add, Or, Adc, Sbb, And, Sub, Xor, Cmp}
use Rattle.i86.specs.declared.Count.{Count}
use Rattle.i86.specs.declared.Count.TheVariants.{Inc, Dec}
use Rattle.i86.specs.declared.Rotate.{Rotate}
use Rattle.i86.specs.declared.Rotate.TheVariants.{Rol, Ror, Rcl, Rcr}
use Rattle.i86.specs.declared.Jump.{Jump}
use Rattle.i86.specs.declared.Jump.TheVariants.{Jb, Jnb, Jz, Jnz, Js, Jns, Jp, Jnp}
use Rattle.base.specs.Arithmetic.{as_bit, has_even_parity, sum8, carry8, carry4, difference8, borrow8, borrow4, turned_left, turned_right, bit7, bit0, daa_adds_6, daa_carry, daa_result, daa_excepted}
use Rattle.cells.specs.Bits.{has_bit}
use Rattle.dialogue.specs.Choice.{byte_of}
use Rattle.cpu86.specs.State.{Flags86}

-- SF, ZF and PF of a byte, with these AF and CF
abbrev pub flags_by : ℕ → Bool → Bool → Flags86
flags_by v af cf = record { sf = bit7 v; zf = v == 0; af = af; pf = has_even_parity v; cf = cf }

-- an operation on two bytes; ADC and SBB take the carry
abbrev pub alu_result : AluOp → ℕ → ℕ → Bool → ℕ
alu_result Add x y c = sum8 x y 0
alu_result Or x y c = bit_or x y
alu_result Adc x y c = sum8 x y (as_bit c)
alu_result Sbb x y c = difference8 x y (as_bit c)
alu_result And x y c = bit_and x y
alu_result Sub x y c = difference8 x y 0
alu_result Xor x y c = bit_xor x y
alu_result Cmp x y c = difference8 x y 0

-- after a logic operation AF is bit 0 of the choice
abbrev pub alu_flags : AluOp → ℕ → ℕ → Bool → ℕ → Flags86
alu_flags Add x y c choice = flags_by (sum8 x y 0) (carry4 x y 0) (carry8 x y 0)
alu_flags Or x y c choice = flags_by (bit_or x y) (has_bit choice 0) false
alu_flags Adc x y c choice = flags_by (sum8 x y (as_bit c)) (carry4 x y (as_bit c)) (carry8 x y (as_bit c))
alu_flags Sbb x y c choice = flags_by (difference8 x y (as_bit c)) (borrow4 x y (as_bit c)) (borrow8 x y (as_bit c))
alu_flags And x y c choice = flags_by (bit_and x y) (has_bit choice 0) false
alu_flags Sub x y c choice = flags_by (difference8 x y 0) (borrow4 x y 0) (borrow8 x y 0)
alu_flags Xor x y c choice = flags_by (bit_xor x y) (has_bit choice 0) false
alu_flags Cmp x y c choice = flags_by (difference8 x y 0) (borrow4 x y 0) (borrow8 x y 0)

-- INC and DEC keep CF
abbrev pub count8_result : Count → ℕ → ℕ
count8_result Inc x = sum8 x 1 0
count8_result Dec x = difference8 x 1 0

abbrev pub count8_flags : Count → ℕ → Bool → Flags86
count8_flags Inc x cf = flags_by (sum8 x 1 0) (carry4 x 1 0) cf
count8_flags Dec x cf = flags_by (difference8 x 1 0) (borrow4 x 1 0) cf

-- of a word SF and ZF are by the word, PF and AF by its low byte
abbrev pub flags_by_word : ℕ → Bool → Bool → Flags86
flags_by_word w af cf = record { sf = nat_lt 0x7FFF w; zf = w == 0; af = af; pf = has_even_parity (w % 256); cf = cf }

abbrev pub count16_result : Count → ℕ → ℕ
count16_result Inc w = (w + 1) % 0x10000
count16_result Dec w = (w + 0xFFFF) % 0x10000

abbrev pub count16_flags : Count → ℕ → Bool → Flags86
count16_flags Inc w cf = flags_by_word ((w + 1) % 0x10000) (carry4 w 1 0) cf
count16_flags Dec w cf = flags_by_word ((w + 0xFFFF) % 0x10000) (borrow4 w 1 0) cf

abbrev pub add16_result : ℕ → ℕ → ℕ
add16_result x y = (x + y) % 0x10000

abbrev pub add16_flags : ℕ → ℕ → Flags86
add16_flags x y = flags_by_word ((x + y) % 0x10000) (carry4 x y 0) (nat_lt 0xFFFF (x + y))

-- rotations by 1 change CF alone: it is the bit that goes out; through CF the old CF comes in
abbrev pub rotate8_result : Rotate → ℕ → Bool → ℕ
rotate8_result Rol v c = turned_left v (as_bit (bit7 v))
rotate8_result Ror v c = turned_right v (as_bit (bit0 v))
rotate8_result Rcl v c = turned_left v (as_bit c)
rotate8_result Rcr v c = turned_right v (as_bit c)

abbrev pub rotate8_carry : Rotate → ℕ → Bool
rotate8_carry Rol v = bit7 v
rotate8_carry Ror v = bit0 v
rotate8_carry Rcl v = bit7 v
rotate8_carry Rcr v = bit0 v

abbrev pub bit15 : ℕ → Bool
bit15 w = nat_lt 0x7FFF w

abbrev pub rotate16_result : Rotate → ℕ → Bool → ℕ
rotate16_result Rol w c = (2 * w + as_bit (bit15 w)) % 0x10000
rotate16_result Ror w c = w / 2 + 0x8000 * as_bit (bit0 w)
rotate16_result Rcl w c = (2 * w + as_bit c) % 0x10000
rotate16_result Rcr w c = w / 2 + 0x8000 * as_bit c

abbrev pub rotate16_carry : Rotate → ℕ → Bool
rotate16_carry Rol w = bit15 w
rotate16_carry Ror w = bit0 w
rotate16_carry Rcl w = bit15 w
rotate16_carry Rcr w = bit0 w

-- DAA: AF is 1 exactly where 6 was added; at the excepted values all results are the choice's
abbrev pub daa_al : ℕ → Flags86 → ℕ → ℕ
daa_al al f choice = cond (daa_excepted al f.af f.cf) (byte_of choice 0) (daa_result al f.af f.cf)

abbrev pub chosen_flags : ℕ → ℕ → Flags86
chosen_flags choice k =
    record { sf = has_bit choice k; zf = has_bit choice (k + 1); af = has_bit choice (k + 2); pf = has_bit choice (k + 3); cf = has_bit choice (k + 4) }

abbrev pub daa_flags : ℕ → Flags86 → ℕ → Flags86
daa_flags al f choice =
    cond (daa_excepted al f.af f.cf) (chosen_flags choice 8)
    (flags_by (daa_result al f.af f.cf) (daa_adds_6 al f.af) (daa_carry al f.af f.cf))

-- LAHF: SF ZF AF PF CF are bits 7 6 4 2 0 of AH, and bits 1 3 5 are bits 0 1 2 of the choice
abbrev pub flag_byte : Flags86 → ℕ → ℕ
flag_byte f choice =
    128 * as_bit f.sf + 64 * as_bit f.zf + 32 * as_bit (has_bit choice 2) + 16 * as_bit f.af
    + 8 * as_bit (has_bit choice 1) + 4 * as_bit f.pf + 2 * as_bit (has_bit choice 0) + as_bit f.cf

-- SAHF
abbrev pub flags_of_byte : ℕ → Flags86
flags_of_byte v = record { sf = v / 128 % 2 == 1; zf = v / 64 % 2 == 1; af = v / 16 % 2 == 1; pf = v / 4 % 2 == 1; cf = v % 2 == 1 }

-- the condition of a jump
abbrev pub jumps : Jump → Flags86 → Bool
jumps Jb f = f.cf
jumps Jnb f = not f.cf
jumps Jz f = f.zf
jumps Jnz f = not f.zf
jumps Js f = f.sf
jumps Jns f = not f.sf
jumps Jp f = f.pf
jumps Jnp f = not f.pf
