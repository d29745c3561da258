-- Terms: what a block of instructions computes, said of what stood in the registers and in SP before it and of what it has loaded.
-- The same terms serve both processors; what differs is what they stand for.
use Rattle.std.specs.Prelude.{ℕ, nat_lt, ◌&&◌, ◌||◌, ◌==◌, not, Bool, true, false}
use Rattle.cells.specs.declared.Place.{Place}
use Rattle.cells.specs.Places.{same_place}
use Rattle.cells.specs.declared.Part.{Part}
use Rattle.cells.specs.declared.Part.TheVariants.{A, B, C, D, E, H, L, S, Z, Ac, P, Cy}
use Rattle.i80.specs.declared.Op.{Op}
use Rattle.i80.specs.declared.Op.TheVariants.{Xra}
use Rattle.sym_terms.specs.Numbers.{part_number, op_number}

-- a number; what a part, or SP, held at the start; what the k-th load, counted from 0, brought, a byte or a word; an operation on
-- two bytes and a carry; a flag that an operation leaves; the sum of two words; the high and the low byte of a word, and the word
-- of two bytes; the byte of five flags, and the bit of a byte that stands for a flag; a byte rotated by 1 with a carry (kind 0
-- is RLC, 1 RRC, 2 RAL, 3 RAR); a word rotated right by 1, the carry coming in; a decimal adjustment; a half of a code address; and
-- what is not known
pub data Term : Type 0 where
  Num : (number : ℕ) → Term
  Start : (part : Part) → Term
  StartSp : Term
  Loaded8 : (index : ℕ) → Term
  Loaded16 : (index : ℕ) → Term
  Alu : (op : Op) (a b carry : Term) → Term
  Flag : (part : Part) (result : Term) → Term
  Sum16 : (a b : Term) → Term
  High : (word : Term) → Term
  Low : (word : Term) → Term
  Join : (high low : Term) → Term
  FlagByte : (s z ac p cy : Term) → Term
  Bit : (byte : Term) (part : Part) → Term
  Turn : (kind : ℕ) (a carry : Term) → Term
  Turned : (carry : Term) → Term
  Adjust : (a ac cy : Term) → Term
  Code : (place : Place) (high : Bool) → Term
  Unknown : Term

-- the flags among the parts
abbrev pub is_flag : Part → Bool
is_flag A = false
is_flag B = false
is_flag C = false
is_flag D = false
is_flag E = false
is_flag H = false
is_flag L = false
is_flag S = true
is_flag Z = true
is_flag Ac = true
is_flag P = true
is_flag Cy = true

-- Sorts. Unknown is of every sort.

abbrev pub is_zero : Term → Bool
is_zero (Num n) = n == 0
is_zero t = false

-- a bit: 0 or 1, a flag at the start or of a result, a bit of a byte, or the exclusive or of two bits
abbrev pub is_bit : Term → Bool
is_bit (Num n) = nat_lt n 2
is_bit (Start part) = is_flag part
is_bit (Flag part r) = true
is_bit (Bit b part) = true
is_bit (Alu Xra a b c) = is_bit a && (is_bit b && is_zero c)
is_bit Unknown = true
is_bit t = false

-- a byte: a bit, a number below 256, a register at the start, a loaded byte, or what an operation makes of bytes and words
abbrev pub is_byte : Term → Bool
is_byte (Num n) = nat_lt n 256
is_byte (Start part) = true
is_byte (Loaded8 k) = true
is_byte (Alu op a b c) = true
is_byte (Flag part r) = true
is_byte (High w) = true
is_byte (Low w) = true
is_byte (FlagByte s z ac p cy) = true
is_byte (Bit b part) = true
is_byte (Turn kind a c) = true
is_byte (Adjust a ac cy) = true
is_byte (Code q high) = true
is_byte Unknown = true
is_byte t = false

-- a word: a number, SP at the start, a loaded word, a sum, two bytes, or a rotated word
abbrev pub is_word : Term → Bool
is_word (Num n) = nat_lt n 0x10000
is_word StartSp = true
is_word (Loaded16 k) = true
is_word (Sum16 a b) = true
is_word (Join h l) = true
is_word (Turned c) = true
is_word Unknown = true
is_word t = false

abbrev pub is_carry : Part → Bool
is_carry Cy = true
is_carry part = false

-- an operation that leaves this flag: of a rotation that is CY alone
abbrev pub leaves_flag : Part → Term → Bool
leaves_flag part (Alu op a b c) = is_flag part
leaves_flag part (Turn kind a c) = is_carry part
leaves_flag part (Adjust a ac cy) = is_flag part
leaves_flag part Unknown = is_flag part
leaves_flag part t = false

-- an Unknown, a FlagByte or a Turned stands in it
abbrev pub is_open : Term → Bool
is_open (Num n) = false
is_open (Start part) = false
is_open StartSp = false
is_open (Loaded8 k) = false
is_open (Loaded16 k) = false
is_open (Alu op a b c) = is_open a || (is_open b || is_open c)
is_open (Flag part r) = is_open r
is_open (Sum16 a b) = is_open a || is_open b
is_open (High w) = is_open w
is_open (Low w) = is_open w
is_open (Join h l) = is_open h || is_open l
is_open (FlagByte s z ac p cy) = true
is_open (Bit b part) = is_open b
is_open (Turn kind a c) = is_open a || is_open c
is_open (Turned c) = true
is_open (Adjust a ac cy) = is_open a || (is_open ac || is_open cy)
is_open (Code q high) = false
is_open Unknown = true

-- an Adjust stands in it
abbrev pub is_adjusted : Term → Bool
is_adjusted (Num n) = false
is_adjusted (Start part) = false
is_adjusted StartSp = false
is_adjusted (Loaded8 k) = false
is_adjusted (Loaded16 k) = false
is_adjusted (Alu op a b c) = is_adjusted a || (is_adjusted b || is_adjusted c)
is_adjusted (Flag part r) = is_adjusted r
is_adjusted (Sum16 a b) = is_adjusted a || is_adjusted b
is_adjusted (High w) = is_adjusted w
is_adjusted (Low w) = is_adjusted w
is_adjusted (Join h l) = is_adjusted h || is_adjusted l
is_adjusted (FlagByte s z ac p cy) = is_adjusted s || (is_adjusted z || (is_adjusted ac || (is_adjusted p || is_adjusted cy)))
is_adjusted (Bit b part) = is_adjusted b
is_adjusted (Turn kind a c) = is_adjusted a || is_adjusted c
is_adjusted (Turned c) = is_adjusted c
is_adjusted (Adjust a ac cy) = true
is_adjusted (Code q high) = false
is_adjusted Unknown = false

-- for a term that is made: something is open in it where it is one of the three itself, or a half of a Join is
abbrev pub is_open_itself : Term → Bool
is_open_itself (FlagByte s z ac p cy) = true
is_open_itself (Turned c) = true
is_open_itself Unknown = true
is_open_itself t = false

abbrev pub shows_open : Term → Bool
shows_open (Join h l) = is_open_itself h || is_open_itself l
shows_open t = is_open_itself t

-- Whether two terms are the same.

abbrev pub same_bool : Bool → Bool → Bool
same_bool true b = b
same_bool false b = not b

abbrev pub same_term : Term → Term → Bool
same_term (Num n) (Num n') = n == n'
same_term (Start q) (Start q') = part_number q == part_number q'
same_term StartSp StartSp = true
same_term (Loaded8 k) (Loaded8 k') = k == k'
same_term (Loaded16 k) (Loaded16 k') = k == k'
same_term (Alu op a b c) (Alu op' a' b' c') = (op_number op == op_number op') && (same_term a a' && (same_term b b' && same_term c c'))
same_term (Flag q r) (Flag q' r') = (part_number q == part_number q') && same_term r r'
same_term (Sum16 a b) (Sum16 a' b') = same_term a a' && same_term b b'
same_term (High w) (High w') = same_term w w'
same_term (Low w) (Low w') = same_term w w'
same_term (Join h l) (Join h' l') = same_term h h' && same_term l l'
same_term (FlagByte s z ac p cy) (FlagByte s' z' ac' p' cy') = same_term s s' && (same_term z z' && (same_term ac ac' && (same_term p p' && same_term cy cy')))
same_term (Bit b q) (Bit b' q') = (part_number q == part_number q') && same_term b b'
same_term (Turn kind a c) (Turn kind' a' c') = (kind == kind') && (same_term a a' && same_term c c')
same_term (Turned c) (Turned c') = same_term c c'
same_term (Adjust a ac cy) (Adjust a' ac' cy') = same_term a a' && (same_term ac ac' && same_term cy cy')
same_term (Code q high) (Code q' high') = same_place q q' && same_bool high high'
same_term Unknown Unknown = true
same_term s t = false
