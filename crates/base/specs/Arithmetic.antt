-- Arithmetic on bytes that both processors have (Intel 8080 Assembly Language Programming Manual, "Condition bits"; Intel
-- 8086 Family User's Manual, "Flags"). A carry that comes in is a number, 0 or 1.
use Rattle.std.specs.Prelude.{ℕ, ◌+◌, ◌-◌, ◌*◌, ◌/◌, ◌%◌, ◌==◌, nat_lt, nat_le, ◌&&◌, ◌||◌, not, Bool, true, false, count_ones}

abbrev pub as_bit : Bool → ℕ
as_bit true = 1
as_bit false = 0

-- the number of one bits is even
abbrev pub has_even_parity : ℕ → Bool
has_even_parity v = count_ones v % 2 == 0

-- the sum of two bytes and a carry; the carries out of bit 7 and bit 3
abbrev pub sum8 : ℕ → ℕ → ℕ → ℕ
sum8 x y c = (x + y + c) % 256

abbrev pub carry8 : ℕ → ℕ → ℕ → Bool
carry8 x y c = nat_lt 255 (x + y + c)

abbrev pub carry4 : ℕ → ℕ → ℕ → Bool
carry4 x y c = nat_lt 15 (x % 16 + y % 16 + c)

-- the difference of two bytes and a borrow; the borrows of bit 7 and bit 3
abbrev pub difference8 : ℕ → ℕ → ℕ → ℕ
difference8 x y c = (x + 256 - (y + c)) % 256

abbrev pub borrow8 : ℕ → ℕ → ℕ → Bool
borrow8 x y c = nat_lt x (y + c)

abbrev pub borrow4 : ℕ → ℕ → ℕ → Bool
borrow4 x y c = nat_lt (x % 16) (y % 16 + c)

-- a byte rotated left, its bit 7 going out, and right, its bit 0 going out, with a bit that comes in
abbrev pub turned_left : ℕ → ℕ → ℕ
turned_left v c = (2 * v + c) % 256

abbrev pub turned_right : ℕ → ℕ → ℕ
turned_right v c = v / 2 + 128 * c

abbrev pub bit7 : ℕ → Bool
bit7 v = nat_lt 127 v

abbrev pub bit0 : ℕ → Bool
bit0 v = v % 2 == 1

-- decimal adjustment: 6 is added where the low digit is above 9 or the half carry is 1, and then 60H where the high digit
-- is above 9 or the carry is 1, and the carry is 1 exactly then
abbrev pub daa_adds_6 : ℕ → Bool → Bool
daa_adds_6 v half = nat_lt 9 (v % 16) || half

abbrev pub daa_low : ℕ → Bool → ℕ
daa_low v half = v + 6 * as_bit (daa_adds_6 v half)

abbrev pub daa_carry : ℕ → Bool → Bool → Bool
daa_carry v half carry = nat_lt 9 (daa_low v half / 16) || carry

abbrev pub daa_result : ℕ → Bool → Bool → ℕ
daa_result v half carry = (daa_low v half + 0x60 * as_bit (daa_carry v half carry)) % 256

-- where the two processors' manuals leave the adjustment's result open, or differ
abbrev pub daa_excepted : ℕ → Bool → Bool → Bool
daa_excepted v half carry = nat_le 0xFA v || (nat_le 0x9A v && (nat_le v 0x9F && (half && not carry)))
