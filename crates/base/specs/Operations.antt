-- The 8080's operations on two bytes and a carry, which is 0 or 1: the result and the five flags (Intel 8080 Assembly Language
-- Programming Manual, "Condition bits"). AC is known after an addition alone.
use Rattle.std.specs.Prelude.{ℕ, ◌==◌, Bool, false, Option, Some, None, bit_and, bit_or, bit_xor}
use Rattle.cells.specs.declared.Flags.{Flags}
use Rattle.cells.specs.declared.Cell.{Cell}
use Rattle.cells.specs.declared.Cell.TheVariants.{Num, Lo, Hi, Psw, Junk}
use Rattle.cells.specs.Conditions.{unknown_flags, flags_of_byte}
use Rattle.i80.specs.declared.Op.{Op}
use Rattle.i80.specs.declared.Op.TheVariants.{Add, Adc, Sub, Sbb, Ana, Xra, Ora, Cmp}
use Rattle.base.specs.Arithmetic.{has_even_parity, sum8, carry8, carry4, difference8, borrow8, bit7}

-- S, Z and P of a byte, with these AC and CY
abbrev pub flags_by : ℕ → Option Bool → Option Bool → Flags
flags_by v ac cy = record { s = Some (bit7 v); z = Some (v == 0); ac = ac; p = Some (has_even_parity v); cy = cy }

-- the result of an operation on two numbers and a carry
abbrev pub result_of : Op → ℕ → ℕ → ℕ → ℕ
result_of Add x y c = sum8 x y c
result_of Adc x y c = sum8 x y c
result_of Sub x y c = difference8 x y c
result_of Sbb x y c = difference8 x y c
result_of Ana x y c = bit_and x y
result_of Xra x y c = bit_xor x y
result_of Ora x y c = bit_or x y
result_of Cmp x y c = difference8 x y c

-- its flags; AC is known after an addition alone
abbrev pub flags_of : Op → ℕ → ℕ → ℕ → Flags
flags_of Add x y c = flags_by (sum8 x y c) (Some (carry4 x y c)) (Some (carry8 x y c))
flags_of Adc x y c = flags_by (sum8 x y c) (Some (carry4 x y c)) (Some (carry8 x y c))
flags_of Sub x y c = flags_by (difference8 x y c) None (Some (borrow8 x y c))
flags_of Sbb x y c = flags_by (difference8 x y c) None (Some (borrow8 x y c))
flags_of Ana x y c = flags_by (bit_and x y) None (Some false)
flags_of Xra x y c = flags_by (bit_xor x y) None (Some false)
flags_of Ora x y c = flags_by (bit_or x y) None (Some false)
flags_of Cmp x y c = flags_by (difference8 x y c) None (Some (borrow8 x y c))

-- the flags that POP PSW takes from a cell: of a number bits 7, 6, 4, 2 and 0
abbrev pub flags_in : Cell → Flags
flags_in (Num n) = flags_of_byte n
flags_in (Lo q) = unknown_flags
flags_in (Hi q) = unknown_flags
flags_in (Psw f) = f
flags_in Junk = unknown_flags
