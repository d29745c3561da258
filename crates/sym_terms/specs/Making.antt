-- How terms are made: the equations that are used wherever a term is made, and no others. Where an Unknown, a FlagByte or a Turned
-- stands in an operand, an Alu, Flag, Sum16, Turn or Adjust is Unknown before any other equation.
use Rattle.std.specs.Prelude.{◌≡◌, ◌<◌, ℕ, zero, suc, ◌+◌, ◌*◌, ◌/◌, ◌%◌, ◌==◌, ◌&&◌, ◌||◌, not, Bool, true, false, cond}
use Rattle.cells.specs.declared.Part.{Part}
use Rattle.cells.specs.declared.Part.TheVariants.{S, Z, Ac, P, Cy}
use Rattle.i80.specs.declared.Op.{Op}
use Rattle.i80.specs.declared.Op.TheVariants.{Add, Adc, Ana, Xra, Ora}
use Rattle.sym_terms.specs.Term.{Term, Num, Start, StartSp, Loaded8, Loaded16, Alu, Flag, Sum16, High, Low, Join, FlagByte, Bit, Turn, Turned, Adjust, Code, Unknown, is_flag, is_bit, is_byte, is_word, leaves_flag, is_open, is_adjusted, same_term}

abbrev pub alu : Op → Term → Term → Term → Term
alu op a b c = cond (is_open a || (is_open b || is_open c)) Unknown (Alu op a b c)

abbrev pub is_logic : Op → Bool
is_logic Ana = true
is_logic Xra = true
is_logic Ora = true
is_logic op = false

abbrev pub is_addition : Op → Bool
is_addition Add = true
is_addition Adc = true
is_addition op = false

-- CY of a logic operation is 0
abbrev pub carry_flag : Term → Term
carry_flag (Alu op a b c) = cond (is_logic op) (Num 0) (Flag Cy (Alu op a b c))
carry_flag r = Flag Cy r

-- AC is known of an addition alone
abbrev pub half_carry_flag : Term → Term
half_carry_flag (Alu op a b c) = cond (is_addition op) (Flag Ac (Alu op a b c)) Unknown
half_carry_flag r = Unknown

abbrev pub flag_term_of : Part → Term → Term
flag_term_of Cy r = carry_flag r
flag_term_of Ac r = half_carry_flag r
flag_term_of part r = Flag part r

abbrev pub flag : Part → Term → Term
flag part r = cond (is_open r) Unknown (flag_term_of part r)

-- numbers that are added are gathered, modulo 65,536, and 0 is left out
abbrev pub plus : Term → ℕ → Term
plus a zero = a
plus a (suc n) = Sum16 a (Num (suc n))

abbrev pub regrouped : Term → ℕ → Term
regrouped (Num m) n = Num ((m + n) % 0x10000)
regrouped (Sum16 a (Num m)) n = plus a ((m + n) % 0x10000)
regrouped a n = plus a n

abbrev pub sum_of : Term → Term → Term
sum_of a (Num n) = regrouped a n
sum_of a b = Sum16 a b

abbrev pub sum16 : Term → Term → Term
sum16 a b = cond (is_open a || is_open b) Unknown (sum_of a b)

abbrev pub high : Term → Term
high (Num n) = Num (n / 256)
high (Join h l) = h
high (Turned c) = Unknown
high Unknown = Unknown
high w = High w

abbrev pub low : Term → Term
low (Num n) = Num (n % 256)
low (Join h l) = l
low (Turned c) = Unknown
low Unknown = Unknown
low w = Low w

-- the one half or the other
abbrev pub half_of : Bool → Term → Term
half_of is_high w = cond is_high (high w) (low w)

-- the halves of one word are joined to that word, unless an Adjust stands in it: where the 8086's manual leaves DAA open, two of
-- them with the same operands may differ, and the halves need not be those of one word
abbrev pub join : Term → Term → Term
join (Num h) (Num l) = Num (256 * h + l)
join (High w) (Low w') = cond (same_term w w' && not (is_adjusted w)) w (Join (High w) (Low w'))
join h l = Join h l

abbrev pub chosen_flag : Term → Term → Term → Term → Term → Part → Term
chosen_flag s z ac p cy S = s
chosen_flag s z ac p cy Z = z
chosen_flag s z ac p cy Ac = ac
chosen_flag s z ac p cy P = p
chosen_flag s z ac p cy Cy = cy
chosen_flag s z ac p cy part = Unknown

abbrev pub bit : Term → Part → Term
bit (FlagByte s z ac p cy) part = chosen_flag s z ac p cy part
bit Unknown part = Unknown
bit b part = Bit b part

abbrev pub turn : ℕ → Term → Term → Term
turn kind a c = cond (is_open a || is_open c) Unknown (Turn kind a c)

-- kind 4 is a word that is rotated right, the carry coming in
abbrev pub turn_or_turned : ℕ → Term → Term → Term
turn_or_turned kind a c = cond (kind == 4) (Turned c) (turn kind a c)

abbrev pub adjust : Term → Term → Term → Term
adjust a ac cy = cond (is_open a || (is_open ac || is_open cy)) Unknown (Adjust a ac cy)

-- the carry out of the sum of two words
abbrev pub carry_of : Term → Term → Term
carry_of a b = flag Cy (alu Adc (high a) (high b) (flag Cy (alu Add (low a) (low b) (Num 0))))

-- A term that is made: its operands are made and of their sorts, and no equation applies to it, that is, making it of its operands
-- gives the term itself.
abbrev pub IsTermMade : Term → Type 0
IsTermMade (Num n) = n < 0x10000
IsTermMade (Start part) = Unit {0}
IsTermMade StartSp = Unit {0}
IsTermMade (Loaded8 k) = Unit {0}
IsTermMade (Loaded16 k) = Unit {0}
IsTermMade (Alu op a b c) = IsTermMade a × IsTermMade b × IsTermMade c × (is_byte a ≡ true) × (is_byte b ≡ true) × (is_bit c ≡ true) × (alu op a b c ≡ Alu op a b c)
IsTermMade (Flag part r) = IsTermMade r × (leaves_flag part r ≡ true) × (flag part r ≡ Flag part r)
IsTermMade (Sum16 a b) = IsTermMade a × IsTermMade b × (is_word a ≡ true) × (is_word b ≡ true) × (sum16 a b ≡ Sum16 a b)
IsTermMade (High w) = IsTermMade w × (is_word w ≡ true) × (high w ≡ High w)
IsTermMade (Low w) = IsTermMade w × (is_word w ≡ true) × (low w ≡ Low w)
IsTermMade (Join h l) = IsTermMade h × IsTermMade l × (is_byte h ≡ true) × (is_byte l ≡ true) × (join h l ≡ Join h l)
IsTermMade (FlagByte s z ac p cy) = IsTermMade s × IsTermMade z × IsTermMade ac × IsTermMade p × IsTermMade cy × (is_bit s ≡ true) × (is_bit z ≡ true) × (is_bit ac ≡ true) × (is_bit p ≡ true) × (is_bit cy ≡ true)
IsTermMade (Bit b part) = IsTermMade b × (is_byte b ≡ true) × (is_flag part ≡ true) × (bit b part ≡ Bit b part)
IsTermMade (Turn kind a c) = IsTermMade a × IsTermMade c × (kind < 4) × (is_byte a ≡ true) × (is_bit c ≡ true) × (turn kind a c ≡ Turn kind a c)
IsTermMade (Turned c) = IsTermMade c × (is_bit c ≡ true)
IsTermMade (Adjust a ac cy) = IsTermMade a × IsTermMade ac × IsTermMade cy × (is_byte a ≡ true) × (is_bit ac ≡ true) × (is_bit cy ≡ true) × (adjust a ac cy ≡ Adjust a ac cy)
IsTermMade (Code q high) = Unit {0}
IsTermMade Unknown = Unit {0}
