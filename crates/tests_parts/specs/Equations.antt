-- Each equation by which terms are made, and beside it terms to which it does not apply.
use Rattle.std.specs.Prelude.{◌≡◌}
use Rattle.cells.specs.declared.Part.TheVariants.{A, B, C, S, Z, Ac, P, Cy}
use Rattle.i80.specs.declared.Op.TheVariants.{Add, Adc, Sub, Ana, Xra, Ora}
use Rattle.sym_terms.specs.Term.{Term, Num, Start, StartSp, Alu, Flag, Sum16, High, Low, Join, FlagByte, Adjust, Turned, Unknown}
use Rattle.sym_terms.specs.Making.{alu, flag, sum16, high, low, join, bit, turn, turn_or_turned, adjust}

-- the high and the low byte of a number, and the number of two bytes
pub record OfNumbers : Type 0 where
  pub high_byte : high (Num 0x1234) ≡ Num 0x12
  pub low_byte : low (Num 0x1234) ≡ Num 0x34
  pub number : join (Num 0x12) (Num 0x34) ≡ Num 0x1234

-- a word that an adjustment stands in
abbrev pub adjusted : Term
adjusted = Sum16 StartSp (Join (Num 0) (Adjust (Num 0) (Num 0) (Num 0)))

-- the halves of one word are joined to it, those that are exchanged are not, nor those of a word that an adjustment stands in; the
-- halves of two bytes are these
pub record OfHalves : Type 0 where
  pub joined : join (high StartSp) (low StartSp) ≡ StartSp
  pub exchanged : join (low StartSp) (high StartSp) ≡ Join (Low StartSp) (High StartSp)
  pub made : sum16 StartSp (join (Num 0) (adjust (Num 0) (Num 0) (Num 0))) ≡ adjusted
  pub parted : join (high adjusted) (low adjusted) ≡ Join (High adjusted) (Low adjusted)
  pub first : high (join (Start B) (Start C)) ≡ Start B
  pub second : low (join (Start B) (Start C)) ≡ Start C

-- each bit of a byte of flags is that flag
pub record OfFlagBytes : Type 0 where
  pub sign : (s z ac p cy : Term) → bit (FlagByte s z ac p cy) S ≡ s
  pub zero_flag : (s z ac p cy : Term) → bit (FlagByte s z ac p cy) Z ≡ z
  pub half_carry : (s z ac p cy : Term) → bit (FlagByte s z ac p cy) Ac ≡ ac
  pub parity : (s z ac p cy : Term) → bit (FlagByte s z ac p cy) P ≡ p
  pub carry : (s z ac p cy : Term) → bit (FlagByte s z ac p cy) Cy ≡ cy

-- numbers that are added to a word are gathered, modulo 65,536, and a sum with 0 is the word itself
pub record OfSums : Type 0 where
  pub one : sum16 StartSp (Num 1) ≡ Sum16 StartSp (Num 1)
  pub gathered : sum16 (sum16 StartSp (Num 1)) (Num 1) ≡ Sum16 StartSp (Num 2)
  pub nothing : sum16 StartSp (Num 0) ≡ StartSp
  pub back : sum16 (sum16 StartSp (Num 1)) (Num 0xFFFF) ≡ StartSp

-- CY of a logic operation is 0, and of an addition a term of its own; AC of an addition is one too, and of no other operation known
pub record OfFlags : Type 0 where
  pub of_and : flag Cy (alu Ana (Start A) (Start B) (Num 0)) ≡ Num 0
  pub of_exclusive : flag Cy (alu Xra (Start A) (Start A) (Num 0)) ≡ Num 0
  pub of_inclusive : flag Cy (alu Ora (Start A) (Start A) (Num 0)) ≡ Num 0
  pub of_sum : flag Cy (alu Adc (Start A) (Start A) (Num 0)) ≡ Flag Cy (Alu Adc (Start A) (Start A) (Num 0))
  pub sign : flag S (alu Ana (Start A) (Start B) (Num 0)) ≡ Flag S (Alu Ana (Start A) (Start B) (Num 0))
  pub half : flag Ac (alu Add (Start A) (Start A) (Num 0)) ≡ Flag Ac (Alu Add (Start A) (Start A) (Num 0))
  pub half_of_difference : flag Ac (alu Sub (Start A) (Start A) (Num 0)) ≡ Unknown
  pub half_of_and : flag Ac (alu Ana (Start A) (Start B) (Num 0)) ≡ Unknown

-- an operation on what is not known is not known, and nor are its halves and bits, the halves of a word that was rotated, and a sum
-- with it
pub record OfUnknowns : Type 0 where
  pub operation : alu Add (Start A) (Start A) Unknown ≡ Unknown
  pub a_bit : bit Unknown Z ≡ Unknown
  pub half : high Unknown ≡ Unknown
  pub rotation : turn 2 (Start A) Unknown ≡ Unknown
  pub adjustment : adjust Unknown Unknown Unknown ≡ Unknown
  pub rotated : turn_or_turned 4 (Start Cy) (Start Cy) ≡ Turned (Start Cy)
  pub half_of_rotated : low (Turned (Start Cy)) ≡ Unknown
  pub sum_with_rotated : sum16 (Turned (Start Cy)) (Turned (Start Cy)) ≡ Unknown

pub record EquationsHold : Type 0 where
  pub numbers : OfNumbers
  pub halves : OfHalves
  pub flag_bytes : OfFlagBytes
  pub sums : OfSums
  pub flags : OfFlags
  pub unknowns : OfUnknowns
