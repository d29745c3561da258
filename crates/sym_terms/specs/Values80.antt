-- What a term stands for in a run of the 8080 over tagged values.
use Rattle.std.specs.Prelude.{◌≡◌, ◌<◌, ℕ, zero, suc, ◌+◌, ◌/◌, ◌%◌, Bool, false, cond, List, Option, Some, None, slice_get}
use Rattle.cells.specs.declared.Flags.{Flags}
use Rattle.cells.specs.declared.Cell.{Cell}
use Rattle.cells.specs.declared.Cell.TheVariants.{Num as NumCell, Lo, Hi, Psw}
use Rattle.cells.specs.declared.Part.{Part}
use Rattle.cells.specs.declared.Part.TheVariants.{A, B, C, D, E, H, L, S, Z, Ac, P, Cy}
use Rattle.cells.specs.Conditions.{unknown_flags}
use Rattle.base.specs.Arithmetic.{as_bit, turned_left, turned_right, bit7, bit0, daa_result, daa_carry, daa_excepted}
use Rattle.base.specs.Operations.{flags_by, result_of, flags_of, flags_in}
use Rattle.sym_terms.specs.Term.{Term, Num, Start, StartSp, Loaded8, Loaded16, Alu, Flag, Sum16, High, Low, Join, FlagByte, Bit, Turn, Turned, Adjust, Code, Unknown}

-- a byte is a cell, a word two cells, and a bit 0, 1 or unknown; an operation that leaves flags is a number with its five flags
pub data Value80 : Type 0 where
  Byte : (cell : Cell) → Value80
  Word : (high low : Cell) → Value80
  OneBit : (bit : Option Bool) → Value80
  Result : (number : ℕ) (flags : Flags) → Value80

pub data Load80 : Type 0 where
  LoadedByte : (cell : Cell) → Load80
  LoadedWord : (high low : Cell) → Load80

-- what stood in the parts and in SP at the start, and what was loaded so far, in order
pub record Env80 : Type 0 where
  pub a : Cell
  pub b : Cell
  pub c : Cell
  pub d : Cell
  pub e : Cell
  pub h : Cell
  pub l : Cell
  pub flags : Flags
  pub sp : ℕ
  pub loads : List Load80

-- one of five flags; a register is none of them
abbrev pub flag_in : Flags → Part → Option Bool
flag_in f S = f.s
flag_in f Z = f.z
flag_in f Ac = f.ac
flag_in f P = f.p
flag_in f Cy = f.cy
flag_in f part = None

-- a rotation of a byte: 0 is RLC, 1 RRC, 2 RAL, 3 RAR; the bit that goes out is its carry
abbrev pub turn_result : ℕ → ℕ → Bool → ℕ
turn_result zero x k = turned_left x (as_bit (bit7 x))
turn_result (suc zero) x k = turned_right x (as_bit (bit0 x))
turn_result (suc (suc zero)) x k = turned_left x (as_bit k)
turn_result (suc (suc (suc kind))) x k = turned_right x (as_bit k)

abbrev pub turn_carry : ℕ → ℕ → Bool
turn_carry zero x = bit7 x
turn_carry (suc zero) x = bit0 x
turn_carry (suc (suc zero)) x = bit7 x
turn_carry (suc (suc (suc kind))) x = bit0 x

-- its flags: it leaves the others alone
abbrev pub turn_flags : ℕ → ℕ → Flags
turn_flags kind x = record unknown_flags { cy = Some (turn_carry kind x) }

-- Of which values a sort is.

abbrev pub byte_by : (Cell → Type 0) → Value80 → Type 0
byte_by Q (Byte c) = Q c
byte_by Q (Word h l) = ⊥
byte_by Q (OneBit o) = ⊥
byte_by Q (Result n f) = ⊥

abbrev pub word_by : (Cell → Cell → Type 0) → Value80 → Type 0
word_by Q (Byte c) = ⊥
word_by Q (Word h l) = Q h l
word_by Q (OneBit o) = ⊥
word_by Q (Result n f) = ⊥

-- a bit; one that is known is used as a byte too, the number 0 or 1
abbrev pub bit_by : (Option Bool → Type 0) → Value80 → Type 0
bit_by Q (Byte c) = (b : Bool) × Q (Some b) × (c ≡ NumCell (as_bit b))
bit_by Q (Word h l) = ⊥
bit_by Q (OneBit o) = Q o
bit_by Q (Result n f) = ⊥

-- an operation: its number as a byte; where that is 0 or 1, as a bit; its number with its flags
abbrev pub result_by : (ℕ → Flags → Type 0) → Value80 → Type 0
result_by Q (Byte c) = (n : ℕ) × (f : Flags) × Q n f × (c ≡ NumCell n)
result_by Q (Word h l) = ⊥
result_by Q (OneBit o) = (b : Bool) × (f : Flags) × Q (as_bit b) f × (o ≡ Some b)
result_by Q (Result n f) = Q n f

-- a number, of each sort that it may be of
abbrev pub number80 : ℕ → Value80 → Type 0
number80 n (Byte c) = (n < 256) × (c ≡ NumCell n)
number80 n (Word h l) = (n < 0x10000) × (h ≡ NumCell (n / 256)) × (l ≡ NumCell (n % 256))
number80 n (OneBit o) = (b : Bool) × (n ≡ as_bit b) × (o ≡ Some b)
number80 n (Result m f) = ⊥

-- a word that is a number
abbrev pub word_of : ℕ → Value80
word_of n = Word (NumCell (n / 256)) (NumCell (n % 256))

abbrev pub start80 : Env80 → Part → Value80 → Type 0
start80 e A v = byte_by (λ x. x ≡ e.a) v
start80 e B v = byte_by (λ x. x ≡ e.b) v
start80 e C v = byte_by (λ x. x ≡ e.c) v
start80 e D v = byte_by (λ x. x ≡ e.d) v
start80 e E v = byte_by (λ x. x ≡ e.e) v
start80 e H v = byte_by (λ x. x ≡ e.h) v
start80 e L v = byte_by (λ x. x ≡ e.l) v
start80 e S v = bit_by (λ o. o ≡ e.flags.s) v
start80 e Z v = bit_by (λ o. o ≡ e.flags.z) v
start80 e Ac v = bit_by (λ o. o ≡ e.flags.ac) v
start80 e P v = bit_by (λ o. o ≡ e.flags.p) v
start80 e Cy v = bit_by (λ o. o ≡ e.flags.cy) v

-- The values of a term. An operation on what is no number, or by a flag that is not known, has none, and so has DAA where the two
-- processors may differ: there a program leaves the profile. Unknown stands for a flag that is not known, and for nothing else. No
-- instruction of the 8080 makes a Turned.
abbrev pub Val80 : Env80 → Term → Value80 → Type 0
Val80 e (Num n) v = number80 n v
Val80 e (Start part) v = start80 e part v
Val80 e StartSp v = word_by (λ x y. (x ≡ NumCell (e.sp / 256)) × (y ≡ NumCell (e.sp % 256))) v
Val80 e (Loaded8 k) v = byte_by (λ x. slice_get e.loads k ≡ Some (LoadedByte x)) v
Val80 e (Loaded16 k) v = word_by (λ x y. slice_get e.loads k ≡ Some (LoadedWord x y)) v
Val80 e (Alu op a b c) v =
    result_by
    (λ n f. (x y : ℕ) × (k : Bool) × Val80 e a (Byte (NumCell x)) × Val80 e b (Byte (NumCell y)) × Val80 e c (OneBit (Some k))
    × (n ≡ result_of op x y (as_bit k)) × (f ≡ flags_of op x y (as_bit k)))
    v
Val80 e (Flag part r) v = bit_by (λ o. (n : ℕ) × (f : Flags) × Val80 e r (Result n f) × (o ≡ flag_in f part)) v
Val80 e (Sum16 a b) v =
    word_by
    (λ x y. (m n : ℕ) × (m < 0x10000) × (n < 0x10000) × Val80 e a (word_of m) × Val80 e b (word_of n)
    × (x ≡ NumCell (((m + n) % 0x10000) / 256)) × (y ≡ NumCell (((m + n) % 0x10000) % 256)))
    v
Val80 e (High w) v = byte_by (λ x. (y : Cell) × Val80 e w (Word x y)) v
Val80 e (Low w) v = byte_by (λ y. (x : Cell) × Val80 e w (Word x y)) v
Val80 e (Join h l) v = word_by (λ x y. Val80 e h (Byte x) × Val80 e l (Byte y)) v
Val80 e (FlagByte s z ac p cy) v =
    byte_by
    (λ x. (f : Flags) × Val80 e s (OneBit f.s) × Val80 e z (OneBit f.z) × Val80 e ac (OneBit f.ac) × Val80 e p (OneBit f.p) × Val80 e cy (OneBit f.cy) × (x ≡ Psw f))
    v
Val80 e (Bit b part) v = bit_by (λ o. (x : Cell) × Val80 e b (Byte x) × (o ≡ flag_in (flags_in x) part)) v
Val80 e (Turn kind a c) v =
    result_by
    (λ n f. (x : ℕ) × (k : Bool) × Val80 e a (Byte (NumCell x)) × Val80 e c (OneBit (Some k)) × (n ≡ turn_result kind x k) × (f ≡ turn_flags kind x))
    v
Val80 e (Turned c) v = ⊥
Val80 e (Adjust a ac cy) v =
    result_by
    (λ n f. (x : ℕ) × (h k : Bool) × Val80 e a (Byte (NumCell x)) × Val80 e ac (OneBit (Some h)) × Val80 e cy (OneBit (Some k)) × (daa_excepted x h k ≡ false)
    × (n ≡ daa_result x h k) × (f ≡ flags_by (daa_result x h k) None (Some (daa_carry x h k))))
    v
Val80 e (Code q high) v = byte_by (λ x. x ≡ cond high (Hi q) (Lo q)) v
Val80 e Unknown v = bit_by (λ o. o ≡ None) v
