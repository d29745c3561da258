-- A term keeps its values when more is loaded.
use Rattle.std.proofs.Common.{◌≡◌, ℕ, ◌<◌, ◌+◌, ◌/◌, ◌%◌, Bool, false, List, ◌++◌, Option, Some, None}
use Rattle.std.specs.Prelude.{slice_get}
use Rattle.cells.specs.declared.Flags.{Flags}
use Rattle.cells.specs.declared.Cell.{Cell}
use Rattle.cells.specs.declared.Cell.TheVariants.{Num as NumCell, Psw}
use Rattle.cells.specs.declared.Part.{Part}
use Rattle.cells.specs.declared.Part.TheVariants.{A, B, C, D, E, H, L, S, Z, Ac, P, Cy}
use Rattle.i80.specs.declared.Op.{Op}
use Rattle.base.specs.Arithmetic.{as_bit, daa_result, daa_carry, daa_excepted}
use Rattle.base.specs.Operations.{flags_by, result_of, flags_of, flags_in}
use Rattle.sym_terms.specs.Term.{Term, Num, Start, StartSp, Loaded8, Loaded16, Alu, Flag, Sum16, High, Low, Join, FlagByte, Bit, Turn, Turned, Adjust, Code, Unknown}
use Rattle.sym_terms.specs.Values80.{Env80, Load80, LoadedByte, LoadedWord, Value80, Byte, Word, OneBit, Result, byte_by, word_by, bit_by, result_by, word_of, Val80, start80, flag_in, turn_result, turn_flags}
use Rattle.sym_terms.proofs.Places.{get_front}

-- more of a relation on each sort of value

byte_more : (Q Q' : Cell → Type 0) (v : Value80) → ((c : Cell) → Q c → Q' c) → byte_by Q v → byte_by Q' v
byte_more Q Q' (Byte c) f p = f c p
byte_more Q Q' (Word h l) f p = p
byte_more Q Q' (OneBit o) f p = p
byte_more Q Q' (Result n g) f p = p

word_more : (Q Q' : Cell → Cell → Type 0) (v : Value80) → ((h l : Cell) → Q h l → Q' h l) → word_by Q v → word_by Q' v
word_more Q Q' (Byte c) f p = p
word_more Q Q' (Word h l) f p = f h l p
word_more Q Q' (OneBit o) f p = p
word_more Q Q' (Result n g) f p = p

bit_more : (Q Q' : Option Bool → Type 0) (v : Value80) → ((o : Option Bool) → Q o → Q' o) → bit_by Q v → bit_by Q' v
bit_more Q Q' (Byte c) f p = (p.0, f (Some p.0) p.1, p.2)
bit_more Q Q' (Word h l) f p = p
bit_more Q Q' (OneBit o) f p = f o p
bit_more Q Q' (Result n g) f p = p

result_more : (Q Q' : ℕ → Flags → Type 0) (v : Value80) → ((n : ℕ) (g : Flags) → Q n g → Q' n g) → result_by Q v → result_by Q' v
result_more Q Q' (Byte c) f p = (p.0, p.1, f p.0 p.1 p.2, p.3)
result_more Q Q' (Word h l) f p = p
result_more Q Q' (OneBit o) f p = (p.0, p.1, f _ p.1 p.2, p.3)
result_more Q Q' (Result n g) f p = f n g p

-- the environment after more loads
abbrev pub with_more : Env80 → List Load80 → Env80
with_more e more = record e { loads = e.loads ++ more }

start_grows : (e : Env80) (more : List Load80) (part : Part) (v : Value80) → start80 e part v → start80 (with_more e more) part v
start_grows e more A v p = p
start_grows e more B v p = p
start_grows e more C v p = p
start_grows e more D v p = p
start_grows e more E v p = p
start_grows e more H v p = p
start_grows e more L v p = p
start_grows e more S v p = p
start_grows e more Z v p = p
start_grows e more Ac v p = p
start_grows e more P v p = p
start_grows e more Cy v p = p

-- what the operations say of their values

abbrev AluIs : Env80 → Op → Term → Term → Term → ℕ → Flags → Type 0
AluIs e op a b c n f =
    (x y : ℕ) × (k : Bool) × Val80 e a (Byte (NumCell x)) × Val80 e b (Byte (NumCell y)) × Val80 e c (OneBit (Some k))
    × (n ≡ result_of op x y (as_bit k)) × (f ≡ flags_of op x y (as_bit k))

abbrev FlagIs : Env80 → Part → Term → Option Bool → Type 0
FlagIs e part r o = (n : ℕ) × (f : Flags) × Val80 e r (Result n f) × (o ≡ flag_in f part)

abbrev SumIs : Env80 → Term → Term → Cell → Cell → Type 0
SumIs e a b x y =
    (m n : ℕ) × (m < 0x10000) × (n < 0x10000) × Val80 e a (word_of m) × Val80 e b (word_of n)
    × (x ≡ NumCell (((m + n) % 0x10000) / 256)) × (y ≡ NumCell (((m + n) % 0x10000) % 256))

abbrev HighIs : Env80 → Term → Cell → Type 0
HighIs e w x = (y : Cell) × Val80 e w (Word x y)

abbrev LowIs : Env80 → Term → Cell → Type 0
LowIs e w y = (x : Cell) × Val80 e w (Word x y)

abbrev JoinIs : Env80 → Term → Term → Cell → Cell → Type 0
JoinIs e h l x y = Val80 e h (Byte x) × Val80 e l (Byte y)

abbrev FlagByteIs : Env80 → Term → Term → Term → Term → Term → Cell → Type 0
FlagByteIs e s z ac p cy x =
    (f : Flags) × Val80 e s (OneBit f.s) × Val80 e z (OneBit f.z) × Val80 e ac (OneBit f.ac) × Val80 e p (OneBit f.p) × Val80 e cy (OneBit f.cy) × (x ≡ Psw f)

abbrev BitIs : Env80 → Part → Term → Option Bool → Type 0
BitIs e part b o = (x : Cell) × Val80 e b (Byte x) × (o ≡ flag_in (flags_in x) part)

abbrev TurnIs : Env80 → ℕ → Term → Term → ℕ → Flags → Type 0
TurnIs e kind a c n f =
    (x : ℕ) × (k : Bool) × Val80 e a (Byte (NumCell x)) × Val80 e c (OneBit (Some k)) × (n ≡ turn_result kind x k) × (f ≡ turn_flags kind x)

abbrev AdjustIs : Env80 → Term → Term → Term → ℕ → Flags → Type 0
AdjustIs e a ac cy n f =
    (x : ℕ) × (h k : Bool) × Val80 e a (Byte (NumCell x)) × Val80 e ac (OneBit (Some h)) × Val80 e cy (OneBit (Some k)) × (daa_excepted x h k ≡ false)
    × (n ≡ daa_result x h k) × (f ≡ flags_by (daa_result x h k) None (Some (daa_carry x h k)))

pub value_grows : (e : Env80) (more : List Load80) (t : Term) (v : Value80) → Val80 e t v → Val80 (with_more e more) t v
value_grows e more (Num n) v p = p
value_grows e more (Start part) v p = start_grows e more part v p
value_grows e more StartSp v p = p
value_grows e more (Loaded8 k) v p =
    byte_more (λ x. slice_get e.loads k ≡ Some (LoadedByte x)) (λ x. slice_get (e.loads ++ more) k ≡ Some (LoadedByte x)) v
    (λ c q. get_front e.loads more (LoadedByte c) k q) p
value_grows e more (Loaded16 k) v p =
    word_more (λ x y. slice_get e.loads k ≡ Some (LoadedWord x y)) (λ x y. slice_get (e.loads ++ more) k ≡ Some (LoadedWord x y)) v
    (λ h l q. get_front e.loads more (LoadedWord h l) k q) p
value_grows e more (Alu op a b c) v p =
    result_more (AluIs e op a b c) (AluIs (with_more e more) op a b c) v
    (λ n g q. (q.0, q.1, q.2, value_grows e more a (Byte (NumCell q.0)) q.3, value_grows e more b (Byte (NumCell q.1)) q.4, value_grows e more c (OneBit (Some q.2)) q.5, q.6, q.7)) p
value_grows e more (Flag part r) v p =
    bit_more (FlagIs e part r) (FlagIs (with_more e more) part r) v
    (λ o q. (q.0, q.1, value_grows e more r (Result q.0 q.1) q.2, q.3)) p
value_grows e more (Sum16 a b) v p =
    word_more (SumIs e a b) (SumIs (with_more e more) a b) v
    (λ h l q. (q.0, q.1, q.2, q.3, value_grows e more a (word_of q.0) q.4, value_grows e more b (word_of q.1) q.5, q.6, q.7)) p
value_grows e more (High w) v p =
    byte_more (HighIs e w) (HighIs (with_more e more) w) v (λ c q. (q.0, value_grows e more w (Word c q.0) q.1)) p
value_grows e more (Low w) v p =
    byte_more (LowIs e w) (LowIs (with_more e more) w) v (λ c q. (q.0, value_grows e more w (Word q.0 c) q.1)) p
value_grows e more (Join h l) v p =
    word_more (JoinIs e h l) (JoinIs (with_more e more) h l) v
    (λ x y q. (value_grows e more h (Byte x) q.0, value_grows e more l (Byte y) q.1)) p
value_grows e more (FlagByte s z ac p cy) v q =
    byte_more (FlagByteIs e s z ac p cy) (FlagByteIs (with_more e more) s z ac p cy) v
    (λ c r.
    let f = r.0 in
    (f, value_grows e more s (OneBit f.s) r.1, value_grows e more z (OneBit f.z) r.2, value_grows e more ac (OneBit f.ac) r.3, value_grows e more p (OneBit f.p) r.4, value_grows e more cy (OneBit f.cy) r.5, r.6)) q
value_grows e more (Bit b part) v p =
    bit_more (BitIs e part b) (BitIs (with_more e more) part b) v (λ o q. (q.0, value_grows e more b (Byte q.0) q.1, q.2)) p
value_grows e more (Turn kind a c) v p =
    result_more (TurnIs e kind a c) (TurnIs (with_more e more) kind a c) v
    (λ n g q. (q.0, q.1, value_grows e more a (Byte (NumCell q.0)) q.2, value_grows e more c (OneBit (Some q.1)) q.3, q.4, q.5)) p
value_grows e more (Turned c) v p = p
value_grows e more (Adjust a ac cy) v p =
    result_more (AdjustIs e a ac cy) (AdjustIs (with_more e more) a ac cy) v
    (λ n g q.
    (q.0, q.1, q.2, value_grows e more a (Byte (NumCell q.0)) q.3, value_grows e more ac (OneBit (Some q.1)) q.4, value_grows e more cy (OneBit (Some q.2)) q.5, q.6, q.7, q.8)) p
value_grows e more (Code q high) v p = p
value_grows e more Unknown v p = p
