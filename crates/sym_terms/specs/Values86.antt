-- What a term stands for in a run of the 8086: numbers.
use Rattle.std.specs.Prelude.{◌≡◌, ◌<◌, ℕ, ◌+◌, ◌*◌, ◌/◌, ◌%◌, Bool, true, false, cond, List, Option, Some, None, slice_get}
use Rattle.cells.specs.declared.Place.{Place}
use Rattle.cells.specs.declared.Flags.{Flags}
use Rattle.cells.specs.declared.Part.{Part}
use Rattle.cells.specs.declared.Part.TheVariants.{A, B, C, D, E, H, L, S, Z, Ac, P, Cy}
use Rattle.cells.specs.Bits.{has_bit}
use Rattle.cells.specs.Conditions.{flags_of_byte}
use Rattle.base.specs.Arithmetic.{as_bit, daa_result, daa_carry, daa_excepted}
use Rattle.base.specs.Operations.{flags_by, result_of, flags_of}
use Rattle.sym_terms.specs.Term.{Term, Num, Start, StartSp, Loaded8, Loaded16, Alu, Flag, Sum16, High, Low, Join, FlagByte, Bit, Turn, Turned, Adjust, Code, Unknown}
use Rattle.sym_terms.specs.Values80.{flag_in, turn_result, turn_flags}

-- a number; an operation that leaves flags is a number with its flags, of which one that is not known may be either
pub data Value86 : Type 0 where
  Number : (number : ℕ) → Value86
  Result : (number : ℕ) (flags : Flags) → Value86

pub data Load86 : Type 0 where
  LoadedByte : (number : ℕ) → Load86
  LoadedWord : (number : ℕ) → Load86

-- what stood in the parts and in SP at the start, what was loaded so far, and the offset of each place that has a label
pub record Env86 : Type 0 where
  pub a : ℕ
  pub b : ℕ
  pub c : ℕ
  pub d : ℕ
  pub e : ℕ
  pub h : ℕ
  pub l : ℕ
  pub s : Bool
  pub z : Bool
  pub ac : Bool
  pub p : Bool
  pub cy : Bool
  pub sp : ℕ
  pub loads : List Load86
  pub offset : Place → Option ℕ

-- of which values a sort is: numbers alone, or an operation that leaves flags too
abbrev pub number_by : (ℕ → Type 0) → Value86 → Type 0
number_by Q (Number n) = Q n
number_by Q (Result n f) = ⊥

abbrev pub result_by : (ℕ → Flags → Type 0) → Value86 → Type 0
result_by Q (Number n) = (f : Flags) × Q n f
result_by Q (Result n f) = Q n f

-- a flag's bit: where it is not known, either
abbrev pub MayBe : Option Bool → ℕ → Type 0
MayBe None n = n < 2
MayBe (Some b) n = n ≡ as_bit b

abbrev pub start86 : Env86 → Part → ℕ
start86 e A = e.a
start86 e B = e.b
start86 e C = e.c
start86 e D = e.d
start86 e E = e.e
start86 e H = e.h
start86 e L = e.l
start86 e S = as_bit e.s
start86 e Z = as_bit e.z
start86 e Ac = as_bit e.ac
start86 e P = as_bit e.p
start86 e Cy = as_bit e.cy

-- a decimal adjustment: its number and its flags; any byte and any flags where the manual leaves them open
abbrev pub Adjusts : Bool → ℕ → Bool → Bool → ℕ → Flags → Type 0
Adjusts true x h k n f = n < 256
Adjusts false x h k n f = (n ≡ daa_result x h k) × (f ≡ flags_by (daa_result x h k) None (Some (daa_carry x h k)))

-- The values of a term. Unknown may have every value, and the bits of a FlagByte that are no flags, and of a Turned but the
-- uppermost, may be anything. A half of a code address has a value where its place has a label.
abbrev pub Val86 : Env86 → Term → Value86 → Type 0
Val86 e (Num n) v = number_by (λ i. i ≡ n) v
Val86 e (Start part) v = number_by (λ i. i ≡ start86 e part) v
Val86 e StartSp v = number_by (λ i. i ≡ e.sp) v
Val86 e (Loaded8 k) v = number_by (λ i. slice_get e.loads k ≡ Some (LoadedByte i)) v
Val86 e (Loaded16 k) v = number_by (λ i. slice_get e.loads k ≡ Some (LoadedWord i)) v
Val86 e (Alu op a b c) v =
    result_by
    (λ n f. (x y : ℕ) × (k : Bool) × Val86 e a (Number x) × Val86 e b (Number y) × Val86 e c (Number (as_bit k))
    × (n ≡ result_of op x y (as_bit k)) × (f ≡ flags_of op x y (as_bit k)))
    v
Val86 e (Flag part r) v = number_by (λ i. (n : ℕ) × (f : Flags) × Val86 e r (Result n f) × MayBe (flag_in f part) i) v
Val86 e (Sum16 a b) v =
    number_by
    (λ i. (m n : ℕ) × (m < 0x10000) × (n < 0x10000) × Val86 e a (Number m) × Val86 e b (Number n) × (i ≡ (m + n) % 0x10000))
    v
Val86 e (High w) v = number_by (λ i. (n : ℕ) × Val86 e w (Number n) × (i ≡ n / 256)) v
Val86 e (Low w) v = number_by (λ i. (n : ℕ) × Val86 e w (Number n) × (i ≡ n % 256)) v
Val86 e (Join h l) v =
    number_by (λ i. (x y : ℕ) × (x < 256) × (y < 256) × Val86 e h (Number x) × Val86 e l (Number y) × (i ≡ 256 * x + y)) v
Val86 e (FlagByte s z ac p cy) v =
    number_by
    (λ i. (i < 256) × Val86 e s (Number (as_bit (has_bit i 7))) × Val86 e z (Number (as_bit (has_bit i 6))) × Val86 e ac (Number (as_bit (has_bit i 4)))
    × Val86 e p (Number (as_bit (has_bit i 2))) × Val86 e cy (Number (as_bit (has_bit i 0))))
    v
Val86 e (Bit b part) v =
    number_by (λ i. (n : ℕ) × (k : Bool) × Val86 e b (Number n) × (flag_in (flags_of_byte n) part ≡ Some k) × (i ≡ as_bit k)) v
Val86 e (Turn kind a c) v =
    result_by
    (λ n f. (x : ℕ) × (k : Bool) × Val86 e a (Number x) × Val86 e c (Number (as_bit k)) × (n ≡ turn_result kind x k) × (f ≡ turn_flags kind x))
    v
Val86 e (Turned c) v = number_by (λ i. (i < 0x10000) × (k : Bool) × Val86 e c (Number (as_bit k)) × (i / 0x8000 ≡ as_bit k)) v
Val86 e (Adjust a ac cy) v =
    result_by
    (λ n f. (x : ℕ) × (h k : Bool) × Val86 e a (Number x) × Val86 e ac (Number (as_bit h)) × Val86 e cy (Number (as_bit k))
    × Adjusts (daa_excepted x h k) x h k n f)
    v
Val86 e (Code q high) v = number_by (λ i. (n : ℕ) × (e.offset q ≡ Some n) × (i ≡ cond high (n / 256) (n % 256))) v
Val86 e Unknown v = Unit {0}
