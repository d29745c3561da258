-- A term keeps its values when more is loaded.
use Rattle.std.proofs.Common.{◌≡◌, ℕ, ◌<◌, ◌+◌, ◌*◌, ◌/◌, ◌%◌, Bool, List, ◌++◌, Some, refl, sym, ◌∙◌}
use Rattle.std.specs.Prelude.{slice_get}
use Rattle.cells.specs.declared.Flags.{Flags}
use Rattle.cells.specs.declared.Part.{Part}
use Rattle.cells.specs.declared.Part.TheVariants.{A, B, C, D, E, H, L, S, Z, Ac, P, Cy}
use Rattle.cells.specs.Bits.{has_bit}
use Rattle.cells.specs.Conditions.{flags_of_byte}
use Rattle.i80.specs.declared.Op.{Op}
use Rattle.base.specs.Arithmetic.{as_bit, daa_excepted}
use Rattle.base.specs.Operations.{result_of, flags_of}
use Rattle.sym_terms.specs.Term.{Term, Num, Start, StartSp, Loaded8, Loaded16, Alu, Flag, Sum16, High, Low, Join, FlagByte, Bit, Turn, Turned, Adjust, Code, Unknown}
use Rattle.sym_terms.specs.Values80.{flag_in, turn_result, turn_flags}
use Rattle.sym_terms.specs.Values86.{Env86, Load86, LoadedByte, LoadedWord, Value86, Number, Result, number_by, result_by, MayBe, Adjusts, Val86, start86}
use Rattle.sym_terms.proofs.Places.{get_front}

-- more of a relation on each sort of value

number_more : (Q Q' : ℕ → Type 0) (v : Value86) → ((n : ℕ) → Q n → Q' n) → number_by Q v → number_by Q' v
number_more Q Q' (Number n) f p = f n p
number_more Q Q' (Result n g) f p = p

result_more : (Q Q' : ℕ → Flags → Type 0) (v : Value86) → ((n : ℕ) (g : Flags) → Q n g → Q' n g) → result_by Q v → result_by Q' v
result_more Q Q' (Number n) f p = (p.0, f n p.0 p.1)
result_more Q Q' (Result n g) f p = f n g p

-- the environment after more loads
abbrev pub with_more : Env86 → List Load86 → Env86
with_more e more = record e { loads = e.loads ++ more }

start_grows : (e : Env86) (more : List Load86) (part : Part) → start86 (with_more e more) part ≡ start86 e part
start_grows e more A = refl
start_grows e more B = refl
start_grows e more C = refl
start_grows e more D = refl
start_grows e more E = refl
start_grows e more H = refl
start_grows e more L = refl
start_grows e more S = refl
start_grows e more Z = refl
start_grows e more Ac = refl
start_grows e more P = refl
start_grows e more Cy = refl

-- what the operations say of their values

abbrev AluIs : Env86 → Op → Term → Term → Term → ℕ → Flags → Type 0
AluIs e op a b c n f =
    (x y : ℕ) × (k : Bool) × Val86 e a (Number x) × Val86 e b (Number y) × Val86 e c (Number (as_bit k))
    × (n ≡ result_of op x y (as_bit k)) × (f ≡ flags_of op x y (as_bit k))

abbrev FlagIs : Env86 → Part → Term → ℕ → Type 0
FlagIs e part r i = (n : ℕ) × (f : Flags) × Val86 e r (Result n f) × MayBe (flag_in f part) i

abbrev SumIs : Env86 → Term → Term → ℕ → Type 0
SumIs e a b i = (m n : ℕ) × (m < 0x10000) × (n < 0x10000) × Val86 e a (Number m) × Val86 e b (Number n) × (i ≡ (m + n) % 0x10000)

abbrev HighIs : Env86 → Term → ℕ → Type 0
HighIs e w i = (n : ℕ) × Val86 e w (Number n) × (i ≡ n / 256)

abbrev LowIs : Env86 → Term → ℕ → Type 0
LowIs e w i = (n : ℕ) × Val86 e w (Number n) × (i ≡ n % 256)

abbrev JoinIs : Env86 → Term → Term → ℕ → Type 0
JoinIs e h l i = (x y : ℕ) × (x < 256) × (y < 256) × Val86 e h (Number x) × Val86 e l (Number y) × (i ≡ 256 * x + y)

abbrev FlagByteIs : Env86 → Term → Term → Term → Term → Term → ℕ → Type 0
FlagByteIs e s z ac p cy i =
    (i < 256) × Val86 e s (Number (as_bit (has_bit i 7))) × Val86 e z (Number (as_bit (has_bit i 6))) × Val86 e ac (Number (as_bit (has_bit i 4)))
    × Val86 e p (Number (as_bit (has_bit i 2))) × Val86 e cy (Number (as_bit (has_bit i 0)))

abbrev BitIs : Env86 → Part → Term → ℕ → Type 0
BitIs e part b i = (n : ℕ) × (k : Bool) × Val86 e b (Number n) × (flag_in (flags_of_byte n) part ≡ Some k) × (i ≡ as_bit k)

abbrev TurnIs : Env86 → ℕ → Term → Term → ℕ → Flags → Type 0
TurnIs e kind a c n f =
    (x : ℕ) × (k : Bool) × Val86 e a (Number x) × Val86 e c (Number (as_bit k)) × (n ≡ turn_result kind x k) × (f ≡ turn_flags kind x)

abbrev TurnedIs : Env86 → Term → ℕ → Type 0
TurnedIs e c i = (i < 0x10000) × (k : Bool) × Val86 e c (Number (as_bit k)) × (i / 0x8000 ≡ as_bit k)

abbrev AdjustIs : Env86 → Term → Term → Term → ℕ → Flags → Type 0
AdjustIs e a ac cy n f =
    (x : ℕ) × (h k : Bool) × Val86 e a (Number x) × Val86 e ac (Number (as_bit h)) × Val86 e cy (Number (as_bit k))
    × Adjusts (daa_excepted x h k) x h k n f

pub value_grows : (e : Env86) (more : List Load86) (t : Term) (v : Value86) → Val86 e t v → Val86 (with_more e more) t v
value_grows e more (Num n) v p = p
value_grows e more (Start part) v p =
    number_more (λ i. i ≡ start86 e part) (λ i. i ≡ start86 (with_more e more) part) v (λ i q. q ∙ sym (start_grows e more part)) p
value_grows e more StartSp v p = p
value_grows e more (Loaded8 k) v p =
    number_more (λ i. slice_get e.loads k ≡ Some (LoadedByte i)) (λ i. slice_get (e.loads ++ more) k ≡ Some (LoadedByte i)) v
    (λ i q. get_front e.loads more (LoadedByte i) k q) p
value_grows e more (Loaded16 k) v p =
    number_more (λ i. slice_get e.loads k ≡ Some (LoadedWord i)) (λ i. slice_get (e.loads ++ more) k ≡ Some (LoadedWord i)) v
    (λ i q. get_front e.loads more (LoadedWord i) k q) p
value_grows e more (Alu op a b c) v p =
    result_more (AluIs e op a b c) (AluIs (with_more e more) op a b c) v
    (λ n g q. (q.0, q.1, q.2, value_grows e more a (Number q.0) q.3, value_grows e more b (Number q.1) q.4, value_grows e more c (Number (as_bit q.2)) q.5, q.6, q.7)) p
value_grows e more (Flag part r) v p =
    number_more (FlagIs e part r) (FlagIs (with_more e more) part r) v (λ i q. (q.0, q.1, value_grows e more r (Result q.0 q.1) q.2, q.3)) p
value_grows e more (Sum16 a b) v p =
    number_more (SumIs e a b) (SumIs (with_more e more) a b) v
    (λ i q. (q.0, q.1, q.2, q.3, value_grows e more a (Number q.0) q.4, value_grows e more b (Number q.1) q.5, q.6)) p
value_grows e more (High w) v p =
    number_more (HighIs e w) (HighIs (with_more e more) w) v (λ i q. (q.0, value_grows e more w (Number q.0) q.1, q.2)) p
value_grows e more (Low w) v p =
    number_more (LowIs e w) (LowIs (with_more e more) w) v (λ i q. (q.0, value_grows e more w (Number q.0) q.1, q.2)) p
value_grows e more (Join h l) v p =
    number_more (JoinIs e h l) (JoinIs (with_more e more) h l) v
    (λ i q. (q.0, q.1, q.2, q.3, value_grows e more h (Number q.0) q.4, value_grows e more l (Number q.1) q.5, q.6)) p
value_grows e more (FlagByte s z ac p cy) v q =
    number_more (FlagByteIs e s z ac p cy) (FlagByteIs (with_more e more) s z ac p cy) v
    (λ i r.
    (r.0, value_grows e more s (Number (as_bit (has_bit i 7))) r.1, value_grows e more z (Number (as_bit (has_bit i 6))) r.2, value_grows e more ac (Number (as_bit (has_bit i 4))) r.3, value_grows e more p (Number (as_bit (has_bit i 2))) r.4, value_grows e more cy (Number (as_bit (has_bit i 0))) r.5)) q
value_grows e more (Bit b part) v p =
    number_more (BitIs e part b) (BitIs (with_more e more) part b) v (λ i q. (q.0, q.1, value_grows e more b (Number q.0) q.2, q.3, q.4)) p
value_grows e more (Turn kind a c) v p =
    result_more (TurnIs e kind a c) (TurnIs (with_more e more) kind a c) v
    (λ n g q. (q.0, q.1, value_grows e more a (Number q.0) q.2, value_grows e more c (Number (as_bit q.1)) q.3, q.4, q.5)) p
value_grows e more (Turned c) v p =
    number_more (TurnedIs e c) (TurnedIs (with_more e more) c) v (λ i q. (q.0, q.1, value_grows e more c (Number (as_bit q.1)) q.2, q.3)) p
value_grows e more (Adjust a ac cy) v p =
    result_more (AdjustIs e a ac cy) (AdjustIs (with_more e more) a ac cy) v
    (λ n g q.
    (q.0, q.1, q.2, value_grows e more a (Number q.0) q.3, value_grows e more ac (Number (as_bit q.1)) q.4, value_grows e more cy (Number (as_bit q.2)) q.5, q.6)) p
value_grows e more (Code q high) v p = p
value_grows e more Unknown v p = tt
