-- On the 8086's side a made term in which nothing open and no Adjust stands has at most one value of each kind.
use Rattle.std.proofs.Common.{◌≡◌, ℕ, ◌+◌, ◌*◌, ◌/◌, ◌%◌, ◌||◌, Bool, true, false, cond, Option, Some, refl, sym, ap, ap₂, subst, ◌∙◌, arith}
use Rattle.std.proofs.lemmas.Bool.{or_parts, true≢false, false≢true}
use Rattle.std.proofs.lemmas.Option.{same_Some}
use Rattle.cells.specs.declared.Flags.{Flags}
use Rattle.cells.specs.declared.Part.{Part}
use Rattle.cells.specs.declared.Part.TheVariants.{S, Z, Ac, P, Cy}
use Rattle.cells.specs.Conditions.{flags_of_byte}
use Rattle.i80.specs.declared.Op.{Op}
use Rattle.i80.specs.declared.Op.TheVariants.{Add, Adc, Sub, Sbb, Ana, Xra, Ora, Cmp}
use Rattle.base.specs.Arithmetic.{as_bit}
use Rattle.base.specs.Operations.{flags_by, result_of, flags_of}
use Rattle.sym_terms.specs.Term.{Term, Num, Start, StartSp, Loaded8, Loaded16, Alu, Flag, Sum16, High, Low, Join, FlagByte, Bit, Turn, Turned, Adjust, Code, Unknown, is_open, is_adjusted, leaves_flag, is_flag}
use Rattle.sym_terms.specs.Making.{IsTermMade, flag, is_addition}
use Rattle.sym_terms.specs.Values80.{flag_in, turn_result, turn_flags, turn_carry}
use Rattle.sym_terms.specs.Values86.{Number, Result, Env86, LoadedByte, LoadedWord, Val86, number_by, result_by, MayBe}
use Rattle.sym_terms.specs.Laws.{OneValue86}
use Rattle.sym_terms.proofs.One80.{alu_same, turn_same}

one_number : (Q : ℕ → Type 0) → ((i j : ℕ) → Q i → Q j → i ≡ j) → OneValue86 (number_by Q)
one_number Q same = record { number = same; result = λ m n f g p q. absurd p }

one_result : (Q : ℕ → Flags → Type 0) → ((m n : ℕ) (f g : Flags) → Q m f → Q n g → (m ≡ n) × (f ≡ g)) → OneValue86 (result_by Q)
one_result Q same = record { number = λ m n p q. (same m n p.0 q.0 p.1 q.1).0; result = same }

bit_same : (b b' : Bool) → as_bit b ≡ as_bit b' → b ≡ b'
bit_same true true e = refl
bit_same false false e = refl
bit_same true false e = absurd (omega arith)
bit_same false true e = absurd (omega arith)

-- A flag that a made Flag asks for is known.

abbrev known_at : Flags → Part → Type 0
known_at f part = (b : Bool) × (flag_in f part ≡ Some b)

-- the flags of an operation are those of some result, with a carry that is known
flags_parts : (op : Op) (x y k : ℕ) → (v : ℕ) × (ac : Option Bool) × (cy : Bool) × (flags_of op x y k ≡ flags_by v ac (Some cy))
flags_parts Add x y k = (_, _, _, refl)
flags_parts Adc x y k = (_, _, _, refl)
flags_parts Sub x y k = (_, _, _, refl)
flags_parts Sbb x y k = (_, _, _, refl)
flags_parts Ana x y k = (_, _, _, refl)
flags_parts Xra x y k = (_, _, _, refl)
flags_parts Ora x y k = (_, _, _, refl)
flags_parts Cmp x y k = (_, _, _, refl)

by_parts_known : (part : Part) (v : ℕ) (ac : Option Bool) (cy : Bool) (f : Flags) → is_flag part ≡ true → (part ≡ Ac → ⊥) → f ≡ flags_by v ac (Some cy) → known_at f part
by_parts_known S v ac cy f h a e = (_, ap (λ g. flag_in g S) e)
by_parts_known Z v ac cy f h a e = (_, ap (λ g. flag_in g Z) e)
by_parts_known Ac v ac cy f h a e = absurd (a refl)
by_parts_known P v ac cy f h a e = (_, ap (λ g. flag_in g P) e)
by_parts_known Cy v ac cy f h a e = (_, ap (λ g. flag_in g Cy) e)
by_parts_known part v ac cy f h a e = absurd (false≢true h)

addition_known : (op : Op) (x y k : ℕ) → is_addition op ≡ true → known_at (flags_of op x y k) Ac
addition_known Add x y k h = (_, refl)
addition_known Adc x y k h = (_, refl)
addition_known op x y k h = absurd (false≢true h)

abbrev is_half_carry : Part → Bool
is_half_carry Ac = true
is_half_carry part = false

-- AC is asked for after an addition alone
asks_addition : (x y : Bool) (r : Term) → cond x Unknown (cond y (Flag Ac r) Unknown) ≡ Flag Ac r → y ≡ true
asks_addition true y r e = absurd (cc)
asks_addition false true r e = refl
asks_addition false false r e = absurd (cc)

flag_known : (e : Env86) (part : Part) (r : Term) (n : ℕ) (f : Flags) → leaves_flag part r ≡ true → flag part r ≡ Flag part r → Val86 e r (Result n f) → is_adjusted r ≡ false → known_at f part
flag_known e part (Alu op a b c) n f h m v u = by_part part h m
  where
    other : (part : Part) → is_flag part ≡ true → (part ≡ Ac → ⊥) → known_at f part
    other part h d = let parts = flags_parts op v.0 v.1 (as_bit v.2) in by_parts_known part parts.0 parts.1 parts.2 f h d (v.7 ∙ parts.3)

    by_part : (part : Part) → is_flag part ≡ true → flag part (Alu op a b c) ≡ Flag part (Alu op a b c) → known_at f part
    by_part Ac h m =
        let k = addition_known op v.0 v.1 (as_bit v.2) (asks_addition (is_open a || (is_open b || is_open c)) (is_addition op) (Alu op a b c) m) in
        (k.0, ap (λ g. flag_in g Ac) v.7 ∙ k.1)
    by_part part h m = other part h (λ q. false≢true (ap is_half_carry q))
flag_known e part (Turn kind a c) n f h m v u = by_part part h
  where
    by_part : (part : Part) → leaves_flag part (Turn kind a c) ≡ true → known_at f part
    by_part Cy h = (turn_carry kind v.0, ap (λ g. flag_in g Cy) v.5)
    by_part part h = absurd (false≢true h)
flag_known e part (Adjust a ac cy) n f h m v d = absurd (true≢false d)
flag_known e part Unknown n f h m v d = absurd (cc)
flag_known e part r n f h m v d = absurd (false≢true h)

known_bit : (o : Option Bool) (b : Bool) (i : ℕ) → o ≡ Some b → MayBe o i → i ≡ as_bit b
known_bit o b i e m = let Q : Option Bool → Type 0 = λ w. MayBe w i in subst Q e m

flag_same : (part : Part) (f g : Flags) (i j : ℕ) → known_at f part → f ≡ g → MayBe (flag_in f part) i → MayBe (flag_in g part) j → i ≡ j
flag_same part f g i j k e p q =
    known_bit (flag_in f part) k.0 i k.1 p ∙ sym (known_bit (flag_in g part) k.0 j (ap (λ h. flag_in h part) (sym e) ∙ k.1) q)

pub one86 : (e : Env86) (t : Term) → IsTermMade t → is_open t ≡ false → is_adjusted t ≡ false → OneValue86 (Val86 e t)
one86 e (Num n) m o u = one_number _ (λ i j p q. p ∙ sym q)
one86 e (Start part) m o u = one_number _ (λ i j p q. p ∙ sym q)
one86 e StartSp m o u = one_number _ (λ i j p q. p ∙ sym q)
one86 e (Loaded8 k) m o u = one_number _ (λ i j p q. let both : Some (LoadedByte i) ≡ Some (LoadedByte j) = sym p ∙ q in cc)
one86 e (Loaded16 k) m o u = one_number _ (λ i j p q. let both : Some (LoadedWord i) ≡ Some (LoadedWord j) = sym p ∙ q in cc)
one86 e (Alu op a b c) m o u =
    let rest : (is_open b || is_open c) ≡ false = (or_parts (is_open a) (is_open b || is_open c) o).1 in
    let rest_u : (is_adjusted b || is_adjusted c) ≡ false = (or_parts (is_adjusted a) (is_adjusted b || is_adjusted c) u).1 in
    one_result
    (λ n f. (x y : ℕ) × (k : Bool) × Val86 e a (Number x) × Val86 e b (Number y) × Val86 e c (Number (as_bit k))
    × (n ≡ result_of op x y (as_bit k)) × (f ≡ flags_of op x y (as_bit k)))
    (λ n n' f f' p q.
    alu_same op p.0 p.1 q.0 q.1 p.2 q.2 n n' f f'
    ((one86 e a m.0 (or_parts (is_open a) (is_open b || is_open c) o).0 (or_parts (is_adjusted a) (is_adjusted b || is_adjusted c) u).0).number p.0 q.0 p.3 q.3)
    ((one86 e b m.1 (or_parts (is_open b) (is_open c) rest).0 (or_parts (is_adjusted b) (is_adjusted c) rest_u).0).number p.1 q.1 p.4 q.4)
    (bit_same p.2 q.2 ((one86 e c m.2 (or_parts (is_open b) (is_open c) rest).1 (or_parts (is_adjusted b) (is_adjusted c) rest_u).1).number (as_bit p.2) (as_bit q.2) p.5 q.5))
    p.6 q.6 p.7 q.7)
one86 e (Flag part r) m o u =
    one_number _
    (λ i j p q.
    let both = (one86 e r m.0 o u).result p.0 q.0 p.1 q.1 p.2 q.2 in
    flag_same part p.1 q.1 i j (flag_known e part r p.0 p.1 m.1 m.2 p.2 u) both.1 p.3 q.3)
one86 e (Sum16 a b) m o u =
    one_number _
    (λ i j p q.
    let first : p.0 ≡ q.0 = (one86 e a m.0 (or_parts (is_open a) (is_open b) o).0 (or_parts (is_adjusted a) (is_adjusted b) u).0).number p.0 q.0 p.4 q.4 in
    let second : p.1 ≡ q.1 = (one86 e b m.1 (or_parts (is_open a) (is_open b) o).1 (or_parts (is_adjusted a) (is_adjusted b) u).1).number p.1 q.1 p.5 q.5 in
    p.6 ∙ ap₂ (λ m n. (m + n) % 0x10000) first second ∙ sym q.6)
one86 e (High w) m o u = one_number _ (λ i j p q. p.2 ∙ ap (λ n. n / 256) ((one86 e w m.0 o u).number p.0 q.0 p.1 q.1) ∙ sym q.2)
one86 e (Low w) m o u = one_number _ (λ i j p q. p.2 ∙ ap (λ n. n % 256) ((one86 e w m.0 o u).number p.0 q.0 p.1 q.1) ∙ sym q.2)
one86 e (Join h l) m o u =
    one_number _
    (λ i j p q.
    let first : p.0 ≡ q.0 = (one86 e h m.0 (or_parts (is_open h) (is_open l) o).0 (or_parts (is_adjusted h) (is_adjusted l) u).0).number p.0 q.0 p.4 q.4 in
    let second : p.1 ≡ q.1 = (one86 e l m.1 (or_parts (is_open h) (is_open l) o).1 (or_parts (is_adjusted h) (is_adjusted l) u).1).number p.1 q.1 p.5 q.5 in
    p.6 ∙ ap₂ (λ x y. 256 * x + y) first second ∙ sym q.6)
one86 e (FlagByte s z ac p cy) m o u = absurd (true≢false o)
one86 e (Bit b part) m o u =
    one_number _
    (λ i j p q.
    let same : p.0 ≡ q.0 = (one86 e b m.0 o u).number p.0 q.0 p.2 q.2 in
    let known : Some p.1 ≡ Some q.1 = sym p.3 ∙ ap (λ n. flag_in (flags_of_byte n) part) same ∙ q.3 in
    let bits : p.1 ≡ q.1 = same_Some p.1 q.1 known in
    p.4 ∙ ap as_bit bits ∙ sym q.4)
one86 e (Turn kind a c) m o u =
    one_result
    (λ n f. (x : ℕ) × (k : Bool) × Val86 e a (Number x) × Val86 e c (Number (as_bit k)) × (n ≡ turn_result kind x k) × (f ≡ turn_flags kind x))
    (λ n n' f f' p q.
    turn_same kind p.0 q.0 p.1 q.1 n n' f f'
    ((one86 e a m.0 (or_parts (is_open a) (is_open c) o).0 (or_parts (is_adjusted a) (is_adjusted c) u).0).number p.0 q.0 p.2 q.2)
    (bit_same p.1 q.1 ((one86 e c m.1 (or_parts (is_open a) (is_open c) o).1 (or_parts (is_adjusted a) (is_adjusted c) u).1).number (as_bit p.1) (as_bit q.1) p.3 q.3))
    p.4 q.4 p.5 q.5)
one86 e (Turned c) m o u = absurd (true≢false o)
one86 e (Adjust a ac cy) m o u = absurd (true≢false u)
one86 e (Code q high) m o u =
    one_number _
    (λ i j p p'.
    let both : Some p.0 ≡ Some p'.0 = sym p.1 ∙ p'.1 in
    let same : p.0 ≡ p'.0 = same_Some p.0 p'.0 both in
    p.2 ∙ ap (λ n. cond high (n / 256) (n % 256)) same ∙ sym p'.2)
one86 e Unknown m o u = absurd (true≢false o)
