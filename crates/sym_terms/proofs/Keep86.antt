-- On the 8086's side each value that an operation may have is one that the made term may have.
use Rattle.std.proofs.lemmas.Bool.{and_parts, false≢true}
use Rattle.std.proofs.lemmas.Option.{same_Some}
use Rattle.std.specs.Prelude.{◌&&◌, not}
use Rattle.std.proofs.Common.{◌≡◌, ℕ, zero, suc, ◌+◌, ◌*◌, ◌/◌, ◌%◌, ◌<◌, ◌||◌, Bool, true, false, cond, Some, refl, sym, ap, ap₂, subst, ◌∙◌, arith}
use Rattle.cells.specs.declared.Flags.{Flags}
use Rattle.cells.specs.declared.Part.{Part}
use Rattle.cells.specs.declared.Part.TheVariants.{S, Z, Ac, P, Cy}
use Rattle.cells.specs.Bits.{has_bit}
use Rattle.i80.specs.declared.Op.{Op}
use Rattle.i80.specs.declared.Op.TheVariants.{Ana, Xra, Ora}
use Rattle.base.specs.Arithmetic.{as_bit}
use Rattle.base.specs.Operations.{flags_of}
use Rattle.sym_terms.specs.Term.{Term, Num, Alu, Flag, Sum16, High, Low, Join, FlagByte, Bit, Turn, Turned, Adjust, Unknown, is_open, is_byte, is_adjusted, same_term}
use Rattle.sym_terms.specs.Making.{flag_term_of, carry_flag, half_carry_flag, is_logic, is_addition, sum_of, regrouped, plus, high, low, join, bit, chosen_flag}
use Rattle.sym_terms.specs.Values80.{flag_in}
use Rattle.sym_terms.specs.Values86.{Value86, Number, Result, Env86, Val86, MayBe}
use Rattle.sym_terms.specs.Laws.{IsMadeAs, KeepValues}
use Rattle.sym_terms.proofs.Equal.{same_term-true}
use Rattle.sym_terms.proofs.Sorts.{high_closed}
use Rattle.sym_terms.proofs.One86.{one86}

-- Unknown has every value
or_unknown : (e : Env86) (x : Bool) (t : Term) (v : Value86) → Val86 e t v → Val86 e (cond x Unknown t) v
or_unknown e true t v p = tt
or_unknown e false t v p = p

-- CY of a logic operation is 0
logic_carry : (op : Op) (x y k i : ℕ) → is_logic op ≡ true → MayBe (flag_in (flags_of op x y k) Cy) i → i ≡ 0
logic_carry Ana x y k i h m = m
logic_carry Xra x y k i h m = m
logic_carry Ora x y k i h m = m
logic_carry op x y k i h m = absurd (false≢true h)

may_be_at : (part : Part) (f g : Flags) (i : ℕ) → f ≡ g → MayBe (flag_in f part) i → MayBe (flag_in g part) i
may_be_at part f g i e m = let Q : Flags → Type 0 = λ h. MayBe (flag_in h part) i in subst Q e m

carry86 : (e : Env86) (r : Term) (v : Value86) → Val86 e (Flag Cy r) v → Val86 e (carry_flag r) v
carry86 e (Alu op a b c) v p = by_op (is_logic op) refl v p
  where
    by_op : (x : Bool) → is_logic op ≡ x → (v : Value86) → Val86 e (Flag Cy (Alu op a b c)) v → Val86 e (cond x (Num 0) (Flag Cy (Alu op a b c))) v
    by_op true h (Number i) p = logic_carry op p.2.0 p.2.1 (as_bit p.2.2) i h (may_be_at Cy p.1 (flags_of op p.2.0 p.2.1 (as_bit p.2.2)) i p.2.7 p.3)
    by_op true h (Result n f) p = absurd p
    by_op false h v p = p
carry86 e r v p = p

half_carry86 : (e : Env86) (r : Term) (v : Value86) → Val86 e (Flag Ac r) v → Val86 e (half_carry_flag r) v
half_carry86 e (Alu op a b c) v p = by_op (is_addition op)
  where
    by_op : (x : Bool) → Val86 e (cond x (Flag Ac (Alu op a b c)) Unknown) v
    by_op true = p
    by_op false = tt
half_carry86 e r v p = tt

flag86 : (e : Env86) (part : Part) (r : Term) (v : Value86) → Val86 e (Flag part r) v → Val86 e (flag_term_of part r) v
flag86 e Ac r v p = half_carry86 e r v p
flag86 e Cy r v p = carry86 e r v p
flag86 e part r v p = p

-- a word and a number
plus86 : (e : Env86) (a : Term) (m n i : ℕ) → m < 0x10000 → n < 0x10000 → Val86 e a (Number m) → i ≡ (m + n) % 0x10000 → Val86 e (plus a n) (Number i)
plus86 e a m zero i hm hn v q = let same : i ≡ m = omega arith in subst (λ j. Val86 e a (Number j)) (sym same) v
plus86 e a m (suc n) i hm hn v q = (m, suc n, hm, hn, v, refl, q)

gathered86 : (e : Env86) (a : Term) (n m i : ℕ) → m < 0x10000 → n < 0x10000 → Val86 e a (Number m) → i ≡ (m + n) % 0x10000 → Val86 e (regrouped a n) (Number i)
gathered86 e (Num k) n m i hm hn v q = q ∙ ap (λ j. (j + n) % 0x10000) v
gathered86 e (Sum16 a (Num k)) n m i hm hn v q =
    let inner : v.1 ≡ k = v.5 in
    let sum : m ≡ (v.0 + v.1) % 0x10000 = v.6 in
    let below : (k + n) % 0x10000 < 0x10000 = omega arith in
    let total : i ≡ (v.0 + (k + n) % 0x10000) % 0x10000 = omega arith in
    plus86 e a v.0 ((k + n) % 0x10000) i v.2 below v.4 total
gathered86 e a n m i hm hn v q = plus86 e a m n i hm hn v q

sum86 : (e : Env86) (a b : Term) (v : Value86) → Val86 e (Sum16 a b) v → Val86 e (sum_of a b) v
sum86 e a (Num n) (Number i) p =
    let is : p.1 ≡ n = p.5 in
    let below : n < 0x10000 = subst (λ k. k < 0x10000) is p.3 in
    gathered86 e a n p.0 i p.2 below p.4 (p.6 ∙ ap (λ k. (p.0 + k) % 0x10000) is)
sum86 e a (Num n) (Result m f) p = absurd p
sum86 e a b v p = p

high86 : (e : Env86) (w : Term) (v : Value86) → Val86 e (High w) v → Val86 e (high w) v
high86 e (Num n) (Number i) p = p.2 ∙ ap (λ k. k / 256) p.1
high86 e (Num n) (Result m f) p = absurd p
high86 e (Join h l) (Number i) p =
    let q = p.1 in
    let first : q.0 < 256 = q.2 in
    let second : q.1 < 256 = q.3 in
    let word : p.0 ≡ 256 * q.0 + q.1 = q.6 in
    let half : i ≡ p.0 / 256 = p.2 in
    let same : q.0 ≡ i = omega arith in
    subst (λ k. Val86 e h (Number k)) same q.4
high86 e (Join h l) (Result m f) p = absurd p
high86 e (Turned c) v p = tt
high86 e Unknown v p = tt
high86 e w v p = p

low86 : (e : Env86) (w : Term) (v : Value86) → Val86 e (Low w) v → Val86 e (low w) v
low86 e (Num n) (Number i) p = p.2 ∙ ap (λ k. k % 256) p.1
low86 e (Num n) (Result m f) p = absurd p
low86 e (Join h l) (Number i) p =
    let q = p.1 in
    let first : q.0 < 256 = q.2 in
    let second : q.1 < 256 = q.3 in
    let word : p.0 ≡ 256 * q.0 + q.1 = q.6 in
    let half : i ≡ p.0 % 256 = p.2 in
    let same : q.1 ≡ i = omega arith in
    subst (λ k. Val86 e l (Number k)) same q.5
low86 e (Join h l) (Result m f) p = absurd p
low86 e (Turned c) v p = tt
low86 e Unknown v p = tt
low86 e w v p = p

not_true : (b : Bool) → not b ≡ true → b ≡ false
not_true false h = refl
not_true true h = absurd (false≢true h)

-- the halves of one word, which has one value
joined86 : (e : Env86) (x : Bool) (w w' : Term) (v : Value86) → IsMadeAs is_byte (High w) → (same_term w w' && not (is_adjusted w)) ≡ x → Val86 e (Join (High w) (Low w')) v → Val86 e (cond x w (Join (High w) (Low w'))) v
joined86 e true w w' (Number i) m s p =
    let both = and_parts (same_term w w') (not (is_adjusted w)) s in
    let same : w ≡ w' = same_term-true w w' both.0 in
    let plain : is_adjusted w ≡ false = not_true (is_adjusted w) both.1 in
    let closed : is_open w ≡ false = high_closed w m.0.0 m.0.1 m.0.2 in
    let first : Val86 e w (Number p.4.0) = p.4.1 in
    let second : Val86 e w (Number p.5.0) = subst (λ t. Val86 e t (Number p.5.0)) (sym same) p.5.1 in
    let one : p.4.0 ≡ p.5.0 = (one86 e w m.0.0 closed plain).number p.4.0 p.5.0 first second in
    let high_is : p.0 ≡ p.4.0 / 256 = p.4.2 in
    let low_is : p.1 ≡ p.5.0 % 256 = p.5.2 in
    let word : i ≡ 256 * p.0 + p.1 = p.6 in
    let is : p.4.0 ≡ i = omega arith in
    subst (λ k. Val86 e w (Number k)) is first
joined86 e true w w' (Result n f) m s p = absurd p
joined86 e false w w' v m s p = p

join86 : (e : Env86) (h l : Term) (v : Value86) → IsMadeAs is_byte h → Val86 e (Join h l) v → Val86 e (join h l) v
join86 e (Num h) (Num l) (Number i) m p = p.6 ∙ ap₂ (λ x y. 256 * x + y) p.4 p.5
join86 e (Num h) (Num l) (Result n f) m p = absurd p
join86 e (High w) (Low w') v m p = joined86 e (same_term w w' && not (is_adjusted w)) w w' v m refl p
join86 e h l v m p = p

some_bit : (e : Env86) (t : Term) (b k : Bool) (i : ℕ) → Some b ≡ Some k → i ≡ as_bit k → Val86 e t (Number (as_bit b)) → Val86 e t (Number i)
some_bit e t b k i s q v =
    let same : b ≡ k = same_Some b k s in
    let is : as_bit b ≡ i = ap as_bit same ∙ sym q in
    subst (λ n. Val86 e t (Number n)) is v

one_of86 : (e : Env86) (s z ac p cy : Term) (part : Part) (i : ℕ) → Val86 e (Bit (FlagByte s z ac p cy) part) (Number i) → Val86 e (chosen_flag s z ac p cy part) (Number i)
one_of86 e s z ac p cy S i q = some_bit e s (has_bit q.0 7) q.1 i q.3 q.4 q.2.1
one_of86 e s z ac p cy Z i q = some_bit e z (has_bit q.0 6) q.1 i q.3 q.4 q.2.2
one_of86 e s z ac p cy Ac i q = some_bit e ac (has_bit q.0 4) q.1 i q.3 q.4 q.2.3
one_of86 e s z ac p cy P i q = some_bit e p (has_bit q.0 2) q.1 i q.3 q.4 q.2.4
one_of86 e s z ac p cy Cy i q = some_bit e cy (has_bit q.0 0) q.1 i q.3 q.4 q.2.5
one_of86 e s z ac p cy part i q = tt

bit86 : (e : Env86) (b : Term) (part : Part) (v : Value86) → Val86 e (Bit b part) v → Val86 e (bit b part) v
bit86 e (FlagByte s z ac p cy) part (Number i) q = one_of86 e s z ac p cy part i q
bit86 e (FlagByte s z ac p cy) part (Result n f) q = absurd q
bit86 e Unknown part v q = tt
bit86 e b part v q = q

pub keep86 : (e : Env86) → KeepValues Value86 (Val86 e)
keep86 e = record {
  alu = λ op a b c v p q r. or_unknown e (is_open a || (is_open b || is_open c)) (Alu op a b c) v;
  flag = λ part r v m p. or_unknown e (is_open r) (flag_term_of part r) v (flag86 e part r v p);
  sum16 = λ a b v m n p. or_unknown e (is_open a || is_open b) (sum_of a b) v (sum86 e a b v p);
  high = λ w v m. high86 e w v;
  low = λ w v m. low86 e w v;
  join = λ h l v m n. join86 e h l v m;
  bit = λ b part v m f. bit86 e b part v;
  turn = λ kind a c v p q. or_unknown e (is_open a || is_open c) (Turn kind a c) v;
  adjust = λ a ac cy v p q r. or_unknown e (is_open a || (is_open ac || is_open cy)) (Adjust a ac cy) v;
}
