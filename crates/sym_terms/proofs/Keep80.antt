-- On the 8080's side each value that an operation may have is one that the made term may have.
use Rattle.std.proofs.lemmas.Bool.{and_parts, ltb-true, true≢false, false≢true}
use Rattle.std.specs.Prelude.{◌&&◌, not}
use Rattle.std.proofs.Common.{◌≡◌, ℕ, zero, suc, ◌+◌, ◌*◌, ◌/◌, ◌%◌, ◌<◌, ◌||◌, Bool, true, false, cond, Option, Some, None, refl, sym, ap, subst, ◌∙◌, arith}
use Rattle.cells.specs.declared.Flags.{Flags}
use Rattle.cells.specs.declared.Cell.{Cell}
use Rattle.cells.specs.declared.Cell.TheVariants.{Num as NumCell, Psw}
use Rattle.cells.specs.declared.Part.{Part}
use Rattle.cells.specs.declared.Part.TheVariants.{S, Z, Ac, P, Cy}
use Rattle.i80.specs.declared.Op.{Op}
use Rattle.i80.specs.declared.Op.TheVariants.{Add, Adc, Ana, Xra, Ora}
use Rattle.base.specs.Arithmetic.{as_bit}
use Rattle.base.specs.Operations.{flags_of, flags_in}
use Rattle.sym_terms.specs.Term.{Term, Num, Start, Alu, Flag, Sum16, High, Low, Join, FlagByte, Bit, Turn, Turned, Adjust, Unknown, is_adjusted, is_open, is_word, is_byte, is_bit, leaves_flag, is_flag, same_term}
use Rattle.sym_terms.specs.Making.{IsTermMade, alu, flag, flag_term_of, carry_flag, half_carry_flag, is_logic, is_addition, sum16, sum_of, regrouped, plus, high, low, join, bit, chosen_flag, turn, adjust}
use Rattle.sym_terms.specs.Values80.{Value80, Byte, Word, OneBit, Result, Env80, Val80, word_by, bit_by, result_by, number80, flag_in, word_of}
use Rattle.sym_terms.specs.Laws.{IsMadeAs, KeepValues}
use Rattle.sym_terms.proofs.Equal.{same_term-true}
use Rattle.sym_terms.proofs.Sorts.{open_shows}
use Rattle.sym_terms.proofs.One80.{one80, word_number}

-- What is open is no number, and an operation on it has no value.

or_open : (x y : Bool) → (x || y) ≡ true → (R : Type 0) → (x ≡ true → R) → (y ≡ true → R) → R
or_open true y e R f g = f refl
or_open false y e R f g = g e

open_byte : (e : Env80) (t : Term) (x : ℕ) → IsMadeAs is_byte t → is_open t ≡ true → Val80 e t (Byte (NumCell x)) → ⊥
open_byte e (FlagByte s z ac p cy) x m o v = let differ : NumCell x ≡ Psw v.0 = v.6 in cc
open_byte e Unknown x m o v = let differ : Some v.0 ≡ None = v.1 in cc
open_byte e (Turned c) x m o v = v
open_byte e (Join h l) x m o v = v
open_byte e t x m o v = false≢true (sym (open_shows t m.0) ∙ o)

open_bit : (e : Env80) (t : Term) (k : Bool) → IsMadeAs is_bit t → is_open t ≡ true → Val80 e t (OneBit (Some k)) → ⊥
open_bit e (FlagByte s z ac p cy) k m o v = v
open_bit e Unknown k m o v = let differ : Some k ≡ None = v in cc
open_bit e (Turned c) k m o v = v
open_bit e (Join h l) k m o v = v
open_bit e t k m o v = false≢true (sym (open_shows t m.0) ∙ o)

open_word : (e : Env80) (t : Term) (n : ℕ) → IsMadeAs is_word t → is_open t ≡ true → Val80 e t (word_of n) → ⊥
open_word e (Join h l) n m o v = or_open (is_open h) (is_open l) o ⊥ (λ q. open_byte e h (n / 256) (m.0.0, m.0.2) q v.0) (λ q. open_byte e l (n % 256) (m.0.1, m.0.3) q v.1)
open_word e (FlagByte s z ac p cy) n m o v = v
open_word e Unknown n m o v = v
open_word e (Turned c) n m o v = v
open_word e t n m o v = false≢true (sym (open_shows t m.0) ∙ o)

open_result : (e : Env80) (part : Part) (t : Term) (n : ℕ) (f : Flags) → IsMadeAs (leaves_flag part) t → is_open t ≡ true → Val80 e t (Result n f) → ⊥
open_result e part (FlagByte s z ac p cy) n f m o v = v
open_result e part Unknown n f m o v = v
open_result e part (Turned c) n f m o v = v
open_result e part (Join h l) n f m o v = v
open_result e part t n f m o v = false≢true (sym (open_shows t m.0) ∙ o)

-- a term that is Unknown where an operand is open, and as it stands elsewhere
unless_open : (e : Env80) (x : Bool) (t : Term) (v : Value80) → (x ≡ true → ⊥) → Val80 e t v → Val80 e (cond x Unknown t) v
unless_open e true t v none p = absurd (none refl)
unless_open e false t v none p = p

-- an operation with a value has one as a number with flags
some_result : (Q : ℕ → Flags → Type 0) (v : Value80) → result_by Q v → (n : ℕ) × (f : Flags) × Q n f
some_result Q (Byte c) p = (p.0, p.1, p.2)
some_result Q (Word h l) p = absurd p
some_result Q (OneBit o) p = (as_bit p.0, p.1, p.2)
some_result Q (Result n f) p = (n, f, p)

some_bit : (Q : Option Bool → Type 0) (v : Value80) → bit_by Q v → (o : Option Bool) × Q o
some_bit Q (Byte c) p = (Some p.0, p.1)
some_bit Q (Word h l) p = absurd p
some_bit Q (OneBit o) p = (o, p)
some_bit Q (Result n f) p = absurd p

some_word : (Q : Cell → Cell → Type 0) (v : Value80) → word_by Q v → (x y : Cell) × Q x y
some_word Q (Byte c) p = absurd p
some_word Q (Word x y) p = (x, y, p)
some_word Q (OneBit o) p = absurd p
some_word Q (Result n f) p = absurd p

-- what a Flag and a Bit say of their values
abbrev FlagIs : Env80 → Part → Term → Option Bool → Type 0
FlagIs e part r o = (n : ℕ) × (f : Flags) × Val80 e r (Result n f) × (o ≡ flag_in f part)

abbrev BitIs : Env80 → Part → Term → Option Bool → Type 0
BitIs e part b o = (x : Cell) × Val80 e b (Byte x) × (o ≡ flag_in (flags_in x) part)

alu80 : (e : Env80) (op : Op) (a b c : Term) (v : Value80) → IsMadeAs is_byte a → IsMadeAs is_byte b → IsMadeAs is_bit c → Val80 e (Alu op a b c) v → Val80 e (alu op a b c) v
alu80 e op a b c v ma mb mc p =
    unless_open e (is_open a || (is_open b || is_open c)) (Alu op a b c) v
    (λ o.
    let s = some_result _ v p in
    let q = s.2 in
    or_open (is_open a) (is_open b || is_open c) o ⊥ (λ h. open_byte e a q.0 ma h q.3)
    (λ h. or_open (is_open b) (is_open c) h ⊥ (λ i. open_byte e b q.1 mb i q.4) (λ i. open_bit e c q.2 mc i q.5)))
    p

turn80 : (e : Env80) (kind : ℕ) (a c : Term) (v : Value80) → IsMadeAs is_byte a → IsMadeAs is_bit c → Val80 e (Turn kind a c) v → Val80 e (turn kind a c) v
turn80 e kind a c v ma mc p =
    unless_open e (is_open a || is_open c) (Turn kind a c) v
    (λ o.
    let s = some_result _ v p in
    let q = s.2 in
    or_open (is_open a) (is_open c) o ⊥ (λ h. open_byte e a q.0 ma h q.2) (λ h. open_bit e c q.1 mc h q.3))
    p

adjust80 : (e : Env80) (a ac cy : Term) (v : Value80) → IsMadeAs is_byte a → IsMadeAs is_bit ac → IsMadeAs is_bit cy → Val80 e (Adjust a ac cy) v → Val80 e (adjust a ac cy) v
adjust80 e a ac cy v ma mh mc p =
    unless_open e (is_open a || (is_open ac || is_open cy)) (Adjust a ac cy) v
    (λ o.
    let s = some_result _ v p in
    let q = s.2 in
    or_open (is_open a) (is_open ac || is_open cy) o ⊥ (λ h. open_byte e a q.0 ma h q.3)
    (λ h. or_open (is_open ac) (is_open cy) h ⊥ (λ i. open_bit e ac q.1 mh i q.4) (λ i. open_bit e cy q.2 mc i q.5)))
    p

-- CY of a logic operation is 0
logic_carry : (op : Op) (x y k : ℕ) (o : Option Bool) → is_logic op ≡ true → o ≡ flag_in (flags_of op x y k) Cy → o ≡ Some false
logic_carry Ana x y k o h e = e
logic_carry Xra x y k o h e = e
logic_carry Ora x y k o h e = e
logic_carry op x y k o h e = absurd (false≢true h)

-- AC of no addition is not known
other_half : (op : Op) (x y k : ℕ) (o : Option Bool) → is_addition op ≡ false → o ≡ flag_in (flags_of op x y k) Ac → o ≡ None
other_half Add x y k o h e = absurd (true≢false h)
other_half Adc x y k o h e = absurd (true≢false h)
other_half op x y k o h e = e

bit_is_zero : (v : Value80) (Q : Option Bool → Type 0) → bit_by Q v → ((o : Option Bool) → Q o → o ≡ Some false) → number80 0 v
bit_is_zero (Byte c) Q p f = let is : Some p.0 ≡ Some false = f (Some p.0) p.1 in let zero_bit : p.0 ≡ false = cc in (omega arith, p.2 ∙ ap (λ b. NumCell (as_bit b)) zero_bit)
bit_is_zero (Word h l) Q p f = absurd p
bit_is_zero (OneBit o) Q p f = (false, refl, f o p)
bit_is_zero (Result n g) Q p f = absurd p

bit_is_unknown : (v : Value80) (Q : Option Bool → Type 0) → bit_by Q v → ((o : Option Bool) → Q o → o ≡ None) → bit_by (λ o. o ≡ None) v
bit_is_unknown (Byte c) Q p f = (p.0, f (Some p.0) p.1, p.2)
bit_is_unknown (Word h l) Q p f = absurd p
bit_is_unknown (OneBit o) Q p f = f o p
bit_is_unknown (Result n g) Q p f = absurd p

carry80 : (e : Env80) (r : Term) (v : Value80) → Val80 e (Flag Cy r) v → Val80 e (carry_flag r) v
carry80 e (Alu op a b c) v p = by_op (is_logic op) refl
  where
    by_op : (x : Bool) → is_logic op ≡ x → Val80 e (cond x (Num 0) (Flag Cy (Alu op a b c))) v
    by_op true h = bit_is_zero v (FlagIs e Cy (Alu op a b c)) p (λ o q. logic_carry op q.2.0 q.2.1 (as_bit q.2.2) o h (q.3 ∙ ap (λ g. flag_in g Cy) q.2.7))
    by_op false h = p
carry80 e r v p = p

half_carry80 : (e : Env80) (r : Term) (v : Value80) → leaves_flag Ac r ≡ true → Val80 e (Flag Ac r) v → Val80 e (half_carry_flag r) v
half_carry80 e (Alu op a b c) v l p = by_op (is_addition op) refl
  where
    by_op : (x : Bool) → is_addition op ≡ x → Val80 e (cond x (Flag Ac (Alu op a b c)) Unknown) v
    by_op true h = p
    by_op false h = bit_is_unknown v (FlagIs e Ac (Alu op a b c)) p (λ o q. other_half op q.2.0 q.2.1 (as_bit q.2.2) o h (q.3 ∙ ap (λ g. flag_in g Ac) q.2.7))
half_carry80 e (Adjust a ac cy) v l p = bit_is_unknown v (FlagIs e Ac (Adjust a ac cy)) p (λ o q. q.3 ∙ ap (λ g. flag_in g Ac) q.2.8)
half_carry80 e Unknown v l p = bit_is_unknown v (FlagIs e Ac Unknown) p (λ o q. absurd q.2)
half_carry80 e r v l p = absurd (false≢true l)

flag80 : (e : Env80) (part : Part) (r : Term) (v : Value80) → leaves_flag part r ≡ true → Val80 e (Flag part r) v → Val80 e (flag_term_of part r) v
flag80 e Ac r v l p = half_carry80 e r v l p
flag80 e Cy r v l p = carry80 e r v p
flag80 e part r v l p = p

keep_flag : (e : Env80) (part : Part) (r : Term) (v : Value80) → IsMadeAs (leaves_flag part) r → Val80 e (Flag part r) v → Val80 e (flag part r) v
keep_flag e part r v m p =
    unless_open e (is_open r) (flag_term_of part r) v (λ o. let s = some_bit (FlagIs e part r) v p in let q = s.1 in open_result e part r q.0 q.1 m o q.2)
    (flag80 e part r v m.1 p)

-- a word and a number
plus80 : (e : Env80) (a : Term) (m n : ℕ) (x y : Cell) → m < 0x10000 → n < 0x10000 → Val80 e a (word_of m) → x ≡ NumCell (((m + n) % 0x10000) / 256) → y ≡ NumCell (((m + n) % 0x10000) % 256) → Val80 e (plus a n) (Word x y)
plus80 e a m zero x y hm hn v ex ey =
    let same : m ≡ (m + 0) % 0x10000 = omega arith in
    let first : NumCell (m / 256) ≡ x = ap (λ k. NumCell (k / 256)) same ∙ sym ex in
    let second : NumCell (m % 256) ≡ y = ap (λ k. NumCell (k % 256)) same ∙ sym ey in
    subst (λ c. Val80 e a (Word c y)) first (subst (λ c. Val80 e a (Word (NumCell (m / 256)) c)) second v)
plus80 e a m (suc n) x y hm hn v ex ey = (m, suc n, hm, hn, v, (hn, refl, refl), ex, ey)

gathered80 : (e : Env80) (a : Term) (m n : ℕ) (x y : Cell) → m < 0x10000 → n < 0x10000 → Val80 e a (word_of m) → x ≡ NumCell (((m + n) % 0x10000) / 256) → y ≡ NumCell (((m + n) % 0x10000) % 256) → Val80 e (regrouped a n) (Word x y)
gathered80 e (Num k) m n x y hm hn v ex ey =
    let same : m ≡ k = word_number m k v.1 v.2 in
    let below : (k + n) % 0x10000 < 0x10000 = omega arith in
    (below, ex ∙ ap (λ j. NumCell (((j + n) % 0x10000) / 256)) same, ey ∙ ap (λ j. NumCell (((j + n) % 0x10000) % 256)) same)
gathered80 e (Sum16 a (Num k)) m n x y hm hn v ex ey =
    let inner : v.1 ≡ k = word_number v.1 k v.5.1 v.5.2 in
    let sum : m ≡ (v.0 + v.1) % 0x10000 = word_number m ((v.0 + v.1) % 0x10000) v.6 v.7 in
    let below : (k + n) % 0x10000 < 0x10000 = omega arith in
    let total : (m + n) % 0x10000 ≡ (v.0 + (k + n) % 0x10000) % 0x10000 = omega arith in
    plus80 e a v.0 ((k + n) % 0x10000) x y v.2 below v.4 (ex ∙ ap (λ j. NumCell (j / 256)) total) (ey ∙ ap (λ j. NumCell (j % 256)) total)
gathered80 e a m n x y hm hn v ex ey = plus80 e a m n x y hm hn v ex ey

sum80 : (e : Env80) (a b : Term) (v : Value80) → Val80 e (Sum16 a b) v → Val80 e (sum_of a b) v
sum80 e a (Num n) (Word x y) p =
    let is : p.1 ≡ n = word_number p.1 n p.5.1 p.5.2 in
    let below : n < 0x10000 = subst (λ k. k < 0x10000) is p.3 in
    gathered80 e a p.0 n x y p.2 below p.4 (p.6 ∙ ap (λ k. NumCell (((p.0 + k) % 0x10000) / 256)) is) (p.7 ∙ ap (λ k. NumCell (((p.0 + k) % 0x10000) % 256)) is)
sum80 e a (Num n) (Byte c) p = absurd p
sum80 e a (Num n) (OneBit o) p = absurd p
sum80 e a (Num n) (Result m f) p = absurd p
sum80 e a b v p = p

keep_sum : (e : Env80) (a b : Term) (v : Value80) → IsMadeAs is_word a → IsMadeAs is_word b → Val80 e (Sum16 a b) v → Val80 e (sum16 a b) v
keep_sum e a b v ma mb p =
    unless_open e (is_open a || is_open b) (sum_of a b) v
    (λ o.
    let s = some_word _ v p in
    let q = s.2 in
    or_open (is_open a) (is_open b) o ⊥ (λ h. open_word e a q.0 ma h q.4) (λ h. open_word e b q.1 mb h q.5))
    (sum80 e a b v p)

high80 : (e : Env80) (w : Term) (v : Value80) → Val80 e (High w) v → Val80 e (high w) v
high80 e (Num n) (Byte c) p = let word : n < 0x10000 = p.1.0 in (omega arith, p.1.1)
high80 e (Num n) (Word h l) p = absurd p
high80 e (Num n) (OneBit o) p = absurd p
high80 e (Num n) (Result m f) p = absurd p
high80 e (Join h l) (Byte c) p = p.1.0
high80 e (Join h l) (Word x y) p = absurd p
high80 e (Join h l) (OneBit o) p = absurd p
high80 e (Join h l) (Result m f) p = absurd p
high80 e (Turned c) (Byte x) p = absurd p.1
high80 e (Turned c) (Word x y) p = absurd p
high80 e (Turned c) (OneBit o) p = absurd p
high80 e (Turned c) (Result m f) p = absurd p
high80 e Unknown (Byte x) p = absurd p.1
high80 e Unknown (Word x y) p = absurd p
high80 e Unknown (OneBit o) p = absurd p
high80 e Unknown (Result m f) p = absurd p
high80 e w v p = p

low80 : (e : Env80) (w : Term) (v : Value80) → Val80 e (Low w) v → Val80 e (low w) v
low80 e (Num n) (Byte c) p = (omega arith, p.1.2)
low80 e (Num n) (Word h l) p = absurd p
low80 e (Num n) (OneBit o) p = absurd p
low80 e (Num n) (Result m f) p = absurd p
low80 e (Join h l) (Byte c) p = p.1.1
low80 e (Join h l) (Word x y) p = absurd p
low80 e (Join h l) (OneBit o) p = absurd p
low80 e (Join h l) (Result m f) p = absurd p
low80 e (Turned c) (Byte x) p = absurd p.1
low80 e (Turned c) (Word x y) p = absurd p
low80 e (Turned c) (OneBit o) p = absurd p
low80 e (Turned c) (Result m f) p = absurd p
low80 e Unknown (Byte x) p = absurd p.1
low80 e Unknown (Word x y) p = absurd p
low80 e Unknown (OneBit o) p = absurd p
low80 e Unknown (Result m f) p = absurd p
low80 e w v p = p

-- the halves of one word, which has one value
joined80 : (e : Env80) (x : Bool) (w w' : Term) (v : Value80) → (same_term w w' && not (is_adjusted w)) ≡ x → Val80 e (Join (High w) (Low w')) v → Val80 e (cond x w (Join (High w) (Low w'))) v
joined80 e true w w' (Word x y) s p =
    let same : w ≡ w' = same_term-true w w' (and_parts (same_term w w') (not (is_adjusted w)) s).0 in
    let first : Val80 e w (Word x p.0.0) = p.0.1 in
    let second : Val80 e w (Word p.1.0 y) = subst (λ t. Val80 e t (Word p.1.0 y)) (sym same) p.1.1 in
    let one = (one80 e w).word x p.0.0 p.1.0 y first second in
    subst (λ c. Val80 e w (Word x c)) one.1 first
joined80 e true w w' (Byte c) s p = absurd p
joined80 e true w w' (OneBit o) s p = absurd p
joined80 e true w w' (Result n f) s p = absurd p
joined80 e false w w' v s p = p

join80 : (e : Env80) (h l : Term) (v : Value80) → Val80 e (Join h l) v → Val80 e (join h l) v
join80 e (Num h) (Num l) (Word x y) p =
    let first : h < 256 = p.0.0 in
    let second : l < 256 = p.1.0 in
    let high_half : h ≡ (256 * h + l) / 256 = omega arith in
    let low_half : l ≡ (256 * h + l) % 256 = omega arith in
    (omega arith, p.0.1 ∙ ap NumCell high_half, p.1.1 ∙ ap NumCell low_half)
join80 e (Num h) (Num l) (Byte c) p = absurd p
join80 e (Num h) (Num l) (OneBit o) p = absurd p
join80 e (Num h) (Num l) (Result n f) p = absurd p
join80 e (High w) (Low w') v p = joined80 e (same_term w w' && not (is_adjusted w)) w w' v refl p
join80 e h l v p = p

-- a bit that is known is used as a byte
bit_as_byte : (e : Env80) (t : Term) (b : Bool) → is_bit t ≡ true → Val80 e t (OneBit (Some b)) → Val80 e t (Byte (NumCell (as_bit b)))
bit_as_byte e (Num n) b s v =
    let small : n < 2 = ltb-true n 2 s in
    let bits : Some b ≡ Some v.0 = v.2 in
    let same : b ≡ v.0 = cc in
    (omega arith, ap (λ k. NumCell (as_bit k)) same ∙ ap NumCell (sym v.1))
bit_as_byte e (Start S) b s v = (b, v, refl)
bit_as_byte e (Start Z) b s v = (b, v, refl)
bit_as_byte e (Start Ac) b s v = (b, v, refl)
bit_as_byte e (Start P) b s v = (b, v, refl)
bit_as_byte e (Start Cy) b s v = (b, v, refl)
bit_as_byte e (Start part) b s v = absurd (false≢true s)
bit_as_byte e (Flag part r) b s v = (b, v, refl)
bit_as_byte e (Bit t part) b s v = (b, v, refl)
bit_as_byte e (Alu op x y c) b s v =
    let bits : Some b ≡ Some v.0 = v.3 in
    let same : b ≡ v.0 = cc in
    (as_bit v.0, v.1, v.2, ap (λ k. NumCell (as_bit k)) same)
bit_as_byte e Unknown b s v = let differ : Some b ≡ None = v in absurd (cc)
bit_as_byte e t b s v = absurd (false≢true s)

-- what stands for a flag of a FlagByte
flag_term : (e : Env80) (t : Term) (f : Option Bool) (v : Value80) → is_bit t ≡ true → Val80 e t (OneBit f) → bit_by (λ o. o ≡ f) v → Val80 e t v
flag_term e t f (Byte c) s h p =
    let as_known : Val80 e t (OneBit (Some p.0)) = subst (λ o. Val80 e t (OneBit o)) (sym p.1) h in
    subst (λ x. Val80 e t (Byte x)) (sym p.2) (bit_as_byte e t p.0 s as_known)
flag_term e t f (Word x y) s h p = absurd p
flag_term e t f (OneBit o) s h p = subst (λ w. Val80 e t (OneBit w)) (sym p) h
flag_term e t f (Result n g) s h p = absurd p

-- the flags of a flag byte that some value was read from
read_flags : (e : Env80) (s z ac p cy : Term) (part : Part) (v : Value80) → Val80 e (Bit (FlagByte s z ac p cy) part) v
    → (f : Flags) × Val80 e s (OneBit f.s) × Val80 e z (OneBit f.z) × Val80 e ac (OneBit f.ac) × Val80 e p (OneBit f.p) × Val80 e cy (OneBit f.cy) × bit_by (λ o. o ≡ flag_in f part) v
read_flags e s z ac p cy part (Byte c) q = (q.1.1.0, q.1.1.1, q.1.1.2, q.1.1.3, q.1.1.4, q.1.1.5, (q.0, q.1.2 ∙ ap (λ x. flag_in (flags_in x) part) q.1.1.6, q.2))
read_flags e s z ac p cy part (Word x y) q = absurd q
read_flags e s z ac p cy part (OneBit o) q = (q.1.0, q.1.1, q.1.2, q.1.3, q.1.4, q.1.5, q.2 ∙ ap (λ x. flag_in (flags_in x) part) q.1.6)
read_flags e s z ac p cy part (Result n f) q = absurd q

one_of80 : (e : Env80) (s z ac p cy : Term) (part : Part) (v : Value80) → IsTermMade (FlagByte s z ac p cy) → is_flag part ≡ true → Val80 e (Bit (FlagByte s z ac p cy) part) v → Val80 e (chosen_flag s z ac p cy part) v
one_of80 e s z ac p cy S v m f q = let r = read_flags e s z ac p cy S v q in flag_term e s r.0.s v m.5 r.1 r.6
one_of80 e s z ac p cy Z v m f q = let r = read_flags e s z ac p cy Z v q in flag_term e z r.0.z v m.6 r.2 r.6
one_of80 e s z ac p cy Ac v m f q = let r = read_flags e s z ac p cy Ac v q in flag_term e ac r.0.ac v m.7 r.3 r.6
one_of80 e s z ac p cy P v m f q = let r = read_flags e s z ac p cy P v q in flag_term e p r.0.p v m.8 r.4 r.6
one_of80 e s z ac p cy Cy v m f q = let r = read_flags e s z ac p cy Cy v q in flag_term e cy r.0.cy v m.9 r.5 r.6
one_of80 e s z ac p cy part v m f q = absurd (false≢true f)

bit80 : (e : Env80) (b : Term) (part : Part) (v : Value80) → IsMadeAs is_byte b → is_flag part ≡ true → Val80 e (Bit b part) v → Val80 e (bit b part) v
bit80 e (FlagByte s z ac p cy) part v m f q = one_of80 e s z ac p cy part v m.0 f q
bit80 e Unknown part v m f q = let s = some_bit (BitIs e part Unknown) v q in let u = s.1 in absurd (unknown_byte u.0 u.1)
  where
    unknown_byte : (c : Cell) → Val80 e Unknown (Byte c) → ⊥
    unknown_byte c u = let differ : Some u.0 ≡ None = u.1 in cc
bit80 e b part v m f q = q

pub keep80 : (e : Env80) → KeepValues Value80 (Val80 e)
keep80 e = record {
  alu = alu80 e;
  flag = keep_flag e;
  sum16 = keep_sum e;
  high = λ w v m. high80 e w v;
  low = λ w v m. low80 e w v;
  join = λ h l v m n. join80 e h l v;
  bit = bit80 e;
  turn = turn80 e;
  adjust = adjust80 e;
}
