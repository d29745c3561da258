-- What the makers make is made, and of its sort; and what is open in a made term shows.
use Rattle.std.specs.Prelude.{◌&&◌, not}
use Rattle.std.proofs.Common.{◌≡◌, ℕ, zero, suc, ◌+◌, ◌*◌, ◌/◌, ◌%◌, ◌<◌, ◌||◌, Bool, true, false, cond, refl, ap, ap₂, ◌∙◌, arith, lit<}
use Rattle.std.proofs.lemmas.Bool.{ltb-true, lt-ltb, false≢true}
use Rattle.cells.specs.declared.Part.{Part}
use Rattle.cells.specs.declared.Part.TheVariants.{S, Z, Ac, P, Cy}
use Rattle.sym_terms.specs.Term.{Term, Num, Start, StartSp, Loaded16, Alu, Flag, Sum16, High, Low, Join, FlagByte, Bit, Turn, Turned, Adjust, Unknown, is_adjusted, is_flag, is_bit, is_byte, is_word, leaves_flag, is_open, is_open_itself, shows_open, same_term}
use Rattle.sym_terms.specs.Making.{flag, flag_term_of, carry_flag, half_carry_flag, is_logic, is_addition, sum16, sum_of, regrouped, plus, high, low, join, bit, chosen_flag, IsTermMade}
use Rattle.sym_terms.specs.Laws.{IsMadeAs, MadeTermsHaveSorts}
use Rattle.sym_terms.proofs.Size.{high_is_larger, low_is_larger, sum_is_larger, sum_is_larger_than, bit_is_larger}

-- a term is Unknown, or made as it stands
kept : (Q : Term → Type 0) (x : Bool) (t : Term) → Q Unknown → (cond x Unknown t ≡ t → Q t) → Q (cond x Unknown t)
kept Q true t u f = u
kept Q false t u f = f refl

-- where a maker left a term as it stands, no operand is open
pub closed : (x : Bool) (t u : Term) → cond x Unknown t ≡ u → (Unknown ≡ u → ⊥) → x ≡ false
closed true t u e differs = absurd (differs e)
closed false t u e differs = refl

-- the operand of a half that is left as it stands is not open
pub high_closed : (w : Term) → IsTermMade w → is_word w ≡ true → high w ≡ High w → is_open w ≡ false
high_closed (Num n) m s e = refl
high_closed StartSp m s e = refl
high_closed (Loaded16 k) m s e = refl
high_closed (Sum16 a b) m s e = closed _ _ (Sum16 a b) m.4 (λ q. cc)
high_closed (Join h l) m s e = absurd (high_is_larger h l e)
high_closed (Turned c) m s e = absurd (cc)
high_closed Unknown m s e = absurd (cc)
high_closed w m s e = absurd (false≢true s)

pub low_closed : (w : Term) → IsTermMade w → is_word w ≡ true → low w ≡ Low w → is_open w ≡ false
low_closed (Num n) m s e = refl
low_closed StartSp m s e = refl
low_closed (Loaded16 k) m s e = refl
low_closed (Sum16 a b) m s e = closed _ _ (Sum16 a b) m.4 (λ q. cc)
low_closed (Join h l) m s e = absurd (low_is_larger h l e)
low_closed (Turned c) m s e = absurd (cc)
low_closed Unknown m s e = absurd (cc)
low_closed w m s e = absurd (false≢true s)

byte_shows : (t : Term) → is_byte t ≡ true → shows_open t ≡ is_open_itself t
byte_shows (Join h l) s = absurd (false≢true s)
byte_shows t s = refl

bit_closed : (b : Term) (part : Part) → is_byte b ≡ true → bit b part ≡ Bit b part → is_open b ≡ is_open_itself b → is_open b ≡ false
bit_closed (FlagByte s z ac p cy) part h e o = absurd (bit_is_larger s z ac p cy part e)
bit_closed (Turned c) part h e o = absurd (false≢true h)
bit_closed Unknown part h e o = absurd (cc)
bit_closed b part h e o = o

pub open_shows : (t : Term) → IsTermMade t → is_open t ≡ shows_open t
open_shows (Alu op a b c) m = closed _ _ (Alu op a b c) m.6 (λ q. cc)
open_shows (Flag part r) m = closed _ _ (Flag part r) m.2 (λ q. cc)
open_shows (Sum16 a b) m = closed _ _ (Sum16 a b) m.4 (λ q. cc)
open_shows (High w) m = high_closed w m.0 m.1 m.2
open_shows (Low w) m = low_closed w m.0 m.1 m.2
open_shows (Join h l) m = ap₂ (λ x y. x || y) (open_shows h m.0 ∙ byte_shows h m.2) (open_shows l m.1 ∙ byte_shows l m.3)
open_shows (Bit b part) m = bit_closed b part m.1 m.3 (open_shows b m.0 ∙ byte_shows b m.1)
open_shows (Turn kind a c) m = closed _ _ (Turn kind a c) m.5 (λ q. cc)
open_shows (Adjust a ac cy) m = closed _ _ (Adjust a ac cy) m.6 (λ q. cc)
open_shows t m = refl

-- the sorts

pub byte_sorted : (n : ℕ) → n < 256 → IsMadeAs is_byte (Num n)
byte_sorted n lt = (omega (arith, lt), lt-ltb n 256 lt)

pub word_sorted : (n : ℕ) → n < 0x10000 → IsMadeAs is_word (Num n)
word_sorted n lt = (lt, lt-ltb n 0x10000 lt)

-- what is Unknown where something is open leaves flags all the same
pub leaves_open : (b : Bool) (r : Term) (part : Part) → is_flag part ≡ true → leaves_flag part r ≡ is_flag part → leaves_flag part (cond b Unknown r) ≡ true
leaves_open true r part h e = h
leaves_open false r part h e = e ∙ h

pub bit_is_byte : (t : Term) → is_bit t ≡ true → is_byte t ≡ true
bit_is_byte (Num n) h = let below : n < 2 = ltb-true n 2 h in lt-ltb n 256 (omega arith)
bit_is_byte (Start part) h = refl
bit_is_byte (Flag part r) h = refl
bit_is_byte (Bit b part) h = refl
bit_is_byte (Alu op a b c) h = refl
bit_is_byte Unknown h = refl
bit_is_byte t h = absurd (false≢true h)

pub leaves_is_flag : (part : Part) (r : Term) → leaves_flag part r ≡ true → is_flag part ≡ true
leaves_is_flag part (Alu op a b c) h = h
leaves_is_flag part (Adjust a ac cy) h = h
leaves_is_flag part Unknown h = h
leaves_is_flag Cy (Turn kind a c) h = refl
leaves_is_flag part (Turn kind a c) h = absurd (false≢true h)
leaves_is_flag part r h = absurd (false≢true h)

carry_made : (r : Term) → IsTermMade r → leaves_flag Cy r ≡ true → flag Cy r ≡ carry_flag r → IsMadeAs is_bit (carry_flag r)
carry_made (Alu op a b c) m h e = by_op (is_logic op) refl
  where
    by_op : (x : Bool) → is_logic op ≡ x → IsMadeAs is_bit (cond x (Num 0) (Flag Cy (Alu op a b c)))
    by_op true q = (lit< tt, refl)
    by_op false q = ((m, refl, e ∙ ap (λ (x : Bool). cond x (Num 0) (Flag Cy (Alu op a b c))) q), refl)
carry_made (Turn kind a c) m h e = ((m, refl, e), refl)
carry_made (Adjust a ac cy) m h e = ((m, refl, e), refl)
carry_made Unknown m h e = absurd (cc)
carry_made r m h e = absurd (false≢true h)

half_carry_made : (r : Term) → IsTermMade r → leaves_flag Ac r ≡ true → flag Ac r ≡ half_carry_flag r → IsMadeAs is_bit (half_carry_flag r)
half_carry_made (Alu op a b c) m h e = by_op (is_addition op) refl
  where
    by_op : (x : Bool) → is_addition op ≡ x → IsMadeAs is_bit (cond x (Flag Ac (Alu op a b c)) Unknown)
    by_op true q = ((m, refl, e ∙ ap (λ (x : Bool). cond x (Flag Ac (Alu op a b c)) Unknown) q), refl)
    by_op false q = (tt, refl)
half_carry_made r m h e = (tt, refl)

flag_made : (part : Part) (r : Term) → IsTermMade r → leaves_flag part r ≡ true → is_flag part ≡ true → flag part r ≡ flag_term_of part r → IsMadeAs is_bit (flag_term_of part r)
flag_made S r m h f e = ((m, h, e), refl)
flag_made Z r m h f e = ((m, h, e), refl)
flag_made Ac r m h f e = half_carry_made r m h e
flag_made P r m h f e = ((m, h, e), refl)
flag_made Cy r m h f e = carry_made r m h e
flag_made part r m h f e = absurd (false≢true f)

plus_made : (a : Term) (n : ℕ) → n < 0x10000 → IsMadeAs is_word a → (0 < n → sum16 a (Num n) ≡ Sum16 a (Num n)) → IsMadeAs is_word (plus a n)
plus_made a zero h m e = m
plus_made a (suc n) h m e = ((m.0, h, m.1, lt-ltb (suc n) 0x10000 h, e (omega arith)), refl)

pub plus_is : (a : Term) (n : ℕ) → 0 < n → plus a n ≡ Sum16 a (Num n)
plus_is a zero h = absurd (omega arith)
plus_is a (suc n) h = refl

-- a sum is not summed with a number once more
no_sum_of_sum : (x : Bool) (a : Term) (j k m : ℕ) → cond x Unknown (plus a j) ≡ Sum16 (Sum16 a (Num k)) (Num m) → ⊥
no_sum_of_sum true a j k m e = cc
no_sum_of_sum false a zero k m e = sum_is_larger a (Num k) (Num m) e
no_sum_of_sum false a (suc j) k m e = let inner : a ≡ Sum16 a (Num k) = cc in sum_is_larger_than a (Num k) inner

sum_again : (a : Term) (m n : ℕ) → sum16 a (Num m) ≡ Sum16 a (Num m) → 0 < n → sum16 a (Num n) ≡ Sum16 a (Num n)
sum_again (Num k) m n e positive = absurd (cc)
sum_again (Sum16 a (Num k)) m n e positive = absurd (no_sum_of_sum ((is_open a || false) || false) a ((k + m) % 0x10000) k m e)
sum_again a m n e positive = ap (λ x. cond x Unknown (plus a n)) (closed (is_open a || false) (plus a m) (Sum16 a (Num m)) e (λ q. cc)) ∙ plus_is a n positive

pub gathered_made : (a : Term) (n : ℕ) → n < 0x10000 → IsMadeAs is_word a → sum16 a (Num n) ≡ regrouped a n → IsMadeAs is_word (regrouped a n)
gathered_made (Num m) n h w e = let below : (m + n) % 0x10000 < 0x10000 = omega arith in (below, lt-ltb ((m + n) % 0x10000) 0x10000 below)
gathered_made (Sum16 a (Num m)) n h w e =
    let below : (m + n) % 0x10000 < 0x10000 = omega arith in
    plus_made a ((m + n) % 0x10000) below (w.0.0, w.0.2) (sum_again a m ((m + n) % 0x10000) w.0.4)
gathered_made a n h w e = plus_made a n h w (λ positive. e ∙ plus_is a n positive)

sum_made : (a b : Term) → IsMadeAs is_word a → IsMadeAs is_word b → sum16 a b ≡ sum_of a b → IsMadeAs is_word (sum_of a b)
sum_made a (Num n) w h e = gathered_made a n h.0 w e
sum_made a b w h e = ((w.0, h.0, w.1, h.1, e), refl)

high_made : (w : Term) → IsMadeAs is_word w → IsMadeAs is_byte (high w)
high_made (Num n) h =
    let word : n < 0x10000 = h.0 in
    let byte : n / 256 < 256 = omega arith in
    (omega arith, lt-ltb (n / 256) 256 byte)
high_made StartSp h = ((tt, refl, refl), refl)
high_made (Loaded16 k) h = ((tt, refl, refl), refl)
high_made (Sum16 a b) h = ((h.0, refl, refl), refl)
high_made (Join g l) h = (h.0.0, h.0.2)
high_made (Turned c) h = (tt, refl)
high_made Unknown h = (tt, refl)
high_made w h = absurd (false≢true h.1)

low_made : (w : Term) → IsMadeAs is_word w → IsMadeAs is_byte (low w)
low_made (Num n) h =
    let byte : n % 256 < 256 = omega arith in
    (omega arith, lt-ltb (n % 256) 256 byte)
low_made StartSp h = ((tt, refl, refl), refl)
low_made (Loaded16 k) h = ((tt, refl, refl), refl)
low_made (Sum16 a b) h = ((h.0, refl, refl), refl)
low_made (Join g l) h = (h.0.1, h.0.3)
low_made (Turned c) h = (tt, refl)
low_made Unknown h = (tt, refl)
low_made w h = absurd (false≢true h.1)

joined : (x : Bool) (w w' : Term) → IsMadeAs is_byte (High w) → IsMadeAs is_byte (Low w') → (same_term w w' && not (is_adjusted w)) ≡ x → IsMadeAs is_word (cond x w (Join (High w) (Low w')))
joined true w w' h l e = (h.0.0, h.0.1)
joined false w w' h l e = ((h.0, l.0, refl, refl, ap (λ x. cond x w (Join (High w) (Low w'))) e), refl)

join_made : (h l : Term) → IsMadeAs is_byte h → IsMadeAs is_byte l → IsMadeAs is_word (join h l)
join_made (Num h) (Num l) p q =
    let first : h < 256 = ltb-true h 256 p.1 in
    let second : l < 256 = ltb-true l 256 q.1 in
    let word : 256 * h + l < 0x10000 = omega arith in
    (word, lt-ltb (256 * h + l) 0x10000 word)
join_made (High w) (Low w') p q = joined (same_term w w' && not (is_adjusted w)) w w' p q refl
join_made h l p q = ((p.0, q.0, p.1, q.1, refl), refl)

one_made : (s z ac p cy : Term) (part : Part) → IsTermMade (FlagByte s z ac p cy) → IsMadeAs is_bit (chosen_flag s z ac p cy part)
one_made s z ac p cy S m = (m.0, m.5)
one_made s z ac p cy Z m = (m.1, m.6)
one_made s z ac p cy Ac m = (m.2, m.7)
one_made s z ac p cy P m = (m.3, m.8)
one_made s z ac p cy Cy m = (m.4, m.9)
one_made s z ac p cy part m = (tt, refl)

bit_made : (b : Term) (part : Part) → IsMadeAs is_byte b → is_flag part ≡ true → IsMadeAs is_bit (bit b part)
bit_made (FlagByte s z ac p cy) part h f = one_made s z ac p cy part h.0
bit_made Unknown part h f = (tt, refl)
bit_made b part h f = ((h.0, h.1, f, refl), refl)

pub sorts : MadeTermsHaveSorts
sorts = record {
  open_shows = open_shows;
  bits_are_bytes = λ t m. (m.0, bit_is_byte t m.1);
  bytes_are_words = λ n below. (below, lt-ltb n 0x10000 below);
  alu = λ op a b c p q r. kept (IsMadeAs is_byte) (is_open a || (is_open b || is_open c)) (Alu op a b c) (tt, refl) (λ e. ((p.0, q.0, r.0, p.1, q.1, r.1, e), refl));
  flag = λ part r p. kept (IsMadeAs is_bit) (is_open r) (flag_term_of part r) (tt, refl) (λ e. flag_made part r p.0 p.1 (leaves_is_flag part r p.1) e);
  sum16 = λ a b p q. kept (IsMadeAs is_word) (is_open a || is_open b) (sum_of a b) (tt, refl) (λ e. sum_made a b p q e);
  high = high_made;
  low = low_made;
  join = join_made;
  flag_byte = λ s z ac p cy s' z' ac' p' cy'. ((s'.0, z'.0, ac'.0, p'.0, cy'.0, s'.1, z'.1, ac'.1, p'.1, cy'.1), refl);
  bit = bit_made;
  turn = λ kind a c small p q. kept (IsMadeAs is_byte) (is_open a || is_open c) (Turn kind a c) (tt, refl) (λ e. ((p.0, q.0, small, p.1, q.1, e), refl));
  turned = λ c p. (p, refl);
  adjust = λ a ac cy p q r. kept (IsMadeAs is_byte) (is_open a || (is_open ac || is_open cy)) (Adjust a ac cy) (tt, refl) (λ e. ((p.0, q.0, r.0, p.1, q.1, r.1, e), refl));
}
