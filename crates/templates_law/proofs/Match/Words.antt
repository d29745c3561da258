-- Words that meet: joined of bytes that meet, taken apart, and summed.
use Rattle.std.specs.Prelude.{◌&&◌, not}
use Rattle.std.proofs.Common.{◌≡◌, ℕ, zero, suc, ◌+◌, ◌*◌, ◌/◌, ◌%◌, ◌<◌, ◌||◌, ◌⊎◌, inl, inr, Bool, true, false, cond, refl, sym, ap, ap₂, ◌∙◌, arith}
use Rattle.std.proofs.lemmas.Bool.{ltb-true, or_right, and_from, and_parts, or_from, or_parts}
use Rattle.cells.specs.declared.Part.TheVariants.{Cy}
use Rattle.i80.specs.declared.Op.TheVariants.{Add, Adc}
use Rattle.sym_terms.specs.Term.{Term, Num, Sum16, High, Low, Join, Turned, Unknown, is_byte, is_open, is_adjusted, same_term}
use Rattle.sym_terms.specs.Making.{sum16, sum_of, regrouped, plus, high, low, join, carry_of}
use Rattle.sym_terms.specs.Laws.{IsMadeAs}
use Rattle.sym_terms.proofs.Equal.{same_term-true}
use Rattle.sym_block_def.specs.Agree.{has_unknown, agrees}
use Rattle.templates_law.specs.Match.Meeting.{Meets, lost, same, WordsMeet, no_word, one_word, halves}
use Rattle.templates_law.proofs.Match.Terms.{or_first, agrees_self, meets_agree, meets_at, unknown_if, flags_meet, alus_meet, number_meets}

-- the halves of bytes that were joined

word_low : (x : Bool) (w w' : Term) → (same_term w w' && not (is_adjusted w)) ≡ x → (x ≡ true → w ≡ w') → low w' ≡ Low w' → low (cond x w (Join (High w) (Low w'))) ≡ Low w'
word_low true w w' e one made = ap low (one refl) ∙ made
word_low false w w' e one made = refl

pub low_of_join : (h l : Term) → IsMadeAs is_byte l → low (join h l) ≡ l
low_of_join (Num h) (Num l) m =
    let below : l < 256 = ltb-true l 256 m.1 in
    let e : (256 * h + l) % 256 ≡ l = omega arith in
    ap Num e
low_of_join (High w) (Low w') m = word_low (same_term w w' && not (is_adjusted w)) w w' refl (λ e. same_term-true w w' (and_parts (same_term w w') _ e).0) m.0.2
low_of_join h l m = refl

word_high : (x : Bool) (w w' : Term) → high w ≡ High w → high (cond x w (Join (High w) (Low w'))) ≡ High w
word_high true w w' made = made
word_high false w w' made = refl

pub high_of_join : (h l : Term) → IsMadeAs is_byte h → IsMadeAs is_byte l → high (join h l) ≡ h
high_of_join (Num h) (Num l) m n =
    let below : l < 256 = ltb-true l 256 n.1 in
    let e : (256 * h + l) / 256 ≡ h = omega arith in
    ap Num e
high_of_join (High w) (Low w') m n = word_high (same_term w w' && not (is_adjusted w)) w w' m.0.2
high_of_join h l m n = refl

join_to_unknown : (h : Term) → join h Unknown ≡ Join h Unknown
join_to_unknown (Num n) = refl
join_to_unknown (High w) = refl
join_to_unknown h = refl

joined_known : (x : Bool) (w w' : Term) → has_unknown w ≡ false → has_unknown w' ≡ false → has_unknown (cond x w (Join (High w) (Low w'))) ≡ false
joined_known true w w' k k' = k
joined_known false w w' k k' = or_from (has_unknown w) (has_unknown w') k k'

join_known : (h l : Term) → has_unknown h ≡ false → has_unknown l ≡ false → has_unknown (join h l) ≡ false
join_known (Num h) (Num l) k k' = refl
join_known (High w) (Low w') k k' = joined_known (same_term w w' && not (is_adjusted w)) w w' k k'
join_known h l k k' = or_from (has_unknown h) (has_unknown l) k k'

-- bytes that meet are joined to words that meet
pub joins_meet : (h h' l l' : Term) → IsMadeAs is_byte h → IsMadeAs is_byte l → IsMadeAs is_byte l' → Meets h h' → Meets l l' → WordsMeet (join h l) (join h' l')
joins_meet h h' l l' mh ml ml' (same eh kh) (same el kl) = one_word (ap₂ join eh el) (join_known h l kh kl)
joins_meet h h' l l' mh ml ml' (lost eh) m =
    halves h l (ap (λ x. join x l) eh ∙ ap (λ x. Join x l) (sym eh)) (ap (λ x. is_open (join x l)) eh) (lost eh) (meets_at l l' l (low (join h' l')) refl (low_of_join h' l' ml') m)
joins_meet h h' l l' mh ml ml' (same eh kh) (lost el) =
    halves h l (ap (λ x. join h x) el ∙ join_to_unknown h ∙ ap (λ x. Join h x) (sym el))
    (ap (λ x. is_open (join h x)) el ∙ ap is_open (join_to_unknown h) ∙ or_right (is_open h) true refl)
    (same (ap (λ x. high (join x l')) eh ∙ high_of_join h l' mh ml') kh)
    (lost el)

-- and words that meet are taken apart to bytes that meet

high_self : (w : Term) → has_unknown w ≡ false → Meets (high w) (high w)
high_self (Num n) k = same refl refl
high_self (Join h l) k = same refl (or_parts (has_unknown h) (has_unknown l) k).0
high_self (Turned c) k = lost refl
high_self Unknown k = lost refl
high_self w k = same refl k

low_self : (w : Term) → has_unknown w ≡ false → Meets (low w) (low w)
low_self (Num n) k = same refl refl
low_self (Join h l) k = same refl (or_parts (has_unknown h) (has_unknown l) k).1
low_self (Turned c) k = lost refl
low_self Unknown k = lost refl
low_self w k = same refl k

pub highs_meet : (s t : Term) → WordsMeet s t → Meets (high s) (high t)
highs_meet s t (no_word e) = lost (ap high e)
highs_meet s t (one_word e k) = meets_at (high s) (high s) _ _ refl (ap high e) (high_self s k)
highs_meet s t (halves h l e o mh ml) = meets_at h (high t) _ _ (ap high e) refl mh

pub lows_meet : (s t : Term) → WordsMeet s t → Meets (low s) (low t)
lows_meet s t (no_word e) = lost (ap low e)
lows_meet s t (one_word e k) = meets_at (low s) (low s) _ _ refl (ap low e) (low_self s k)
lows_meet s t (halves h l e o mh ml) = meets_at l (low t) _ _ (ap low e) refl ml

-- words that meet agree
pub words_agree : (s t : Term) → WordsMeet s t → agrees s t ≡ true
words_agree s t (no_word e) = ap (λ x. agrees x t) e
words_agree s t (one_word e k) = ap (λ x. agrees s x) e ∙ agrees_self s k
words_agree s t (halves h l e o mh ml) = ap (λ x. agrees x t) e ∙ or_right _ _ (and_from (agrees h (high t)) (agrees l (low t)) (meets_agree h (high t) mh) (meets_agree l (low t) ml))

-- sums

open_or_one : (s t : Term) → WordsMeet s t → (is_open s ≡ true) ⊎ ((t ≡ s) × (has_unknown s ≡ false))
open_or_one s t (no_word e) = inl (ap is_open e)
open_or_one s t (one_word e k) = inr (e, k)
open_or_one s t (halves h l e o mh ml) = inl o

plus_known : (a : Term) (n : ℕ) → has_unknown a ≡ false → has_unknown (plus a n) ≡ false
plus_known a zero k = k
plus_known a (suc n) k = or_from (has_unknown a) false k refl

gathered_known : (a : Term) (n : ℕ) → has_unknown a ≡ false → has_unknown (regrouped a n) ≡ false
gathered_known (Num m) n k = refl
gathered_known (Sum16 a (Num m)) n k = plus_known a ((m + n) % 0x10000) (or_parts (has_unknown a) false k).0
gathered_known a n k = plus_known a n k

sum_known : (a b : Term) → has_unknown a ≡ false → has_unknown b ≡ false → has_unknown (sum_of a b) ≡ false
sum_known a (Num n) k k' = gathered_known a n k
sum_known a b k k' = or_from (has_unknown a) (has_unknown b) k k'

word_if : (x : Bool) (t u : Term) → u ≡ cond x Unknown t → has_unknown t ≡ false → WordsMeet (cond x Unknown t) u
word_if true t u e k = no_word refl
word_if false t u e k = one_word e k

pub sums_meet : (a a' b b' : Term) → WordsMeet a a' → WordsMeet b b' → WordsMeet (sum16 a b) (sum16 a' b')
sums_meet a a' b b' m n = by_first (open_or_one a a' m) (open_or_one b b' n)
  where
    by_first : (is_open a ≡ true) ⊎ ((a' ≡ a) × (has_unknown a ≡ false)) → (is_open b ≡ true) ⊎ ((b' ≡ b) × (has_unknown b ≡ false)) → WordsMeet (sum16 a b) (sum16 a' b')
    by_first (inl o) q = no_word (unknown_if (is_open a || is_open b) (sum_of a b) (or_first (is_open a) (is_open b) o))
    by_first (inr p) (inl o) = no_word (unknown_if (is_open a || is_open b) (sum_of a b) (or_right (is_open a) (is_open b) o))
    by_first (inr p) (inr q) = word_if (is_open a || is_open b) (sum_of a b) (sum16 a' b') (ap₂ sum16 p.0 q.0) (sum_known a b p.1 q.1)

pub number_words_meet : (n : ℕ) → WordsMeet (Num n) (Num n)
number_words_meet n = one_word refl refl

pub carries_meet : (a a' b b' : Term) → WordsMeet a a' → WordsMeet b b' → Meets (carry_of a b) (carry_of a' b')
carries_meet a a' b b' m n =
    flags_meet Cy _ _
    (alus_meet Adc _ _ _ _ _ _ (highs_meet a a' m) (highs_meet b b' n)
    (flags_meet Cy _ _ (alus_meet Add _ _ _ _ _ _ (lows_meet a a' m) (lows_meet b b' n) (number_meets 0))))
