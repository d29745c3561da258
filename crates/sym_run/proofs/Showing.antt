-- What is unknown in a made term shows.
use Rattle.std.proofs.Common.{◌≡◌, ◌∙◌, ◌&&◌, ◌||◌, ◌==◌, not, Bool, true, false, refl, sym, ap}
use Rattle.std.proofs.lemmas.Bool.{eq-eqb, or_from, or_parts}
use Rattle.xlt_pool.specs.Contents.{Contents}
use Rattle.sym_terms.specs.declared.head.Term.{Term as TermId}
use Rattle.sym_terms.specs.Heads.{number_of_id}
use Rattle.sym_terms.specs.Term.{Term, Num, Start, StartSp, Loaded8, Loaded16, Alu, Flag, Sum16, High, Low, Join, FlagByte, Bit, Turn, Turned, Adjust, Code, Unknown, is_bit, is_byte, is_open, same_term}
use Rattle.sym_terms.specs.Making.{IsTermMade}
use Rattle.sym_terms.specs.Laws.{MadeTermsHaveSorts}
use Rattle.sym_terms.specs.Trees.{tree_in, IsGiven, AreTerms}
use Rattle.sym_terms.proofs.Equal.{same_term-true, same_term_refl}
use Rattle.sym_terms.proofs.Making.{same_ids}
use Rattle.sym_block_def.specs.Agree.{has_unknown, agrees}
use Rattle.sym_run.specs.Five.{is_byte_of_flags, is_put_together}

-- where nothing is open, nothing is unknown
closed_knows : (t : Term) → is_open t ≡ false → has_unknown t ≡ false
closed_knows (Num n) h = refl
closed_knows (Start part) h = refl
closed_knows StartSp h = refl
closed_knows (Loaded8 k) h = refl
closed_knows (Loaded16 k) h = refl
closed_knows (Alu op a b c) h =
    let rest = (or_parts (is_open a) (is_open b || is_open c) h).1 in
    or_from (has_unknown a) (has_unknown b || has_unknown c) (closed_knows a (or_parts (is_open a) (is_open b || is_open c) h).0)
    (or_from (has_unknown b) (has_unknown c) (closed_knows b (or_parts (is_open b) (is_open c) rest).0) (closed_knows c (or_parts (is_open b) (is_open c) rest).1))
closed_knows (Flag part r) h = closed_knows r h
closed_knows (Sum16 a b) h = or_from (has_unknown a) (has_unknown b) (closed_knows a (or_parts (is_open a) (is_open b) h).0) (closed_knows b (or_parts (is_open a) (is_open b) h).1)
closed_knows (High w) h = closed_knows w h
closed_knows (Low w) h = closed_knows w h
closed_knows (Join a b) h = or_from (has_unknown a) (has_unknown b) (closed_knows a (or_parts (is_open a) (is_open b) h).0) (closed_knows b (or_parts (is_open a) (is_open b) h).1)
closed_knows (FlagByte s z ac p cy) h = absurd (cc)
closed_knows (Bit b part) h = closed_knows b h
closed_knows (Turn kind a b) h = or_from (has_unknown a) (has_unknown b) (closed_knows a (or_parts (is_open a) (is_open b) h).0) (closed_knows b (or_parts (is_open a) (is_open b) h).1)
closed_knows (Turned c) h = absurd (cc)
closed_knows (Adjust a b c) h =
    let rest = (or_parts (is_open a) (is_open b || is_open c) h).1 in
    or_from (has_unknown a) (has_unknown b || has_unknown c) (closed_knows a (or_parts (is_open a) (is_open b || is_open c) h).0)
    (or_from (has_unknown b) (has_unknown c) (closed_knows b (or_parts (is_open b) (is_open c) rest).0) (closed_knows c (or_parts (is_open b) (is_open c) rest).1))
closed_knows (Code q high) h = refl
closed_knows Unknown h = absurd (cc)

module _ (k : MadeTermsHaveSorts) where
  -- of a plain term that is no FlagByte, only an Unknown itself is unknown
  pub plain_unknown : (t : Term) → IsTermMade t → is_put_together t ≡ true → is_byte_of_flags t ≡ false → has_unknown t ≡ same_term t Unknown
  plain_unknown (Join a b) m p f = absurd (cc)
  plain_unknown (Turned c) m p f = absurd (cc)
  plain_unknown (FlagByte s z ac p cy) m q f = absurd (cc)
  plain_unknown Unknown m p f = refl
  plain_unknown (Num n) m p f = closed_knows (Num n) (k.open_shows (Num n) m)
  plain_unknown (Start part) m p f = closed_knows (Start part) (k.open_shows (Start part) m)
  plain_unknown StartSp m p f = closed_knows StartSp (k.open_shows StartSp m)
  plain_unknown (Loaded8 n) m p f = closed_knows (Loaded8 n) (k.open_shows (Loaded8 n) m)
  plain_unknown (Loaded16 n) m p f = closed_knows (Loaded16 n) (k.open_shows (Loaded16 n) m)
  plain_unknown (Alu op a b c) m p f = closed_knows (Alu op a b c) (k.open_shows (Alu op a b c) m)
  plain_unknown (Flag part r) m p f = closed_knows (Flag part r) (k.open_shows (Flag part r) m)
  plain_unknown (Sum16 a b) m p f = closed_knows (Sum16 a b) (k.open_shows (Sum16 a b) m)
  plain_unknown (High w) m p f = closed_knows (High w) (k.open_shows (High w) m)
  plain_unknown (Low w) m p f = closed_knows (Low w) (k.open_shows (Low w) m)
  plain_unknown (Bit b part) m p f = closed_knows (Bit b part) (k.open_shows (Bit b part) m)
  plain_unknown (Turn kind a c) m p f = closed_knows (Turn kind a c) (k.open_shows (Turn kind a c) m)
  plain_unknown (Adjust a ac cy) m p f = closed_knows (Adjust a ac cy) (k.open_shows (Adjust a ac cy) m)
  plain_unknown (Code q high) m p f = closed_knows (Code q high) (k.open_shows (Code q high) m)

  known_as : (x y u : Bool) → x ≡ false → y ≡ false → (u && not x) ≡ (y || u)
  known_as x y true p q = ap not p ∙ sym (ap (λ b. b || true) q)
  known_as x y false p q = sym (ap (λ b. b || false) q)

  -- such a term agrees with what it is, and an Unknown with everything
  pub plain_agrees : (s t : Term) → IsTermMade s → is_put_together s ≡ true → is_byte_of_flags s ≡ false → agrees s t ≡ (same_term s Unknown || same_term s t)
  plain_agrees (Join a b) t m p f = absurd (cc)
  plain_agrees (Turned c) t m p f = absurd (cc)
  plain_agrees (FlagByte s z ac p cy) t m q f = absurd (cc)
  plain_agrees Unknown t m p f = refl
  plain_agrees (Num n) t m p f = known_as (has_unknown (Num n)) false (same_term (Num n) t) (plain_unknown (Num n) m p f) refl
  plain_agrees (Start part) t m p f = known_as (has_unknown (Start part)) false (same_term (Start part) t) (plain_unknown (Start part) m p f) refl
  plain_agrees StartSp t m p f = known_as (has_unknown StartSp) false (same_term StartSp t) (plain_unknown StartSp m p f) refl
  plain_agrees (Loaded8 n) t m p f = known_as (has_unknown (Loaded8 n)) false (same_term (Loaded8 n) t) (plain_unknown (Loaded8 n) m p f) refl
  plain_agrees (Loaded16 n) t m p f = known_as (has_unknown (Loaded16 n)) false (same_term (Loaded16 n) t) (plain_unknown (Loaded16 n) m p f) refl
  plain_agrees (Alu op a b c) t m p f = known_as (has_unknown (Alu op a b c)) false (same_term (Alu op a b c) t) (plain_unknown (Alu op a b c) m p f) refl
  plain_agrees (Flag part r) t m p f = known_as (has_unknown (Flag part r)) false (same_term (Flag part r) t) (plain_unknown (Flag part r) m p f) refl
  plain_agrees (Sum16 a b) t m p f = known_as (has_unknown (Sum16 a b)) false (same_term (Sum16 a b) t) (plain_unknown (Sum16 a b) m p f) refl
  plain_agrees (High w) t m p f = known_as (has_unknown (High w)) false (same_term (High w) t) (plain_unknown (High w) m p f) refl
  plain_agrees (Low w) t m p f = known_as (has_unknown (Low w)) false (same_term (Low w) t) (plain_unknown (Low w) m p f) refl
  plain_agrees (Bit b part) t m p f = known_as (has_unknown (Bit b part)) false (same_term (Bit b part) t) (plain_unknown (Bit b part) m p f) refl
  plain_agrees (Turn kind a c) t m p f = known_as (has_unknown (Turn kind a c)) false (same_term (Turn kind a c) t) (plain_unknown (Turn kind a c) m p f) refl
  plain_agrees (Adjust a ac cy) t m p f = known_as (has_unknown (Adjust a ac cy)) false (same_term (Adjust a ac cy) t) (plain_unknown (Adjust a ac cy) m p f) refl
  plain_agrees (Code q high) t m p f = known_as (has_unknown (Code q high)) false (same_term (Code q high) t) (plain_unknown (Code q high) m p f) refl

-- bytes and bits are plain, and bits are no FlagBytes

pub byte_plain : (t : Term) → is_byte t ≡ true → is_put_together t ≡ true
byte_plain (Join h l) s = absurd (cc)
byte_plain (Turned c) s = absurd (cc)
byte_plain t s = refl

pub bit_plain : (t : Term) → is_bit t ≡ true → is_put_together t ≡ true
bit_plain (Join h l) s = absurd (cc)
bit_plain (Turned c) s = absurd (cc)
bit_plain t s = refl

pub bit_no_flags : (t : Term) → is_bit t ≡ true → is_byte_of_flags t ≡ false
bit_no_flags (FlagByte s z ac p cy) h = absurd (cc)
bit_no_flags t h = refl

-- two ids are one where their terms are

by_test : (pool : Contents) (s t : TermId) (x y : Bool) → AreTerms pool → IsGiven pool s → IsGiven pool t → (number_of_id s == number_of_id t) ≡ x → same_term (tree_in pool s) (tree_in pool t) ≡ y → x ≡ y
by_test pool s t true true terms p q e f = refl
by_test pool s t false false terms p q e f = refl
by_test pool s t true false terms p q e f =
    let one : s ≡ t = same_ids s t e in
    let same : same_term (tree_in pool s) (tree_in pool t) ≡ true = ap (λ r. same_term (tree_in pool s) (tree_in pool r)) (sym one) ∙ same_term_refl (tree_in pool s) in
    absurd (cc)
by_test pool s t false true terms p q e f =
    let one : s ≡ t = terms.shared s t p q (same_term-true (tree_in pool s) (tree_in pool t) f) in
    let same : (number_of_id s == number_of_id t) ≡ true = ap (λ r. number_of_id s == number_of_id r) (sym one) ∙ eq-eqb (number_of_id s) (number_of_id s) refl in
    absurd (cc)

pub same_is : (pool : Contents) (s t : TermId) → AreTerms pool → IsGiven pool s → IsGiven pool t → (number_of_id s == number_of_id t) ≡ same_term (tree_in pool s) (tree_in pool t)
same_is pool s t terms p q = by_test pool s t (number_of_id s == number_of_id t) (same_term (tree_in pool s) (tree_in pool t)) terms p q refl refl
