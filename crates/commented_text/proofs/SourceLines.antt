-- The lines of a source are those that its reader reads.
use Rattle.std.proofs.Common.{◌≡◌, ◌≢◌, ℕ, List, [], ◌∷◌, ◌++◌, map, take, true, refl, sym, ap, ◌∙◌, inl, inr}
use Rattle.std.specs.Prelude.{◌==◌}
use Rattle.std.specs.List.{flat_map, AllByRecursion}
use Rattle.std.proofs.lemmas.Bool.{cases_Bool, eqb-true, eqb-false}
use Rattle.base.specs.Cut.{ended, without_cr, last_line}
use Rattle.asm80_text.specs.Stream.{IsPlain, closed}
use Rattle.commented_text.specs.Commented.{AreLinesOf}
use Rattle.commented_text.specs.Lines.{source_len, with_byte, parts_of, lines_of_parts, lines_of_source}
use Rattle.commented_text.proofs.FirstLine.{one_more, some_parts}

-- ---- the parts of bytes

raw_of : List (List ℕ) → List (List ℕ)
raw_of [] = []
raw_of (part ∷ []) = []
raw_of (part ∷ (next ∷ parts)) = part ∷ raw_of (next ∷ parts)

rest_of : List (List ℕ) → List ℕ
rest_of [] = []
rest_of (part ∷ []) = part
rest_of (part ∷ (next ∷ parts)) = rest_of (next ∷ parts)

lines_split : (parts : List (List ℕ)) → lines_of_parts parts ≡ map without_cr (raw_of parts) ++ last_line (rest_of parts)
unfolding raw_of rest_of
lines_split [] = refl
lines_split (part ∷ []) = refl
lines_split (part ∷ (next ∷ parts)) = ap (λ (t : List (List ℕ)). without_cr part ∷ t) (lines_split (next ∷ parts))

-- parts put together again
whole_of : List (List ℕ) → List ℕ
whole_of parts = flat_map ended (raw_of parts) ++ rest_of parts

with_whole : (b : ℕ) (parts : List (List ℕ)) → whole_of (with_byte b parts) ≡ b ∷ whole_of parts
unfolding whole_of raw_of rest_of
with_whole b [] = refl
with_whole b (part ∷ []) = refl
with_whole b (part ∷ (next ∷ parts)) = refl

lf_whole : (parts : List (List ℕ)) → (parts ≡ [] → ⊥) → whole_of ([] ∷ parts) ≡ 10 ∷ whole_of parts
unfolding whole_of raw_of rest_of
lf_whole [] some = absurd (some refl)
lf_whole (part ∷ parts) some = refl

whole_parts : (bytes : List ℕ) → whole_of (parts_of bytes) ≡ bytes
unfolding whole_of raw_of rest_of
whole_parts [] = refl
whole_parts (b ∷ bytes) = elim (cases_Bool (b == 10)) [
  | inl e ↦ rw e (lf_whole (parts_of bytes) (some_parts bytes) ∙ ap (λ (t : List ℕ). 10 ∷ t) (whole_parts bytes) ∙ ap (λ (t : ℕ). t ∷ bytes) (sym (eqb-true b 10 e)))
  | inr e ↦ rw e (with_whole b (parts_of bytes) ∙ ap (λ (t : List ℕ). b ∷ t) (whole_parts bytes))
]

-- ---- none of them has an LF or the byte 1AH

abbrev AreOpen : List ℕ → Type 0
AreOpen bytes = AllByRecursion (λ (b : ℕ). b ≢ 26) bytes

abbrev ArePlain : List (List ℕ) → Type 0
ArePlain parts = AllByRecursion (AllByRecursion IsPlain) parts

with_plain : (b : ℕ) (parts : List (List ℕ)) → IsPlain b → ArePlain parts → ArePlain (with_byte b parts)
with_plain b [] p h = ((p, tt), tt)
with_plain b (part ∷ parts) p h = ((p, h.0), h.1)

parts_plain : (bytes : List ℕ) → AreOpen bytes → ArePlain (parts_of bytes)
parts_plain [] h = (tt, tt)
parts_plain (b ∷ bytes) h = elim (cases_Bool (b == 10)) [
  | inl e ↦ rw e (tt, parts_plain bytes h.1)
  | inr e ↦ rw e (with_plain b (parts_of bytes) (eqb-false b 10 e, h.0) (parts_plain bytes h.1))
]

raw_plain : (parts : List (List ℕ)) → ArePlain parts → ArePlain (raw_of parts)
unfolding raw_of
raw_plain [] h = tt
raw_plain (part ∷ []) h = tt
raw_plain (part ∷ (next ∷ parts)) h = (h.0, raw_plain (next ∷ parts) h.1)

rest_plain : (parts : List (List ℕ)) → ArePlain parts → AllByRecursion IsPlain (rest_of parts)
unfolding rest_of
rest_plain [] h = tt
rest_plain (part ∷ []) h = h.0
rest_plain (part ∷ (next ∷ parts)) h = rest_plain (next ∷ parts) h.1

-- ---- the bytes before 1AH

abbrev before_end : List ℕ → List ℕ
before_end source = take (source_len source) source

open_before : (source : List ℕ) → AreOpen (before_end source)
open_before [] = tt
open_before (b ∷ source) = elim (cases_Bool (b == 26)) [
  | inl e ↦ rw e tt
  | inr e ↦ rw (e, one_more (source_len source)) (eqb-false b 26 e, open_before source)
]

record HasEnd (source : List ℕ) : Type 0 where
  more : List ℕ
  is : source ++ 26 ∷ [] ≡ before_end source ++ 26 ∷ more

has_end : (source : List ℕ) → HasEnd source
has_end [] = record { more = []; is = refl }
has_end (b ∷ source) = elim (cases_Bool (b == 26)) [
  | inl e ↦ record { more = source ++ 26 ∷ []; is = rw e (ap (λ (t : ℕ). t ∷ (source ++ 26 ∷ [])) (eqb-true b 26 e)) }
  | inr e ↦ let h = has_end source in record { more = h.more; is = rw (e, one_more (source_len source)) (ap (λ (t : List ℕ). b ∷ t) h.is) }
]

pub lines_are : (source : List ℕ) → AreLinesOf source (lines_of_source source)
unfolding whole_of
lines_are source =
    let text = before_end source in
    let parts = parts_of text in
    let end = has_end source in
    let plain = parts_plain text (open_before source) in
    record {
      raw = raw_of parts;
      rest = rest_of parts;
      is_closed = true;
      cut = closed text end.more (record { whole = sym (whole_parts text); each = raw_plain parts plain; last = rest_plain parts plain }) end.is;
      are = lines_split parts;
    }
