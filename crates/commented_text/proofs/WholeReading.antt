-- Bytes that are whole lines, each ended by LF.
use Rattle.std.proofs.Common.{◌≡◌, ℕ, List, [], ◌∷◌, ◌++◌, codes, refl, sym, ap, ◌∙◌, append_assoc, inl, inr}
use Rattle.std.specs.Prelude.{◌==◌}
use Rattle.std.specs.List.{flat_map, AllByRecursion}
use Rattle.std.proofs.lemmas.Grind.{flat_map-append}
use Rattle.std.proofs.lemmas.Bool.{cases_Bool, eqb-true, eqb-false}
use Rattle.base.specs.Cut.{ended}
use Rattle.asm86_line_types.specs.Written.{alone, with_one, with_two}
use Rattle.asm86.specs.Stream.{IsNotLf}

pub record AreWhole (bytes : List ℕ) : Type 0 where
  pub raw : List (List ℕ)
  pub is : bytes ≡ flat_map ended raw
  pub each : AllByRecursion (AllByRecursion IsNotLf) raw

pub none : AreWhole []
none = record { raw = []; is = refl; each = tt }

pub all_both : {X : Type 0} (P : X → Type 0) (xs ys : List X) → AllByRecursion P xs → AllByRecursion P ys → AllByRecursion P (xs ++ ys)
all_both P [] ys p q = q
all_both P (x ∷ xs) ys p q = (p.0, all_both P xs ys p.1 q)

pub both : {a b : List ℕ} → AreWhole a → AreWhole b → AreWhole (a ++ b)
both {a = a} {b = b} p q = record {
  raw = p.raw ++ q.raw;
  is = ap (λ (t : List ℕ). t ++ b) p.is ∙ ap (λ (t : List ℕ). flat_map ended p.raw ++ t) q.is ∙ sym (flat_map-append ended p.raw q.raw);
  each = all_both (AllByRecursion IsNotLf) p.raw q.raw p.each q.each;
}

-- ---- bytes that end with LF are whole lines

line_first : {bytes : List ℕ} → AreWhole bytes → AreWhole (10 ∷ bytes)
line_first w = record { raw = [] ∷ w.raw; is = ap (λ (t : List ℕ). 10 ∷ t) w.is; each = (tt, w.each) }

byte_first : (b : ℕ) → IsNotLf b → (bytes : List ℕ) (raw : List (List ℕ)) → bytes ≡ flat_map ended raw → AllByRecursion (AllByRecursion IsNotLf) raw → (bytes ≡ [] → ⊥) → AreWhole (b ∷ bytes)
byte_first b n bytes [] e h some = absurd (some e)
byte_first b n bytes (line ∷ raw) e h some = record { raw = (b ∷ line) ∷ raw; is = ap (λ (t : List ℕ). b ∷ t) e; each = ((n, h.0), h.1) }

not_none : (front : List ℕ) → front ++ 10 ∷ [] ≡ [] → ⊥
not_none [] e = cc
not_none (b ∷ front) e = cc

pub ends_whole : (front : List ℕ) → AreWhole (front ++ 10 ∷ [])
ends_whole [] = line_first none
ends_whole (b ∷ front) =
    let w = ends_whole front in
    elim (cases_Bool (b == 10)) [
      | inl e ↦ rw (eqb-true b 10 e) (line_first w)
      | inr e ↦ byte_first b (eqb-false b 10 e) (front ++ 10 ∷ []) w.raw w.is w.each (not_none front)
    ]

-- ---- the written forms

record EndsByLf (bytes : List ℕ) : Type 0 where
  front : List ℕ
  is : bytes ≡ front ++ 10 ∷ []

-- CR and LF
crlf : EndsByLf (codes "\r\n")
crlf = record { front = 13 ∷ []; is = refl }

after : (xs : List ℕ) {ys : List ℕ} → EndsByLf ys → EndsByLf (xs ++ ys)
after xs h = record { front = xs ++ h.front; is = ap (λ (t : List ℕ). xs ++ t) h.is ∙ sym (append_assoc xs h.front (10 ∷ [])) }

whole : {bytes : List ℕ} → EndsByLf bytes → AreWhole bytes
whole h = rw h.is (ends_whole h.front)

pub alone_end : (word : List ℕ) → AreWhole (alone word)
alone_end word = whole (after (9 ∷ []) (after word crlf))

pub one_end : (word first : List ℕ) → AreWhole (with_one word first)
one_end word first = whole (after (9 ∷ []) (after word (after (9 ∷ []) (after first crlf))))

pub two_end : (word first second : List ℕ) → AreWhole (with_two word first second)
two_end word first second = whole (after (9 ∷ []) (after word (after (9 ∷ []) (after first (after (codes ",") (after second crlf))))))

pub mark_end : (label : List ℕ) → AreWhole (label ++ codes ":\r\n")
mark_end label = whole (after label (after (codes ":") crlf))
