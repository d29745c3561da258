-- The lines of a text: its first line and the rest, that there are some, and that there is one way.
use Rattle.std.proofs.Common.{◌≡◌, ◌≢◌, ℕ, zero, suc, nat_lt, ◌+◌, ◌-◌, ◌<◌, ◌≤◌, ◌==◌, Bool, true, false, cond, List, [], ◌∷◌, ◌++◌, length, take, drop, get_or, map, Some, None, refl, sym, ap, ◌∙◌, subst, inl, inr, arith, add-one, drop-cons}
use Rattle.std.specs.List.{AllByRecursion, position, position_or_len}
use Rattle.std.proofs.lemmas.Bool.{cases_eq, cases_lt, eq-eqb, ne_eqb, eqb-true, lt-ltb}
use Rattle.std.proofs.lemmas.List.{length-drop, take-append-drop, take_all, drop_all}
use Rattle.std.proofs.lemmas.List.Quantifiers.{position-Some}
use Rattle.base.specs.Cut.{Cut, without_cr, last_line}
use Rattle.base.proofs.Cuts.{regroup, one_cut}
use Rattle.hex_file.specs.Lines.{IsNotLf, AreLines, FirstLine}

-- ---- there is one way, and there is one

pub one_way : (text : List ℕ) (lines others : List (List ℕ)) → AreLines text lines → AreLines text others → lines ≡ others
one_way text lines others h k =
    let same = one_cut (λ b ne. ne) h.cut k.cut in
    h.lines_are ∙ ap (λ raw. map without_cr raw ++ last_line h.rest) same.0 ∙ ap (λ rest. map without_cr k.raw ++ last_line rest) same.1 ∙ sym k.lines_are

pub no_line : AreLines [] []
no_line = record { raw = []; rest = []; cut = record { whole = refl; each = tt; last = tt }; lines_are = refl }

-- a line that LF ends, before other lines
pub line_before : (line rest : List ℕ) (lines : List (List ℕ)) → AllByRecursion IsNotLf line → AreLines rest lines → AreLines (line ++ 10 ∷ rest) (without_cr line ∷ lines)
line_before line rest lines plain h = record {
  raw = line ∷ h.raw;
  rest = h.rest;
  cut = record {
    whole = ap (λ t. line ++ 10 ∷ t) h.cut.whole ∙ sym (regroup line h.raw h.rest);
    each = (plain, h.cut.each);
    last = h.cut.last;
  };
  lines_are = ap (λ ls. without_cr line ∷ ls) h.lines_are;
}

-- a last line with no LF
last_alone : (b : ℕ) (bytes : List ℕ) → AllByRecursion IsNotLf (b ∷ bytes) → AreLines (b ∷ bytes) ((b ∷ bytes) ∷ [])
last_alone b bytes plain = record { raw = []; rest = b ∷ bytes; cut = record { whole = refl; each = tt; last = plain }; lines_are = refl }

-- ---- the first line

abbrev pub is_lf : ℕ → Bool
is_lf b = b == 10

plain_more : (b n : ℕ) (text : List ℕ) → b ≢ 10 → AllByRecursion IsNotLf (take n text) → AllByRecursion IsNotLf (take (1 + n) (b ∷ text))
plain_more b n text ne h = let e : 1 + n ≡ suc n = omega arith in subst (λ m. AllByRecursion IsNotLf (take m (b ∷ text))) (sym e) (ne, h)

front_plain : (text : List ℕ) → AllByRecursion IsNotLf (take (position_or_len is_lf text) text)
front_plain [] = tt
front_plain (b ∷ text) = elim (cases_eq b 10) [
  | inl e ↦ rw (eq-eqb b 10 e) tt
  | inr ne ↦ rw (ne_eqb b 10 ne) (plain_more b (position_or_len is_lf text) text ne (front_plain text))
]

-- a place that is the first LF
place_is : (text : List ℕ) (i : ℕ) → position is_lf text ≡ Some i → i ≡ position_or_len is_lf text
place_is text i e = of_test (nat_lt (position_or_len is_lf text) (length text)) (position_or_len is_lf text) i e
  where
    of_test : (t : Bool) (n i : ℕ) → cond t (Some n) None ≡ Some i → i ≡ n
    of_test true n i e = cc
    of_test false n i e = cc

pub ended_first : (text line : List ℕ) (i : ℕ) → position is_lf text ≡ Some i → line ≡ without_cr (take i text) → FirstLine text line (take (length text - (i + 1)) (drop (i + 1) text))
ended_first text line i found is =
    let at = position-Some is_lf text i 0 found in
    let within : i < length text = at.0 in
    let plain : AllByRecursion IsNotLf (take i text) = subst (λ n. AllByRecursion IsNotLf (take n text)) (sym (place_is text i found)) (front_plain text) in
    let rest_whole : take (length text - (i + 1)) (drop (i + 1) text) ≡ drop (i + 1) text = take_all (length text - (i + 1)) (drop (i + 1) text) (omega (arith, length-drop (i + 1) text)) in
    let lf : get_or text i 0 ≡ 10 = eqb-true (get_or text i 0) 10 at.1 in
    let parts : take i text ++ 10 ∷ drop (i + 1) text ≡ text =
    ap (λ b. take i text ++ b ∷ drop (i + 1) text) (sym lf) ∙ ap (λ t. take i text ++ t) (ap (λ n. get_or text i 0 ∷ drop n text) (add-one i) ∙ sym (drop-cons text i 0 within)) ∙ take-append-drop i text in
    record {
      goes_on = λ lines h.
          subst (λ t. AreLines t (line ∷ lines)) parts
          (subst (λ l. AreLines (take i text ++ 10 ∷ drop (i + 1) text) (l ∷ lines)) (sym is)
          (line_before (take i text) (drop (i + 1) text) lines plain (subst (λ t. AreLines t lines) rest_whole h)));
      shorter = omega (arith, within, ap length rest_whole, length-drop (i + 1) text);
    }

no_place : (text : List ℕ) → position is_lf text ≡ None → length text ≤ position_or_len is_lf text
no_place text e = elim (cases_lt (position_or_len is_lf text) (length text)) [
  | inl lt ↦ absurd (is_some (position_or_len is_lf text) (nat_lt (position_or_len is_lf text) (length text)) (lt-ltb (position_or_len is_lf text) (length text) lt) e)
  | inr le ↦ le
]
  where
    is_some : (n : ℕ) (t : Bool) → t ≡ true → cond t (Some n) None ≡ None → ⊥
    is_some n true h e = cc
    is_some n false h e = cc

pub last_first : (text : List ℕ) → 0 < length text → position is_lf text ≡ None → FirstLine text text (take (length text - length text) (drop (length text) text))
last_first [] some none = absurd (omega (arith, some))
last_first (b ∷ bytes) some none =
    let text = b ∷ bytes in
    let plain : AllByRecursion IsNotLf (b ∷ bytes) = subst (AllByRecursion IsNotLf) (take_all (position_or_len is_lf (b ∷ bytes)) (b ∷ bytes) (no_place (b ∷ bytes) none)) (front_plain (b ∷ bytes)) in
    let empty : take (length (b ∷ bytes) - length (b ∷ bytes)) (drop (length (b ∷ bytes)) (b ∷ bytes)) ≡ [] = ap (take (length (b ∷ bytes) - length (b ∷ bytes))) (drop_all (length (b ∷ bytes)) (b ∷ bytes) (omega arith)) ∙ take_none (length (b ∷ bytes) - length (b ∷ bytes)) in
    record {
      goes_on = λ lines h.
          subst (λ ls. AreLines (b ∷ bytes) ((b ∷ bytes) ∷ ls)) (one_way [] [] lines no_line (subst (λ t. AreLines t lines) empty h)) (last_alone b bytes plain);
      shorter = omega (arith, ap length empty);
    }
  where
    take_none : (n : ℕ) → take {A = ℕ} n [] ≡ []
    take_none zero = refl
    take_none (suc n) = refl

-- ---- some way

cut_with : (b : ℕ) (text rest : List ℕ) (raw : List (List ℕ)) → b ≢ 10 → Cut IsNotLf text raw rest → (lines : List (List ℕ)) × AreLines (b ∷ text) lines
cut_with b text rest [] ne c = (_, record { raw = []; rest = b ∷ rest; cut = record { whole = ap (λ t. b ∷ t) c.whole; each = tt; last = (ne, c.last) }; lines_are = refl })
cut_with b text rest (line ∷ raw) ne c =
    (_, record { raw = (b ∷ line) ∷ raw; rest = rest; cut = record { whole = ap (λ t. b ∷ t) c.whole; each = ((ne, c.each.0), c.each.1); last = c.last }; lines_are = refl })

pub some_way : (text : List ℕ) → (lines : List (List ℕ)) × AreLines text lines
some_way [] = ([], no_line)
some_way (b ∷ text) =
    let h = some_way text in
    elim (cases_eq b 10) [
      | inl e ↦ (_, subst (λ n. AreLines (n ∷ text) ([] ∷ h.0)) (sym e) (line_before [] text h.0 tt h.1))
      | inr ne ↦ cut_with b text h.1.rest h.1.raw ne h.1.cut
    ]
