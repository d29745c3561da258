-- The lines that a text gives: each has a written line, where its numbers are in their ranges, and END is among them.
use Rattle.std.proofs.Common.{◌≡◌, ℕ, zero, suc, ◌+◌, ◌<◌, true, List, [], ◌∷◌, ◌++◌, length, get_or, take, Ok, refl, sym, ap, ◌∙◌, subst, arith}
use Rattle.std.specs.Prelude.{Result, IsTrue}
use Rattle.std.specs.List.{list_all}
use Rattle.std.proofs.lemmas.Bool.{and_parts}
use Rattle.std.proofs.lemmas.List.{map-append}
use Rattle.asm86_line_types.specs.declared.line.Stmt86.{Stmt86}
use Rattle.asm86_line_types.specs.declared.line.Line86.{Line86}
use Rattle.asm86_line_types.specs.declared.line.TextRule.{TextRule}
use Rattle.asm86_line_types.specs.Image.{statements}
use Rattle.asm86_line_reader.specs.Forms.{names_labels}
use Rattle.asm86_line_reader.specs.Line.{TextLineGives}
use Rattle.asm86_line_reader.specs.ReadBack.{has_line}
use Rattle.asm86.specs.Stream.{lines_of_number, has_end, AddsLine, Ending, Open, Ended, Broken, TextLinesGive, none_left, next, ends, breaks, outcome_of_text, TextGives}
use Rattle.shrink.specs.Written.{HaveLines, NameLabels}

-- ---- one line more has one

line_more : (xs : List Line86) (i : ℕ) (d : Line86) → i < length xs → HaveLines (statements (take i xs)) → has_line (get_or xs i d).stmt ≡ true → HaveLines (statements (take (suc i) xs))
line_more [] i d lt h here = absurd (omega arith)
line_more (x ∷ xs) zero d lt h here = (here, tt)
line_more (x ∷ xs) (suc i) d lt h here = (h.0, line_more xs i d (omega arith) h.1 here)

next_is : (i : ℕ) → suc i ≡ i + 1
next_is i = omega arith

pub one_line_more : (xs : List Line86) (i : ℕ) (d : Line86) → i < length xs → HaveLines (statements (take i xs)) → has_line (get_or xs i d).stmt ≡ true → HaveLines (statements (take (i + 1) xs))
one_line_more xs i d lt h here = subst (λ n. HaveLines (statements (take n xs))) (next_is i) (line_more xs i d lt h here)

pub name_of : (xs : List Line86) (i : ℕ) (d : Line86) → i < length xs → NameLabels (statements xs) → names_labels (get_or xs i d).stmt ≡ true
name_of [] i d lt h = absurd (omega arith)
name_of (x ∷ xs) zero d lt h = h.0
name_of (x ∷ xs) (suc i) d lt h = name_of xs i d (omega arith) h.1

-- ---- the lines of a text

names-append : (xs ys : List Stmt86) → NameLabels xs → NameLabels ys → NameLabels (xs ++ ys)
names-append [] ys h g = g
names-append (x ∷ xs) ys h g = (h.0, names-append xs ys h.1 g)

names_of_line : (xs : List Stmt86) → IsTrue (list_all names_labels xs) → NameLabels xs
names_of_line [] h = tt
names_of_line (x ∷ xs) h = let parts = and_parts (names_labels x) (list_all names_labels xs) h in (parts.0, names_of_line xs parts.1)

statements_of_number : (n : ℕ) (ss : List Stmt86) → statements (lines_of_number n ss) ≡ ss
statements_of_number n [] = refl
statements_of_number n (s ∷ ss) = ap (λ ts. s ∷ ts) (statements_of_number n ss)

module _ (law : (line : List ℕ) (ss : List Stmt86) → TextLineGives line (Ok ss) → IsTrue (list_all names_labels ss)) where
  names_more : (xs : List Line86) (n : ℕ) (line : List ℕ) (ys : List Line86) → AddsLine xs n line ys → NameLabels (statements xs) → NameLabels (statements ys)
  names_more xs n line ys a h =
      let is : statements xs ++ a.given ≡ statements ys =
      ap (λ ts. statements xs ++ ts) (sym (statements_of_number n a.given))
      ∙ sym (map-append (λ (l : Line86). l.stmt) xs (lines_of_number n a.given))
      ∙ ap statements (sym a.whole) in
      subst NameLabels is (names-append (statements xs) a.given h (names_of_line a.given (law line a.given a.reads)))

  names_of_lines : (n : ℕ) (xs : List Line86) (lines : List (List ℕ)) (zs : List Line86) (e : Ending) → TextLinesGive n xs lines zs e → NameLabels (statements xs) → NameLabels (statements zs)
  names_of_lines n xs _ _ _ none_left h = h
  names_of_lines n xs _ zs e (next {ys = ys} {line = line} {lines = lines} a none more) h = names_of_lines (suc n) ys lines zs e more (names_more xs n line ys a h)
  names_of_lines n xs _ _ _ (ends {ys = ys} {line = line} a end) h = names_more xs n line ys a h
  names_of_lines n xs _ _ _ (breaks b) h = h

end_of_lines : (n : ℕ) (xs : List Line86) (lines : List (List ℕ)) (zs : List Line86) (e : Ending) → TextLinesGive n xs lines zs e → e ≡ Ended → has_end zs ≡ true
end_of_lines n xs _ _ _ none_left is = absurd (cc)
end_of_lines n xs _ zs e (next {ys = ys} {lines = lines} a none more) is = end_of_lines (suc n) ys lines zs e more is
end_of_lines n xs _ _ _ (ends a end) is = end
end_of_lines n xs _ _ _ (breaks b) is = absurd (cc)

abbrev SameOutcome : Result (List Line86) (ℕ × TextRule) → Result (List Line86) (ℕ × TextRule) → Type 0
SameOutcome a b = a ≡ b

whole_text : (lines found : List Line86) (e : Ending) → SameOutcome (Ok lines) (outcome_of_text found e) → (found ≡ lines) × (e ≡ Ended)
whole_text lines found Open is = absurd (cc)
whole_text lines found Ended is = (cc, refl)
whole_text lines found (Broken n rule) is = absurd (cc)

pub text_names : ((line : List ℕ) (ss : List Stmt86) → TextLineGives line (Ok ss) → IsTrue (list_all names_labels ss)) → (text : List ℕ) (lines : List Line86) → TextGives text (Ok lines) → NameLabels (statements lines)
text_names law text lines g =
    subst (λ (xs : List Line86). NameLabels (statements xs)) (whole_text lines g.found g.ending g.is).0 (names_of_lines law 1 [] _ g.found g.ending g.lines tt)

pub text_ends : (text : List ℕ) (lines : List Line86) → TextGives text (Ok lines) → has_end lines ≡ true
text_ends text lines g =
    let whole = whole_text lines g.found g.ending g.is in
    subst (λ (xs : List Line86). has_end xs ≡ true) whole.0 (end_of_lines 1 [] _ g.found g.ending g.lines whole.1)
