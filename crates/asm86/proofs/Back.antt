-- A written text is read as the lines that it was written of.
use Rattle.std.proofs.Common.{◌≡◌, ℕ, suc, ◌-◌, ◌||◌, ◌&&◌, List, [], ◌∷◌, ◌++◌, length, map, Bool, true, false, not, Ok, refl, sym, ap, ◌∙◌, append_assoc, arith, inl, inr}
use Rattle.std.specs.List.{flat_map, AllByRecursion}
use Rattle.std.proofs.Math.Seq.{take-append_seam, get_or-append_seam}
use Rattle.std.proofs.lemmas.Bool.{or_parts, cases_Bool}
use Rattle.std.proofs.lemmas.List.{append-nil, length-append, map-append}
use mathlib.Core.Bool.{or-true}
use Rattle.asm86_line_types.specs.declared.line.Line86.{Line86}
use Rattle.asm86_line_types.specs.declared.line.Stmt86.{Stmt86}
use Rattle.asm86_line_types.specs.Image.{statements}
use Rattle.asm86_line_types.specs.Order.{Reading, reading_after, at_start, in_order, ends_text, has_no_statement, may_stand}
use Rattle.asm86_line_types.specs.Written.{written_line, written_text}
use Rattle.base.specs.Cut.{ended, without_cr}
use Rattle.asm86.specs.Stream.{IsNotLf, lines_of_number, are_in_order, has_end, AddsLine, Ended, TextLinesGive, next, ends, TextGives}
use Rattle.asm86.specs.Back.{AreWritten}
use Rattle.asm86_line_reader.specs.Line.{TextLineGives}
use Rattle.asm86_line_reader.specs.ReadBack.{has_line}
use Rattle.asm86_line_reader.proofs.ReadBack.{read_back}
use Rattle.asm86.proofs.Ends.{line_ends}
use Rattle.asm86.proofs.Lines.{true_false}
use Rattle.asm86.proofs.Listings.{not_in_order_on}
use Rattle.asm86.proofs.Orders.{rest_in_order}

-- ---- the written lines

-- the written line of a statement is a line without LF, and CR and LF, and gives the statement alone
record ReadsBack (s : Stmt86) : Type 0 where
  body : List ℕ
  written : written_line s ≡ body ++ 13 ∷ (10 ∷ [])
  one_line : AllByRecursion IsNotLf body
  reads : TextLineGives body (Ok (s ∷ []))

reads_back_of : (s : Stmt86) → has_line s ≡ true → ReadsBack s
reads_back_of s h = let e = line_ends s h in record { body = e.front; written = e.is; one_line = e.each; reads = read_back s e.front h e.is }

abbrev AllReadBack : ℕ → List Line86 → Type 0
AllReadBack n [] = Unit {0}
AllReadBack n (x ∷ xs) = (x.line ≡ n) × ReadsBack x.stmt × AllReadBack (suc n) xs

all_back : (n : ℕ) (xs : List Line86) → AreWritten n xs → AllReadBack n xs
all_back n [] h = tt
all_back n (x ∷ xs) h = (h.0, reads_back_of x.stmt h.1, all_back (suc n) xs h.2)

-- ---- the cut

raw_of : (n : ℕ) (xs : List Line86) → AllReadBack n xs → List (List ℕ)
raw_of n [] h = []
raw_of n (x ∷ xs) h = (h.1.body ++ 13 ∷ []) ∷ raw_of (suc n) xs h.2

bodies_of : (n : ℕ) (xs : List Line86) → AllReadBack n xs → List (List ℕ)
bodies_of n [] h = []
bodies_of n (x ∷ xs) h = h.1.body ∷ bodies_of (suc n) xs h.2

text_is : (n : ℕ) (xs : List Line86) (h : AllReadBack n xs) → written_text xs ≡ flat_map ended (raw_of n xs h)
unfolding raw_of
text_is n [] h = refl
text_is n (x ∷ xs) h =
    ap (λ (t : List ℕ). t ++ written_text xs) (h.1.written ∙ sym (append_assoc h.1.body (13 ∷ []) (10 ∷ [])))
    ∙ ap (λ (t : List ℕ). ((h.1.body ++ 13 ∷ []) ++ 10 ∷ []) ++ t) (text_is (suc n) xs h.2)

with_cr : (body : List ℕ) → AllByRecursion IsNotLf body → AllByRecursion IsNotLf (body ++ 13 ∷ [])
with_cr [] h = (λ e. omega (arith, e), tt)
with_cr (b ∷ body) h = (h.0, with_cr body h.1)

all_lines : (n : ℕ) (xs : List Line86) (h : AllReadBack n xs) → AllByRecursion (AllByRecursion IsNotLf) (raw_of n xs h)
unfolding raw_of
all_lines n [] h = tt
all_lines n (x ∷ xs) h = (with_cr h.1.body h.1.one_line, all_lines (suc n) xs h.2)

length_cr : (body : List ℕ) → length (body ++ 13 ∷ []) - 1 ≡ length body
length_cr body = omega (arith, length-append body (13 ∷ []))

cr_dropped : (body : List ℕ) → without_cr (body ++ 13 ∷ []) ≡ body
cr_dropped body = rw (length_cr body, get_or-append_seam body 13 [] 0) (take-append_seam body (13 ∷ []))

bodies : (n : ℕ) (xs : List Line86) (h : AllReadBack n xs) → map without_cr (raw_of n xs h) ≡ bodies_of n xs h
unfolding raw_of bodies_of
bodies n [] h = refl
bodies n (x ∷ xs) h = ap (λ (t : List ℕ). t ∷ map without_cr (raw_of (suc n) xs h.2)) (cr_dropped h.1.body) ∙ ap (λ (t : List (List ℕ)). h.1.body ∷ t) (bodies (suc n) xs h.2)

-- ---- the lines

first_in_order : (before more : List Line86) → are_in_order (before ++ more) ≡ true → are_in_order before ≡ true
first_in_order before more h = elim (cases_Bool (are_in_order before)) [
  | inl e ↦ e
  | inr e ↦ absurd (true_false (are_in_order (before ++ more)) h (not_in_order_on before more e))
]

none_behind : (m e f i : Bool) → (m && ((not e || f) && i)) ≡ true → e ≡ true → f ≡ true
none_behind false e f i h k = absurd cc
none_behind true false f i h k = absurd cc
none_behind true true false i h k = absurd cc
none_behind true true true i h k = refl

empty_is : (xs : List Stmt86) → has_no_statement xs ≡ true → xs ≡ []
empty_is [] h = refl
empty_is (x ∷ xs) h = absurd cc

end_is_last : (r : Reading) (before : List Stmt86) (x : Stmt86) (more : List Stmt86) → in_order r (before ++ x ∷ more) ≡ true → ends_text x ≡ true → more ≡ []
end_is_last r [] x more h e = empty_is more (none_behind (may_stand r x) (ends_text x) (has_no_statement more) (in_order (reading_after r x) more) h e)
end_is_last r (y ∷ before) x more h e = end_is_last (reading_after r y) before x more (rest_in_order (may_stand r y) (ends_text y) (has_no_statement (before ++ x ∷ more)) (in_order (reading_after r y) (before ++ x ∷ more)) h) e

no_lines : (xs : List Line86) → statements xs ≡ [] → xs ≡ []
no_lines [] e = refl
no_lines (x ∷ xs) e = absurd cc

-- END among statements that are in order, with one more behind them
end_comes : (before : List Line86) (x : Line86) → ends_text x.stmt ≡ true → has_end (before ++ x ∷ []) ≡ true
end_comes [] x e = rw e refl
end_comes (y ∷ before) x e = rw (end_comes before x e) (or-true (ends_text y.stmt))

none_comes : (before : List Line86) (x : Line86) → has_end before ≡ false → ends_text x.stmt ≡ false → has_end (before ++ x ∷ []) ≡ false
none_comes [] x h e = rw e refl
none_comes (y ∷ before) x h e = let k = or_parts (ends_text y.stmt) (has_end before) h in rw k.0 (none_comes before x k.1 e)

last_ends : (n : ℕ) (before xs : List Line86) (x : Line86) (line : List ℕ) (lines : List (List ℕ)) → xs ≡ [] → AddsLine before n line (before ++ x ∷ []) → ends_text x.stmt ≡ true → TextLinesGive n before (line ∷ lines) (before ++ x ∷ xs) Ended
last_ends n before xs x line lines q a e = rw q (ends a (end_comes before x e))

gives_back : (n : ℕ) (before xs : List Line86) (h : AllReadBack n xs) → has_end before ≡ false → are_in_order (before ++ xs) ≡ true → has_end xs ≡ true → TextLinesGive n before (bodies_of n xs h) (before ++ xs) Ended
unfolding bodies_of
gives_back n before [] h b o e = absurd cc
gives_back n before (x ∷ xs) h b o e =
    let one : before ++ lines_of_number n (x.stmt ∷ []) ≡ before ++ x ∷ [] = rw (← h.0) refl in
    let whole : before ++ x ∷ xs ≡ (before ++ x ∷ []) ++ xs = sym (append_assoc before (x ∷ []) xs) in
    let adds : AddsLine before n h.1.body (before ++ x ∷ []) = record { given = x.stmt ∷ []; reads = h.1.reads; whole = sym one; in_order = first_in_order (before ++ x ∷ []) xs (rw whole at o) } in
    elim (cases_Bool (ends_text x.stmt)) [
      | inl k ↦ last_ends n before xs x h.1.body (bodies_of (suc n) xs h.2) (no_lines xs (end_is_last at_start (statements before) x.stmt (statements xs) (rw (map-append (λ (l : Line86). l.stmt) before (x ∷ xs)) at o) k)) adds k
      | inr k ↦ rw whole (next adds (none_comes before x b k) (gives_back (suc n) (before ++ x ∷ []) xs h.2 (none_comes before x b k) (rw whole at o) (rw k at e)))
    ]

pub reads_back : (xs : List Line86) → AreWritten 1 xs → are_in_order xs ≡ true → has_end xs ≡ true → TextGives (written_text xs) (Ok xs)
reads_back xs w o e = let h = all_back 1 xs w in record {
  raw = raw_of 1 xs h;
  rest = [];
  found = xs;
  ending = Ended;
  cut = record { whole = text_is 1 xs h ∙ sym (append-nil (flat_map ended (raw_of 1 xs h))); each = all_lines 1 xs h; last = tt };
  lines = rw (bodies 1 xs h, append-nil (bodies_of 1 xs h)) (gives_back 1 [] xs h refl o e);
  is = refl;
}
