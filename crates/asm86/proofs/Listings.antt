-- Statements of a line behind those of the lines before it.
use Rattle.std.proofs.Common.{◌≡◌, ℕ, ◌+◌, ◌<◌, ◌||◌, ◌&&◌, Bool, true, false, not, List, [], ◌∷◌, ◌++◌, take, drop, length, suc, Option, Some, None, Result, Ok, Err, true≢false, refl, sym, ap, subst, ◌∙◌, append_assoc, arith, rules, tests}
use Rattle.std.proofs.Math.Seq.{split_at}
use Rattle.std.proofs.Math.ListN.{get_or}
use Rattle.std.proofs.lemmas.List.{map-append, take_more}
use Rattle.std.proofs.lemmas.Result.{err_from_is_err_and}
use borrow.Author.Tests.{eqb-true}
use Rattle.std.specs.Prelude.{◌==◌}
use Rattle.std.specs.Result.{IsErrAnd}
use Rattle.asm86_line_types.specs.declared.line.Line86.{Line86}
use Rattle.asm86_line_types.specs.declared.line.Stmt86.{Stmt86}
use Rattle.asm86_line_types.specs.Image.{statements}
use Rattle.asm86_line_types.specs.Order.{Reading, reading_after, at_start, in_order, ends_text, has_no_statement, may_stand}
use Rattle.asm86_line_types.specs.declared.line.TextRule.TheVariants.{M1}
use Rattle.asm86_line_reader.specs.Line.{TextLineGives, long}
use Rattle.asm86.specs.declared.text_fault.TextFault.{TextFault}
use Rattle.asm86.specs.declared.text_fault.TextFault.TheVariants.{Line, Memory}
use Rattle.asm86.specs.declared.listing.Listing.{Listing}
use Rattle.asm86.specs.Stream.{lines_of_number, are_in_order, unread, misplaced}
use Rattle.asm86.specs.Reader.{ListsMore, ListsLine, ReadsNumbered, ReadsBy, ReadsRest, TextReader}

still_false : (m e f g i j : Bool) → (f ≡ false → g ≡ false) → (i ≡ false → j ≡ false) → (m && ((not e || f) && i)) ≡ false → (m && ((not e || g) && j)) ≡ false
still_false false e f g i j p q h = refl
still_false true true false g i j p q h = rw (p refl) refl
still_false true true true false i j p q h = refl
still_false true true true true i j p q h = q h
still_false true false f g i j p q h = q h

longer_not_empty : (xs ys : List Stmt86) → has_no_statement xs ≡ false → has_no_statement (xs ++ ys) ≡ false
longer_not_empty [] ys h = absurd cc
longer_not_empty (x ∷ xs) ys h = refl

longer_not_in_order : (r : Reading) (xs ys : List Stmt86) → in_order r xs ≡ false → in_order r (xs ++ ys) ≡ false
longer_not_in_order r [] ys h = absurd cc
longer_not_in_order r (x ∷ xs) ys h =
    still_false (may_stand r x) (ends_text x) (has_no_statement xs) (has_no_statement (xs ++ ys)) (in_order (reading_after r x) xs) (in_order (reading_after r x) (xs ++ ys)) (longer_not_empty xs ys) (longer_not_in_order (reading_after r x) xs ys) h

-- statements of which one may not stand are not in order, whatever follows
pub not_in_order_on : (xs ys : List Line86) → are_in_order xs ≡ false → are_in_order (xs ++ ys) ≡ false
not_in_order_on xs ys h = rw (map-append (λ (x : Line86). x.stmt) xs ys) (longer_not_in_order at_start (statements xs) (statements ys) h)

numbered-append : (n : ℕ) (ss ts : List Stmt86) → lines_of_number n (ss ++ ts) ≡ lines_of_number n ss ++ lines_of_number n ts
numbered-append n ss ts = map-append (λ (s : Stmt86). let x : Line86 = record { line = n; stmt = s } in x) ss ts

one_fails : (n : ℕ) (old mid : List Line86) (front back : List Stmt86) (s : Stmt86) → mid ≡ old ++ lines_of_number n front → are_in_order (mid ++ lines_of_number n (s ∷ [])) ≡ false → are_in_order (old ++ lines_of_number n (front ++ s ∷ back)) ≡ false
one_fails n old mid front back s e h =
    let whole : old ++ lines_of_number n (front ++ s ∷ back) ≡ (mid ++ lines_of_number n (s ∷ [])) ++ lines_of_number n back =
    ap (λ (t : List Line86). old ++ t) (numbered-append n front (s ∷ back))
    ∙ sym (append_assoc old (lines_of_number n front) (lines_of_number n (s ∷ back)))
    ∙ ap (λ (t : List Line86). t ++ lines_of_number n (s ∷ back)) (sym e)
    ∙ sym (append_assoc mid (lines_of_number n (s ∷ [])) (lines_of_number n back)) in
    rw whole (not_in_order_on (mid ++ lines_of_number n (s ∷ [])) (lines_of_number n back) h)

more_fails : (n i : ℕ) (ss : List Stmt86) (d : Stmt86) (old mid new : Listing) (f : TextFault) → mid.lines.items ≡ old.lines.items ++ lines_of_number n (take i ss) → i < length ss → ListsMore n (get_or ss i d ∷ []) mid new (Err f) → ListsMore n ss old new (Err f)
more_fails n i ss d old mid new Memory e lt h = tt
more_fails n i ss d old mid new (Line m rule) e lt h =
    (h.0, h.1, rw (split_at ss i d lt) (one_fails n old.lines.items mid.lines.items (take i ss) (drop (suc i) ss) (get_or ss i d) e h.2))

pub add_fails : (n i : ℕ) (ss : List Stmt86) (d : Stmt86) (old mid new : Listing) (f : TextFault) (r : Result (Unit {0}) TextFault) → mid.lines.items ≡ old.lines.items ++ lines_of_number n (take i ss) → i < length ss → ListsMore n (get_or ss i d ∷ []) mid new (Err f) → IsErrAnd r (λ e. e ≡ f) → ListsMore n ss old new r
add_fails n i ss d old mid new f r e lt h p = let q = err_from_is_err_and r p in rw (q.1, q.2) (more_fails n i ss d old mid new f e lt h)

-- one statement more
pub add_more : (n i : ℕ) (ss : List Stmt86) (d : Stmt86) (start old new : List Line86) → old ≡ start ++ lines_of_number n (take i ss) → i < length ss → new ≡ old ++ lines_of_number n (get_or ss i d ∷ []) → new ≡ start ++ lines_of_number n (take (i + 1) ss)
add_more n i ss d start old new e lt h =
    h
    ∙ ap (λ (t : List Line86). t ++ lines_of_number n (get_or ss i d ∷ [])) e
    ∙ append_assoc start (lines_of_number n (take i ss)) (lines_of_number n (get_or ss i d ∷ []))
    ∙ ap (λ (t : List Line86). start ++ t) (sym (numbered-append n (take i ss) (get_or ss i d ∷ [])))
    ∙ ap (λ (t : List Stmt86). start ++ lines_of_number n t) (sym (take_more ss i d lt))

-- what the exits of a `?` in the reading of a line return
pub number_fails : (line : List ℕ) (old new : Listing) (f : TextFault) (r : Result (Unit {0}) TextFault) → f ≡ Memory → IsErrAnd r (λ e. e ≡ f) → ListsLine line old new r
number_fails line old new f r m p = let q = err_from_is_err_and r p in rw (q.1, q.2, m) tt

line_fails : (n : ℕ) (line : List ℕ) (old new : Listing) (f : TextFault) → n ≡ old.number + 1 → ReadsNumbered n line (Err f) → ListsLine line old new (Err f)
line_fails n line old new Memory e h = tt
line_fails n line old new (Line m rule) e h = (h.0 ∙ e, unread h.1)

pub read_fails : (n : ℕ) (line : List ℕ) (old new : Listing) (f : TextFault) (r : Result (Unit {0}) TextFault) → n ≡ old.number + 1 → ReadsNumbered n line (Err f) → IsErrAnd r (λ e. e ≡ f) → ListsLine line old new r
read_fails n line old new f r e h p = let q = err_from_is_err_and r p in rw (q.1, q.2) (line_fails n line old new f e h)

more_fails_line : (n : ℕ) (line : List ℕ) (ss : List Stmt86) (old new : Listing) (f : TextFault) → n ≡ old.number + 1 → TextLineGives line (Ok ss) → ListsMore n ss old new (Err f) → ListsLine line old new (Err f)
more_fails_line n line ss old new Memory e g h = tt
more_fails_line n line ss old new (Line m rule) e g h = (h.0 ∙ e, rw (h.0, h.1) (misplaced g h.2))

pub place_fails : (n : ℕ) (line : List ℕ) (ss : List Stmt86) (old new : Listing) (f : TextFault) (r : Result (Unit {0}) TextFault) → n ≡ old.number + 1 → TextLineGives line (Ok ss) → ListsMore n ss old new (Err f) → IsErrAnd r (λ e. e ≡ f) → ListsLine line old new r
place_fails n line ss old new f r e g h p = let q = err_from_is_err_and r p in rw (q.1, q.2) (more_fails_line n line ss old new f e g h)

pub long_fails : (old : Listing) (n : ℕ) (line : List ℕ) → n ≡ old.number + 1 → 255 < length line → ListsLine line old old (Err (Line n M1))
long_fails old n line e h = (e, unread (long h))

pub refuses : (line : List ℕ) (listing : Listing) (f : TextFault) (old : TextReader) (held : Option (List ℕ)) → ListsLine line listing listing (Err f) → old.lines ≡ listing.lines.items → old.number ≡ listing.number → ReadsBy line old (record { lines = listing.lines.items; number = listing.number; held = held; fault = Some f }) (Some f)
refuses line listing Memory old held h l n = tt
refuses line listing (Line m rule) old held h l n = rw (l, n) h

-- what a line makes of a reader goes by its statements and its number of lines alone
pub read_alike : (line wanted : List ℕ) (a b new : TextReader) (f : Option TextFault) → line ≡ wanted → a.lines ≡ b.lines → a.number ≡ b.number → ReadsBy line a new f → ReadsBy wanted b new f
read_alike line wanted a b new None e l n h = rw (sym e, sym l, sym n) h
read_alike line wanted a b new (Some Memory) e l n h = tt
read_alike line wanted a b new (Some (Line m rule)) e l n h = rw (sym e, sym l, sym n) h

-- a last line that is not empty
pub rest_read : (line rest : List ℕ) (old new : TextReader) → line ≡ rest → (length line == 0) ≡ false → ReadsBy line old new new.fault → ReadsRest rest old new
rest_read line [] old new e some h = absurd (true≢false (subst (λ (xs : List ℕ). (length xs == 0) ≡ false) e some))
rest_read line (b ∷ bytes) old new e some h = subst (λ xs. ReadsBy xs old new new.fault) e h

-- a last line that is empty
pub no_rest : (line rest : List ℕ) (old new : TextReader) → line ≡ rest → line ≡ [] → new ≡ old → ReadsRest rest old new
no_rest line [] old new e none same = same
no_rest line (b ∷ bytes) old new e none same = absurd (cc (sym e ∙ none))

pub no_bytes : (line : List ℕ) → (length line == 0) ≡ true → line ≡ []
no_bytes [] e = refl
no_bytes (b ∷ bytes) e = let none = eqb-true (length (b ∷ bytes)) 0 e in absurd (omega (arith, none))

pub some_bytes : (line : List ℕ) → 256 < length line → (length line == 0) ≡ false
some_bytes line many = search (rules, tests)
