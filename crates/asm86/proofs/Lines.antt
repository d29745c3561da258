-- What lines give: how it grows by a line, and that there is one.
use Rattle.std.proofs.Common.{◌≡◌, ◌≢◌, ℕ, ◌+◌, List, [], ◌∷◌, ◌++◌, length, Bool, true, false, Result, Ok, Err, refl, sym, ap, ◌∙◌, arith}
use Rattle.asm86_line_types.specs.declared.line.Line86.{Line86}
use Rattle.asm86_line_types.specs.declared.line.Stmt86.{Stmt86}
use Rattle.asm86_line_types.specs.declared.line.TextRule.{TextRule}
use Rattle.asm86_line_reader.proofs.Lines.{one_reading as one_line}
use Rattle.asm86.specs.Stream.{lines_of_number, are_in_order, has_end, AddsLine, Breaks, unread, misplaced, Ending, Open, Ended, Broken, TextLinesGive, none_left, next, ends, breaks}

pub true_false : (b : Bool) → b ≡ true → b ≡ false → ⊥
true_false b e f = cc

pub open_not_ended : Open ≡ Ended → ⊥
open_not_ended e = cc

open_not_broken : (n : ℕ) (rule : TextRule) → Open ≡ Broken n rule → ⊥
open_not_broken n rule e = cc

-- ---- a line more

-- the lines that lie open go on to be read
pub reads_on : {n : ℕ} {lines : List (List ℕ)} {xs ys : List Line86} {e : Ending} → TextLinesGive n xs lines ys e → e ≡ Open → (line : List ℕ) (zs : List Line86) (m : ℕ) (f : Ending) → m ≡ n + length lines → TextLinesGive m ys (line ∷ []) zs f → TextLinesGive n xs (lines ++ line ∷ []) zs f
reads_on {n} none_left o line zs m f p h = let q : m ≡ n = p ∙ omega arith in rw q at h
reads_on {n} (next {lines = lines} a k x) o line zs m f p h = next a k (reads_on x o line zs m f (omega (arith, p)) h)
reads_on (ends a k) o line zs m f p h = absurd (open_not_ended (sym o))
reads_on {n} (breaks {rule = rule} b) o line zs m f p h = absurd (open_not_broken n rule (sym o))

-- END and a fault stand, whatever lines follow
pub stands : {n : ℕ} {lines : List (List ℕ)} {xs ys : List Line86} {e : Ending} → TextLinesGive n xs lines ys e → e ≢ Open → (more : List (List ℕ)) → TextLinesGive n xs (lines ++ more) ys e
stands none_left ne more = absurd (ne refl)
stands (next a k x) ne more = next a k (stands x ne more)
stands (ends a k) ne more = ends a k
stands (breaks b) ne more = breaks b

-- ---- END

pub open_without_end : {n : ℕ} {lines : List (List ℕ)} {xs ys : List Line86} {e : Ending} → TextLinesGive n xs lines ys e → e ≡ Open → has_end xs ≡ false → has_end ys ≡ false
open_without_end none_left o h = h
open_without_end (next a k x) o h = open_without_end x o k
open_without_end (ends a k) o h = absurd (open_not_ended (sym o))
open_without_end {n} (breaks {rule = rule} b) o h = absurd (open_not_broken n rule (sym o))

pub ended_with_end : {n : ℕ} {lines : List (List ℕ)} {xs ys : List Line86} {e : Ending} → TextLinesGive n xs lines ys e → e ≡ Ended → has_end ys ≡ true
ended_with_end none_left o = absurd (open_not_ended o)
ended_with_end (next a k x) o = ended_with_end x o
ended_with_end (ends a k) o = k
ended_with_end (breaks b) o = absurd cc

-- ---- one reading

ok_is : (a b : List Stmt86) → ◌≡◌ {A = Result (List Stmt86) TextRule} (Ok a) (Ok b) → a ≡ b
ok_is a b e = cc

ok_err : (a : List Stmt86) (b : TextRule) → ◌≡◌ {A = Result (List Stmt86) TextRule} (Ok a) (Err b) → ⊥
ok_err a b e = cc

err_is : (a b : TextRule) → ◌≡◌ {A = Result (List Stmt86) TextRule} (Err a) (Err b) → a ≡ b
err_is a b e = cc

same_added : (xs ys zs : List Line86) (n : ℕ) (line : List ℕ) → AddsLine xs n line ys → AddsLine xs n line zs → ys ≡ zs
same_added xs ys zs n line a b = a.whole ∙ ap (λ (ss : List Stmt86). xs ++ lines_of_number n ss) (ok_is a.given b.given (one_line a.reads b.reads)) ∙ sym b.whole

adds_or_breaks : {xs ys : List Line86} {n : ℕ} {line : List ℕ} {rule : TextRule} → AddsLine xs n line ys → Breaks xs n line rule → ⊥
adds_or_breaks {rule = rule} a (unread l) = ok_err a.given rule (one_line a.reads l)
adds_or_breaks {xs} {ys} {n} a (misplaced {ss = ss} l f) =
    true_false (are_in_order ys) a.in_order (rw (a.whole, ok_is a.given ss (one_line a.reads l)) f)

same_rule : {xs : List Line86} {n : ℕ} {line : List ℕ} {r s : TextRule} → Breaks xs n line r → Breaks xs n line s → r ≡ s
same_rule {r = r} {s = s} (unread l) (unread m) = err_is r s (one_line l m)
same_rule {r = r} (unread l) (misplaced {ss = ss} m f) = absurd (ok_err ss r (one_line m l))
same_rule {s = s} (misplaced {ss = ss} l f) (unread m) = absurd (ok_err ss s (one_line l m))
same_rule (misplaced l f) (misplaced m g) = refl

pub one_run : {n : ℕ} {lines : List (List ℕ)} {ws xs ys zs : List Line86} {e f : Ending} → TextLinesGive n ws lines ys e → TextLinesGive n xs lines zs f → ws ≡ xs → (ys ≡ zs) × (e ≡ f)
one_run none_left none_left q = (q, refl)
one_run {n} {ws = ws} {xs = xs} (next {ys = us} {line = line} a k x) (next {ys = vs} b l y) q =
    one_run x y (same_added xs us vs n line (rw q at a) b)
one_run {n} {ws = ws} {xs = xs} (next {ys = us} {line = line} a k x) (ends {ys = vs} b l) q =
    absurd (true_false (has_end us) (rw (same_added xs us vs n line (rw q at a) b) l) k)
one_run (next a k x) (breaks b) q = absurd (adds_or_breaks (rw q at a) b)
one_run {n} {ws = ws} {xs = xs} (ends {ys = us} {line = line} a k) (next {ys = vs} b l y) q =
    absurd (true_false (has_end us) k (rw (same_added xs us vs n line (rw q at a) b) l))
one_run {n} {ws = ws} {xs = xs} (ends {ys = us} {line = line} a k) (ends {ys = vs} b l) q = (same_added xs us vs n line (rw q at a) b, refl)
one_run (ends a k) (breaks b) q = absurd (adds_or_breaks (rw q at a) b)
one_run (breaks a) (next b l y) q = absurd (adds_or_breaks b (rw q at a))
one_run (breaks a) (ends b l) q = absurd (adds_or_breaks b (rw q at a))
one_run {n} (breaks {rule = r} a) (breaks {rule = s} b) q = (q, ap (λ (k : TextRule). Broken n k) (same_rule (rw q at a) b))
