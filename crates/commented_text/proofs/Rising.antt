-- The numbers of lines rise.
use Rattle.std.proofs.Common.{◌≡◌, ℕ, suc, ◌+◌, ◌<◌, ◌≤◌, List, [], ◌∷◌, ◌++◌, sym, ap, subst, ◌∙◌, append_assoc, append-nil, arith}
use Rattle.asm80_types.specs.Program.{Program}
use Rattle.asm86_line_types.specs.declared.line.Line86.{Line86}
use Rattle.asm86_line_types.specs.declared.line.Stmt86.{Stmt86}
use Rattle.asm86.specs.Stream.{lines_of_number}
use Rattle.templates.specs.declared.translation.Mode.{Mode}
use Rattle.templates.specs.declared.translation.Mode.TheVariants.{Plain, Lean}
use Rattle.templates.specs.Plain.{plain_statements, numbered_from}
use Rattle.templates.specs.Style.{styled_statements}
use Rattle.templates.specs.Lean.{lean_style}
use Rattle.templates.specs.Translation.{IsText}
use Rattle.commented_text.specs.Reading.{Rises}

-- ---- the text of a program

numbered_rise : (n m : ℕ) (ss : List Stmt86) → n < m → Rises n (numbered_from m ss)
numbered_rise n m [] lt = tt
numbered_rise n m (s ∷ ss) lt = (lt, numbered_rise m (m + 1) ss (omega arith))

pub text_rises : (mode : Mode) (p : Program) (lines : List Line86) → IsText mode p lines → Rises 0 lines
text_rises Plain p lines t = rw t (numbered_rise 0 1 (plain_statements p) (omega arith))
text_rises Lean p lines t = rw t.2 (numbered_rise 0 1 (styled_statements (lean_style t.0 p) p) (omega arith))

-- ---- other numbers

-- Lines were added to xs, which gave zs, and lines whose numbers are above m to ys, which gave what is read. Where the numbers of the old
-- ones rise, so do those of the new ones.
pub record Renumbers (m : ℕ) (xs zs ys read : List Line86) : Type 0 where
  pub old : List Line86
  pub new : List Line86
  pub was : zs ≡ xs ++ old
  pub is : read ≡ ys ++ new
  pub rises : (k : ℕ) → Rises k old → Rises m new

from_lower : (n m : ℕ) (xs : List Line86) → n ≤ m → Rises m xs → Rises n xs
from_lower n m [] le h = tt
from_lower n m (x ∷ xs) le h = (omega (arith, le, h.0), h.1)

-- Where numbers rise, a line gives one statement at most, since all that it gives have its number.
one_more : (k n m : ℕ) (ss : List Stmt86) (old new : List Line86) → ((j : ℕ) → Rises j old → Rises (suc m) new) → Rises k (lines_of_number n ss ++ old) → Rises m (lines_of_number (suc m) ss ++ new)
one_more k n m [] old new f h = from_lower m (suc m) new (omega arith) (f k h)
one_more k n m (s ∷ []) old new f h = (omega arith, f n h.1)
one_more k n m (s ∷ t ∷ ss) old new f h = absurd (omega (arith, h.1.0))

pub none_added : (m : ℕ) (xs ys : List Line86) → Renumbers m xs xs ys ys
none_added m xs ys = record { old = []; new = []; was = sym (append-nil xs); is = sym (append-nil ys); rises = λ k h. tt }

pub line_added : (n m : ℕ) (ss : List Stmt86) (xs ws zs ys read : List Line86) → ws ≡ xs ++ lines_of_number n ss → Renumbers (suc m) ws zs (ys ++ lines_of_number (suc m) ss) read → Renumbers m xs zs ys read
line_added n m ss xs ws zs ys read e r =
    let before = lines_of_number n ss in
    let after = lines_of_number (suc m) ss in
    record {
      old = before ++ r.old;
      new = after ++ r.new;
      was = r.was ∙ ap (λ (t : List Line86). t ++ r.old) e ∙ append_assoc xs before r.old;
      is = r.is ∙ append_assoc ys after r.new;
      rises = λ k h. one_more k n m ss r.old r.new r.rises h;
    }

-- a line that gives no statement
pub comment_added : (m : ℕ) (xs zs ys read : List Line86) → Renumbers (suc m) xs zs ys read → Renumbers m xs zs ys read
comment_added m xs zs ys read r = record { old = r.old; new = r.new; was = r.was; is = r.is; rises = λ k h. from_lower m (suc m) r.new (omega arith) (r.rises k h) }

pub read_rises : (zs read : List Line86) → Renumbers 0 [] zs [] read → Rises 0 zs → Rises 0 read
read_rises zs read r h = subst (Rises 0) (sym r.is) (r.rises 0 (subst (Rises 0) r.was h))
