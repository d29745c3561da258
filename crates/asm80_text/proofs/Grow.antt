-- A stream that grows by a byte.
use Rattle.std.proofs.Common.{◌≡◌, ◌≢◌, ℕ, ◌+◌, List, [], ◌∷◌, ◌++◌, length, Option, Some, None, Ok, Err, refl, sym, ◌∙◌, append_assoc, arith}
use Rattle.std.proofs.lemmas.List.{append-nil}
use Rattle.asm80_types.specs.declared.fault.LineRule.{LineRule}
use Rattle.asm80_types.specs.declared.fault.ReadFault.{ReadFault}
use Rattle.asm80_types.specs.declared.fault.ReadFault.TheVariants.{Syntax}
use Rattle.asm80_types.specs.Tree.{Statement}
use Rattle.asm80_text.specs.Spelling.{Spelling}
use Rattle.asm80_text.specs.Line.{LineGives}
use Rattle.asm80_text.specs.Stream.{LinesGive, none_left, next, fails}

pub reads_on : {s : Spelling} {n : ℕ} {lines : List (List ℕ)} {es : List Statement} {f : Option ReadFault} → LinesGive s n lines es f → f ≡ None → (line : List ℕ) (ss : List Statement) (m : ℕ) → m ≡ n + length lines → LineGives s m line (Ok ss) → LinesGive s n (lines ++ line ∷ []) (es ++ ss) None
reads_on {n = n} none_left e line ss m p h = let q : m ≡ n = p ∙ omega arith in rw (sym (append-nil ss), ← q) (next h none_left)
reads_on {n = n} (next {lines = lines} {ss = ts} {others = es} l x) e line ss m p h = rw append_assoc (next l (reads_on x e line ss m (omega (arith, p)) h))
reads_on (fails l) e line ss m p h = absurd cc

pub reads_fault : {s : Spelling} {n : ℕ} {lines : List (List ℕ)} {es : List Statement} {f : Option ReadFault} → LinesGive s n lines es f → f ≡ None → (line : List ℕ) (r : LineRule) (m : ℕ) → m ≡ n + length lines → LineGives s m line (Err r) → LinesGive s n (lines ++ line ∷ []) es (Some (Syntax m r))
reads_fault {n = n} none_left e line r m p h = let q : m ≡ n = p ∙ omega arith in rw (← q) (fails h)
reads_fault {n = n} (next {lines = lines} l x) e line r m p h = next l (reads_fault x e line r m (omega (arith, p)) h)
reads_fault (fails l) e line r m p h = absurd cc

-- a fault stands, whatever lines follow
pub stands : {s : Spelling} {n : ℕ} {lines : List (List ℕ)} {es : List Statement} {f : Option ReadFault} → LinesGive s n lines es f → f ≢ None → (more : List (List ℕ)) → LinesGive s n (lines ++ more) es f
stands none_left ne more = absurd (ne refl)
stands (next l x) ne more = next l (stands x ne more)
stands (fails l) ne more = fails l
