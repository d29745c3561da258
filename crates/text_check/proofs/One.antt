-- Of a program and lines just one thing is found.
use Rattle.std.proofs.Common.{◌≡◌, ◌∙◌, ℕ, List, Option, Some, None, refl, sym, ap, subst}
use Rattle.std.proofs.lemmas.Option.{same_Some}
use Rattle.asm86_line_types.specs.declared.line.Line86.{Line86}
use Rattle.asm80_types.specs.Program.{Program}
use Rattle.flow.specs.Blocks.{blocks}
use Rattle.flow.specs.Solving.{Needs}
use Rattle.sym_block_def.specs.declared.reason.Reason.{Reason}
use Rattle.sym_block_def.specs.BlockMatch.{Keeps}
use Rattle.simulation_def.specs.Matches.{Finds, opening, runtime, cells, blocks as by_blocks}
use Rattle.simulation_def.specs.Needed.{needed_by}
use Rattle.flow.proofs.OneNeeds.{all_needs_once}
use Rattle.text_check.specs.declared.finding.Finding.{Finding}
use Rattle.text_check.specs.declared.finding.Finding.TheVariants.{Shown, NotShown}
use Rattle.text_check.specs.Findings.{reason_in, CountsBlocks, OneFinding}

one_reason : (p : Program) (lines : List Line86) (cut : List (ℕ × ℕ)) (keeps : Keeps) (o q : Option (ℕ × Reason)) → Finds p lines cut keeps o → Finds p lines cut keeps q → o ≡ q
one_reason p lines cut keeps _ _ (opening none) (opening other) = refl
one_reason p lines cut keeps _ _ (opening none) (runtime has other) = absurd (none has)
one_reason p lines cut keeps _ _ (opening none) (cells has runs other) = absurd (none has)
one_reason p lines cut keeps _ _ (opening none) (by_blocks has runs stand) = absurd (none has)
one_reason p lines cut keeps _ _ (runtime has none) (opening other) = absurd (other has)
one_reason p lines cut keeps _ _ (runtime has none) (runtime had other) = refl
one_reason p lines cut keeps _ _ (runtime has none) (cells had runs other) = absurd (none runs)
one_reason p lines cut keeps _ _ (runtime has none) (by_blocks had runs stand) = absurd (none runs)
one_reason p lines cut keeps _ _ (cells has runs none) (opening other) = absurd (other has)
one_reason p lines cut keeps _ _ (cells has runs none) (runtime had other) = absurd (other runs)
one_reason p lines cut keeps _ _ (cells has runs none) (cells had run other) = refl
one_reason p lines cut keeps _ _ (cells has runs none) (by_blocks had run stand) = absurd (none stand)
one_reason p lines cut keeps _ _ (by_blocks has runs stand) (opening other) = absurd (other has)
one_reason p lines cut keeps _ _ (by_blocks has runs stand) (runtime had other) = absurd (other runs)
one_reason p lines cut keeps _ _ (by_blocks has runs stand) (cells had run other) = absurd (other stand)
one_reason p lines cut keeps _ _ (by_blocks has runs stand) (by_blocks had run stands) = refl

not_none : (x : ℕ × Reason) → Some x ≡ None → ⊥
not_none x e = cc

by_reason : (p : Program) (f g : Finding) → reason_in f ≡ reason_in g → CountsBlocks p f → CountsBlocks p g → f ≡ g
by_reason p (Shown a) (Shown b) e x y = ap Shown (x ∙ sym y)
by_reason p (Shown a) (NotShown b r) e x y = absurd (not_none (b, r) (sym e))
by_reason p (NotShown a r) (Shown b) e x y = absurd (not_none (a, r) e)
by_reason p (NotShown a r) (NotShown b s) e x y = ap (λ (z : ℕ × Reason). NotShown z.0 z.1) (same_Some {A = ℕ × Reason} (a, r) (b, s) e)

pub one_finding : OneFinding
one_finding p lines f g x y =
    let same = all_needs_once p y.needs x.needs y.are x.are in
    let finds = subst (λ (n : Needs). Finds p lines (blocks p) (needed_by p n) (reason_in g)) same y.finds in
    by_reason p f g (one_reason p lines (blocks p) (needed_by p x.needs) (reason_in f) (reason_in g) x.finds finds) x.counts y.counts
