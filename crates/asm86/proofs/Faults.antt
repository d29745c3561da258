-- The line that first breaks a rule.
use Rattle.std.proofs.Common.{ℕ, ◌+◌, ◌<◌, List, [], ◌∷◌, ◌++◌, length, take, drop, get_or, refl, sym, ap, subst, ◌∙◌}
use Rattle.std.proofs.lemmas.List.{take-append-drop, drop_more, map-append}
use Rattle.asm86_line_types.specs.declared.line.Stmt86.{Stmt86}
use Rattle.asm86_line_types.specs.declared.line.Line86.{Line86}
use Rattle.asm86.specs.Refusals.{IsFirstToBreak}
use Rattle.asm86.proofs.Laid.{up_to}

pub first_breaks : (Keeps : List Stmt86 → Type 0) (lines : List Line86) (i : ℕ) (d : Line86) → i < length lines → Keeps (up_to lines i) → (Keeps (up_to lines i ++ (get_or lines i d).stmt ∷ []) → ⊥) → IsFirstToBreak Keeps lines (get_or lines i d).line
first_breaks Keeps lines i d lt kept broken = record {
  before = take i lines;
  here = get_or lines i d;
  after = drop (i + 1) lines;
  split = sym (take-append-drop i lines) ∙ ap (λ ys. take i lines ++ ys) (drop_more lines i d lt);
  kept = kept;
  broken = λ k. broken (subst Keeps (map-append (λ (x : Line86). x.stmt) (take i lines) (get_or lines i d ∷ [])) k);
  numbered = refl;
}
