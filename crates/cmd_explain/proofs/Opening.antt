-- The opening, statement by statement.
use Rattle.std.proofs.Common.{◌≡◌, ◌∙◌, ℕ, List, [], ◌∷◌, ◌++◌, length, refl, sym, ap, subst, append_assoc, arith}
use Rattle.asm86_line_types.specs.declared.line.Label.TheVariants.{At}
use Rattle.asm86_line_types.specs.declared.line.Line86.{Line86}
use Rattle.asm86_line_types.specs.declared.line.Stmt86.{Stmt86}
use Rattle.asm86_line_types.specs.declared.line.Stmt86.TheVariants.{Cseg, Mark}
use Rattle.asm86_line_types.specs.Image.{statements}
use Rattle.asm80_types.specs.Program.{Program}
use Rattle.templates.specs.Plain.{prologue}
use Rattle.simulation_def.specs.Matches.{HasOpening}
use Rattle.cmd_explain.specs.Lines.{ends_at, wanted_line}
use Rattle.cmd_explain.specs.Explained.{OpeningTold, IsUnlike, unlike, alike, opening}

-- a text that begins with the opening has it
pub has_opening : (p : Program) (text rest : List Stmt86) → text ≡ opening p ++ rest → HasOpening p text
has_opening p text rest e = record {
  rest = rest;
  is = e ∙ ap (λ (xs : List Stmt86). Cseg ∷ xs) (append_assoc (prologue p.top) (Mark (At 0x100) ∷ []) rest);
}

-- what is told of what is left to compare is told of all
abbrev pub Remains : List Stmt86 → List Line86 → List Stmt86 → List Line86 → Type 0
Remains wanted lines left rest = (text : List ℕ) → OpeningTold left rest text → OpeningTold wanted lines text

-- what is left does not begin with what is wanted
abbrev pub NeverBegins : List Stmt86 → List Line86 → Type 0
NeverBegins left rest = (more : List Stmt86) → statements rest ≡ left ++ more → ⊥

module _ (wanted : List Stmt86) (lines : List Line86) (left more : List Stmt86) (rest others : List Line86) (s : Stmt86) (x : Line86) (left_is : left ≡ s ∷ more) (rest_is : rest ≡ x ∷ others) (same : x.stmt ≡ s) where
  pub remains_on : Remains wanted lines left rest → Remains wanted lines more others
  remains_on h = λ text told. h text (subst (λ l. OpeningTold l rest text) (sym left_is) (subst (λ r. OpeningTold (s ∷ more) r text) (sym rest_is) (alike same told)))

  pub never_on : NeverBegins left rest → NeverBegins more others
  never_on h = λ ys e. h ys (ap statements rest_is ∙ ap (λ (t : Stmt86). t ∷ statements others) same ∙ ap (λ (l : List Stmt86). s ∷ l) e ∙ ap (λ (l : List Stmt86). l ++ ys) (sym left_is))

-- the first that is not the one that is wanted
pub told_here : (wanted : List Stmt86) (lines : List Line86) (left more : List Stmt86) (rest : List Line86) (s : Stmt86) → left ≡ s ∷ more → IsUnlike s rest → Remains wanted lines left rest → OpeningTold wanted lines (ends_at rest ++ wanted_line s)
told_here wanted lines left more rest s e u h = h (ends_at rest ++ wanted_line s) (subst (λ l. OpeningTold l rest (ends_at rest ++ wanted_line s)) (sym e) (unlike u))

pub unlike_none : (s : Stmt86) (rest : List Line86) → length rest ≡ 0 → IsUnlike s rest
unlike_none s [] e = tt
unlike_none s (x ∷ xs) e = absurd (omega (arith, e))

pub nothing_left : (left ys : List Stmt86) → length left ≡ 0 → ys ≡ left ++ ys
nothing_left [] ys e = refl
nothing_left (x ∷ xs) ys e = absurd (omega (arith, e))
