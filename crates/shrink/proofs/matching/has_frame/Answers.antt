use Rattle.std.proofs.Common.{◌≡◌, ◌∙◌, Bool, true, false, not, List, Option, Some, None, refl, sym, subst}
use Rattle.std.specs.Prelude.{IsTrue, ◌↔◌, MatchOption, is_some}
use Rattle.std.proofs.lemmas.Bool.{false≢true}
use Rattle.asm80_types.specs.Program.{Program}
use Rattle.asm86_line_types.specs.declared.line.Line86.{Line86}
use Rattle.asm86_line_types.specs.declared.line.Stmt86.{Stmt86}
use Rattle.asm86_line_types.specs.Image.{Image, image_of, statements}
use Rattle.sym_block_def.specs.declared.reason.Reason.{Reason}
use Rattle.text_check.specs.Findings.{HasFrame, Lacks}
use Rattle.shrink.proofs.Alone.{lacking}
use Rattle.shrink.proofs.Steps.{not_true}
use Rattle.shrink.proofs.matching.has_frame.Goals as goal

-- lines have the frame where no part of it is lacking
if_none : (p : Program) (text : List Stmt86) (image : Image) (lines : List Line86) (r : Option Reason) (b : Bool) → text ≡ statements lines → image ≡ image_of lines → is_some r ≡ not b → MatchOption r (HasFrame p text image) (Lacks p text image) → IsTrue b ↔ HasFrame p (statements lines) (image_of lines)
if_none p text image lines None true is made e h = (λ t. subst (HasFrame p (statements lines)) made (subst (λ s. HasFrame p s image) is h), λ f. refl)
if_none p text image lines None false is made e h = absurd (false≢true e)
if_none p text image lines (Some r) true is made e h = absurd (false≢true (sym e))
if_none p text image lines (Some r) false is made e h = (λ t. absurd (not_true false refl t), λ f. absurd (lacking p text image lines r is made h f))

pub returns : goal.returns
returns c = if_none c.args.program.now c.statements.result.now c.in_ok-image.image c.args.lines.now c.lacks.result c.is_none.result (c.statements.ensures ∙ c.requires.text) c.in_ok-image.ensures.is c.is_none.ensures c.lacks.ensures
