use Rattle.std.proofs.Common.{[], ◌∷◌, ◌++◌, ◌∙◌, sym, ap, subst, arith}
use Rattle.std.proofs.lemmas.List.{map-append}
use Rattle.std.proofs.lemmas.Result.{IfOk-from_err}
use Rattle.asm86_line_types.specs.declared.line.Line86.{Line86}
use Rattle.asm86_line_types.specs.Image.{statements}
use Rattle.templates.proofs.Numbering.{IsNumbered, numbered-more}
use Rattle.templates.proofs.text.Text.push.Goals as goal

-- the line has the next number
pub invariant_of-self-2 : goal.invariant_of-self-2
invariant_of-self-2 c = rw c.in_ok-push.ensures.items (numbered-more c.self.inside.lines.items 1 _ c.self.invariant (omega arith))

pub invariant_of-self : goal.invariant_of-self
invariant_of-self c = subst (IsNumbered 1) (sym c.in_err-push.ensures.items) c.self.invariant

pub returns-in_err-push : goal.returns-in_err-push
returns-in_err-push c = let r = c.from_residual in IfOk-from_err r.result _ r.ensures.0

pub returns : goal.returns
returns c =
    ap statements c.in_ok-push.ensures.items
    ∙ map-append (λ (x : Line86). x.stmt) c.self.inside.lines.items _
    ∙ ap (λ xs. xs ++ c.args.statement ∷ []) c.self.view_is
