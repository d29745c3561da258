use Rattle.std.proofs.Common.{◌≡◌, ◌∙◌, ℕ, ◌+◌, ◌<◌, List, [], ◌∷◌, ◌++◌, length, take, get_or, ap, sym}
use Rattle.std.proofs.lemmas.List.{take_all, map_more}
use Rattle.asm86_line_types.specs.declared.line.Line86.{Line86}
use Rattle.asm86_line_types.specs.declared.line.Stmt86.{Stmt86}
use Rattle.asm86_line_types.specs.Image.{statements}
use Rattle.sym_run.proofs.index.statements_of.Goals as goal

one_more : (lines : List Line86) (i : ℕ) (d : Line86) (old new : List Stmt86) → i < length lines → new ≡ old ++ (get_or lines i d).stmt ∷ [] → old ≡ statements (take i lines) → new ≡ statements (take (i + 1) lines)
one_more lines i d old new lt e h = e ∙ (ap (λ xs. xs ++ (get_or lines i d).stmt ∷ []) h ∙ sym (map_more (λ (x : Line86). x.stmt) lines i d lt))

pub loop-line-preserved : goal.loop-line-preserved
loop-line-preserved c = one_more c.args.lines.now c.loop-line.line-index _ _ _ c.loop-line-test.true c.in_ok-push.ensures.items c.loop-line.invariant

pub returns : goal.returns
returns c = c.loop-line.invariant ∙ ap statements (take_all c.loop-line.line-index c.args.lines.now c.loop-line-test.false)
