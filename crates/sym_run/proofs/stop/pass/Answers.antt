use Rattle.std.proofs.Common.{◌≡◌, ◌∙◌, ℕ, ◌+◌, ◌<◌, ◌≤◌, ◌∷◌, length, drop, slice_index_or, sym, ap, subst, arith}
use Rattle.std.proofs.lemmas.Bool.{cond-true, cond-false}
use Rattle.std.proofs.lemmas.List.{at_drop_more}
use Rattle.asm86_line_types.specs.declared.line.Stmt86.TheVariants.{Cseg, Mark}
use Rattle.sym_block_def.specs.Walk86.{is_passed}
use Rattle.sym_run.specs.Around.{surroundings_of}
use Rattle.sym_run.specs.Stop.{pass}
use Rattle.sym_run.proofs.stop.pass.Goals as goal

next_within : (n m : ℕ) → n < m → n + 1 ≤ m
next_within n m h = omega arith

pub loop-at-preserved : goal.loop-at-preserved
loop-at-preserved c =
    let w = surroundings_of c.args.around.now in
    let text = c.args.around.now.text.now in
    let at = c.loop-at.at in
    let rest = drop (at + 1) text in
    let before = subst (λ xs. at < length xs) c.statements-statements.ensures c.loop-at-test.true in
    let mark = subst (λ xs. slice_index_or xs at Cseg ≡ Mark c.in-Mark.label) c.statements-statements.ensures c.in-Mark.is in
    let one = at_drop_more (pass w) text at Cseg before ∙ (ap (λ x. pass w (x ∷ rest)) mark ∙ cond-true (is_passed w c.in-Mark.label) (pass w rest) (Mark c.in-Mark.label ∷ rest) (sym c.if-is_passed.ensures)) in
    record { within = next_within at (length text) before; is = sym one ∙ c.loop-at.invariant.is }

pub returns-in_default : goal.returns-in_default
returns-in_default c =
    let w = surroundings_of c.args.around.now in
    let text = c.args.around.now.text.now in
    let at = c.loop-at.at in
    let rest = drop (at + 1) text in
    let before = subst (λ xs. at < length xs) c.statements-statements.ensures c.loop-at-test.true in
    let mark = subst (λ xs. slice_index_or xs at Cseg ≡ Mark c.in-Mark.label) c.statements-statements.ensures c.in-Mark.is in
    let here = at_drop_more (λ xs. xs) text at Cseg before ∙ ap (λ x. x ∷ rest) mark in
    let stays = ap (pass w) here ∙ cond-false (is_passed w c.in-Mark.label) (pass w rest) (Mark c.in-Mark.label ∷ rest) (sym c.if-is_passed.ensures) in
    record { within = c.loop-at.invariant.within; is = here ∙ (sym stays ∙ c.loop-at.invariant.is) }
