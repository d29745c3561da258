use Rattle.std.proofs.Common.{◌≡◌, ◌∙◌, ◌+◌, ◌<◌, ◌≤◌, length, drop, slice_index_or, Some, None, sym, ap, subst, arith}
use Rattle.std.proofs.lemmas.List.{length-drop, at_drop_more}
use Rattle.asm86_line_types.specs.declared.line.Stmt86.TheVariants.{Cseg}
use Rattle.sym_run.specs.Around.{surroundings_of}
use Rattle.sym_run.specs.Stop.{stop, next_after, stop_from}
use Rattle.sym_run.proofs.Stops.{stops_at, none_left, text_ends, stops_here, goes_on}
use Rattle.sym_run.proofs.stop.stop_from.Goals as goal

pub loop-left-preserved : goal.loop-left-preserved
loop-left-preserved c =
    let w = surroundings_of c.args.around.now in
    let text = c.args.around.now.text.now in
    let at = c.loop-left.at in
    let next = subst (λ xs. next_after c.args.jumped w (slice_index_or xs at Cseg) (drop (at + 1) text) ≡ Some (drop c.in-Some.next text)) c.statements-statements.ensures c.in-Some.ensures.1 in
    let before = subst (λ xs. at < length xs) c.statements-statements.ensures c.if-at-statements.true in
    record {
      within = c.pass-at-in-Some.ensures.within;
      is = ap (stop_from c.args.jumped w _) c.pass-at-in-Some.ensures.is
          ∙ (sym (goes_on w c.args.jumped c.loop-left.left _ _ _ c.loop-left-test.true next)
          ∙ (sym (at_drop_more (stop_from c.args.jumped w c.loop-left.left) text at Cseg before)
          ∙ c.loop-left.invariant.is));
    }

pub returns-in-None : goal.returns-in-None
returns-in-None c =
    let w = surroundings_of c.args.around.now in
    let text = c.args.around.now.text.now in
    let at = c.loop-left.at in
    let next = subst (λ xs. next_after c.args.jumped w (slice_index_or xs at Cseg) (drop (at + 1) text) ≡ None) c.statements-statements.ensures c.in-None.ensures in
    let before = subst (λ xs. at < length xs) c.statements-statements.ensures c.if-at-statements.true in
    let x = slice_index_or text at Cseg in
    let here = at_drop_more (λ xs. xs) text at Cseg before in
    stops_at text _ _ _ c.loop-left.invariant.within
    (sym (ap (stop_from c.args.jumped w c.loop-left.left) here ∙ (stops_here w c.args.jumped c.loop-left.left x (drop (at + 1) text) next ∙ ap (stop c.loop-left.left) (sym here)))
    ∙ c.loop-left.invariant.is)

pub returns-else-at-statements : goal.returns-else-at-statements
returns-else-at-statements c =
    let w = surroundings_of c.args.around.now in
    let text = c.args.around.now.text.now in
    let over = subst (λ xs. length xs ≤ c.loop-left.at) c.statements-statements.ensures c.if-at-statements.false in
    let none : length (drop c.loop-left.at text) ≤ 0 = omega (arith, length-drop c.loop-left.at text) in
    stops_at text _ _ _ c.loop-left.invariant.within (sym (text_ends w c.args.jumped c.loop-left.left (drop c.loop-left.at text) none) ∙ c.loop-left.invariant.is)

pub returns-after-loop-left : goal.returns-after-loop-left
returns-after-loop-left c =
    let w = surroundings_of c.args.around.now in
    let text = c.args.around.now.text.now in
    stops_at text _ _ _ c.loop-left.invariant.within (sym (none_left w c.args.jumped c.loop-left.left (drop c.loop-left.at text) c.loop-left-test.false) ∙ c.loop-left.invariant.is)
