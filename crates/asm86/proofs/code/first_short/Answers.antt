use Rattle.std.proofs.Common.{◌≡◌, ◌+◌, sym, subst, ap, ◌∙◌, get_or, true≢false, arith}
use Rattle.asm86_line_types.specs.declared.line.Stmt86.TheVariants.{Cseg}
use Rattle.asm86_line_types.specs.Layout.{sizes_of}
use Rattle.asm86_line_types.specs.Image.{short_reaches, AllReach}
use Rattle.asm86.specs.Places.{label_place}
use Rattle.asm86.proofs.Laid.{up_to, one_more, size_next, size_within}
use Rattle.asm86.proofs.Texts.{reach_more, reach_last}
use Rattle.asm86.proofs.Faults.{first_breaks}
use Rattle.asm86.proofs.code.first_short.Goals as goal

pub does_reach-requires-clause-small : goal.does_reach-requires-clause-small
does_reach-requires-clause-small c =
    let within = size_within c.args.lines.now c.loop-line.line-index (record { line = 0; stmt = Cseg }) c.loop-line-test.true in
    omega (arith, within)

pub returns-then-not-does_reach : goal.returns-then-not-does_reach
returns-then-not-does_reach c =
    let lines = c.args.lines.now in
    let i = c.loop-line.line-index in
    let off = label_place c.args.offsets.now in
    let x = (get_or lines i (record { line = 0; stmt = Cseg })).stmt in
    let at : 0 + sizes_of (up_to lines i) ≡ c.loop-line.at = omega arith in
    first_breaks (AllReach off 0) lines i (record { line = 0; stmt = Cseg }) c.loop-line-test.true c.loop-line.invariant.kept
    (λ h. true≢false (sym (reach_last off 0 (up_to lines i) x h) ∙ ap (λ n. short_reaches off n x) at ∙ sym c.does_reach.ensures ∙ c.if-not-does_reach.true))

pub overflow_add-at : goal.overflow_add-at
overflow_add-at c =
    let within = size_within c.args.lines.now c.loop-line.line-index (record { line = 0; stmt = Cseg }) c.loop-line-test.true in
    omega (arith, within)

pub loop-line-preserved : goal.loop-line-preserved
loop-line-preserved c =
    let lines = c.args.lines.now in
    let i = c.loop-line.line-index in
    let off = label_place c.args.offsets.now in
    let x = (get_or lines i (record { line = 0; stmt = Cseg })).stmt in
    let next = size_next lines i (record { line = 0; stmt = Cseg }) c.loop-line-test.true in
    let at : c.loop-line.at ≡ 0 + sizes_of (up_to lines i) = omega arith in
    record {
      size = omega (arith, next);
      kept = subst (AllReach off 0) (sym (one_more lines i (record { line = 0; stmt = Cseg }) c.loop-line-test.true))
          (reach_more off 0 (up_to lines i) x c.loop-line.invariant.kept
          (ap (λ n. short_reaches off n x) (sym at) ∙ sym c.does_reach.ensures ∙ c.if-not-does_reach.false));
    }
