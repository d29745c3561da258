use Rattle.std.proofs.Common.{◌&&◌, ◌+◌, drop, sym, ap, ◌∙◌}
use Rattle.std.specs.List.{list_all}
use Rattle.std.proofs.lemmas.List.{drop_more, drop_all}
use Rattle.asm86_line_types.specs.declared.line.Line86.{Line86}
use Rattle.asm86_line_types.specs.declared.line.Stmt86.TheVariants.{Cseg}
use Rattle.shrink.specs.Apart.{is_inner}
use Rattle.shrink.proofs.apart.are_inner.Goals as goal

abbrev cseg : Line86
cseg = record { line = 0; stmt = Cseg }

pub loop-line-preserved : goal.loop-line-preserved
loop-line-preserved c =
    let p = λ (line : Line86). is_inner c.args.graph.now.program line.stmt in
    let lines = c.args.lines.now in
    let i = c.loop-line.line-index in
    c.loop-line.invariant ∙ ap (list_all p) (drop_more lines i cseg c.loop-line-test.true) ∙ ap (λ b. b && list_all p (drop (i + 1) lines)) (sym c.is_inner.ensures ∙ c.if-not-is_inner.false)

pub returns-then-not-is_inner : goal.returns-then-not-is_inner
returns-then-not-is_inner c =
    let p = λ (line : Line86). is_inner c.args.graph.now.program line.stmt in
    let lines = c.args.lines.now in
    let i = c.loop-line.line-index in
    sym (c.loop-line.invariant ∙ ap (list_all p) (drop_more lines i cseg c.loop-line-test.true) ∙ ap (λ b. b && list_all p (drop (i + 1) lines)) (sym c.is_inner.ensures ∙ c.if-not-is_inner.true))

pub returns : goal.returns
returns c =
    let p = λ (line : Line86). is_inner c.args.graph.now.program line.stmt in
    sym (c.loop-line.invariant ∙ ap (list_all p) (drop_all c.loop-line.line-index c.args.lines.now c.loop-line-test.false))
