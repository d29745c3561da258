use Rattle.std.proofs.Common.{sym, subst, get_or}
use Rattle.asm86_line_types.specs.declared.line.Stmt86.TheVariants.{Cseg}
use Rattle.asm86_line_types.specs.Image.{statements, UsesDefined}
use Rattle.asm86.proofs.Laid.{up_to, one_more}
use Rattle.asm86.proofs.Texts.{uses_more, uses_last}
use Rattle.asm86.proofs.Faults.{first_breaks}
use Rattle.asm86.proofs.layout.first_undefined.Goals as goal

pub returns-then-not-uses_defined : goal.returns-then-not-uses_defined
returns-then-not-uses_defined c =
    let lines = c.args.lines.now in
    let i = c.loop-line.line-index in
    let all = statements lines in
    first_breaks (UsesDefined all) lines i (record { line = 0; stmt = Cseg }) c.loop-line-test.true c.loop-line.invariant
    (λ h. c.uses_defined.ensures.no c.if-not-uses_defined.true all c.requires (uses_last all (up_to lines i) (get_or lines i (record { line = 0; stmt = Cseg })).stmt h))

pub loop-line-preserved : goal.loop-line-preserved
loop-line-preserved c =
    let lines = c.args.lines.now in
    let i = c.loop-line.line-index in
    let all = statements lines in
    subst (UsesDefined all) (sym (one_more lines i (record { line = 0; stmt = Cseg }) c.loop-line-test.true))
    (uses_more all (up_to lines i) (get_or lines i (record { line = 0; stmt = Cseg })).stmt c.loop-line.invariant (c.uses_defined.ensures.yes c.if-not-uses_defined.false all c.requires))
