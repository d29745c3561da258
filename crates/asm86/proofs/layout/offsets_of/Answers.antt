use Rattle.std.proofs.Common.{◌+◌, Ok, refl, sym, ap, ◌∙◌, subst, get_or, inr, arith}
use Rattle.asm86_line_types.specs.declared.line.Stmt86.TheVariants.{Cseg}
use Rattle.asm86_line_types.specs.Image.{IsDefinedOnce, labels_from}
use Rattle.asm86_line_types.specs.Layout.{size_of}
use Rattle.asm86.specs.Places.{AreLabelsLaid}
use Rattle.asm86.proofs.Laid.{up_to, up_to_all, one_more}
use Rattle.asm86.proofs.Faults.{first_breaks}
use Rattle.asm86.proofs.layout.offsets_of.Goals as goal

pub returns-then-not-branch : goal.returns-then-not-branch
returns-then-not-branch c =
    inr (first_breaks IsDefinedOnce c.args.lines.now c.loop-line.line-index (record { line = 0; stmt = Cseg }) c.loop-line-test.true c.loop-line.invariant.laid.once
    (c.define_label.ensures.again (grind (arith, c.in_ok-define_label.was, c.if-not-branch.true)) (up_to c.args.lines.now c.loop-line.line-index) c.loop-line.invariant.laid))

pub loop-line-init : goal.loop-line-init
loop-line-init c = record {
  laid = record { found = c.empty-offsets.ensures; size = refl; once = λ label. omega arith };
  most = omega arith;
}

-- one statement more
pub loop-line-preserved : goal.loop-line-preserved
loop-line-preserved c =
    let lines = c.args.lines.now in
    let i = c.loop-line.line-index in
    let x = (get_or lines i (record { line = 0; stmt = Cseg })).stmt in
    let text = up_to lines i in
    let laid = c.define_label.ensures.laid (c.in_ok-define_label.was ∙ ap Ok c.if-not-branch.false) text c.loop-line.invariant.laid in
    let most = c.loop-line.invariant.most in
    record {
      laid = subst (λ n. AreLabelsLaid (up_to lines (i + 1)) c.define_label.new.offsets (c.loop-line.at + n)) (sym c.statement_size.ensures.value)
          (subst (λ xs. AreLabelsLaid xs c.define_label.new.offsets (c.loop-line.at + size_of x)) (sym (one_more lines i (record { line = 0; stmt = Cseg }) c.loop-line-test.true)) laid);
      most = omega (arith, most, c.statement_size.ensures.most);
    }

pub returns : goal.returns
returns c =
    let all = up_to_all c.args.lines.now c.loop-line.line-index c.loop-line-test.false in
    let laid = c.loop-line.invariant.laid in
    (laid.found ∙ ap (labels_from 0) all, subst IsDefinedOnce all laid.once)
