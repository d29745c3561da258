use Rattle.std.proofs.Common.{◌∙◌, sym}
use Rattle.asm86_line_types.proofs.Same.{same_stmt86, differs}
use Rattle.text_check.proofs.Frames.{one_further, other_found, none_found}
use Rattle.text_check.proofs.frame.behind.Goals as goal
use Rattle.text_check.proofs.frame.behind.Goals.{in_default-split_first-via-in-Some-split_first+else-eq, in_default-split_first-via-in_default-split_first}

pub loop-expected-preserved : goal.loop-expected-preserved
loop-expected-preserved c =
    one_further c.args.text.now c.args.first.now c.loop-expected.rest.now c.loop-expected.left.now c.in-Some.expected.now c.in-Some-split_first.found.now c.in-Some.more.now c.in-Some-split_first.others.now
    c.in-Some.ensures.cases.0 c.in-Some-split_first.ensures.cases.0 (same_stmt86 c.in-Some-split_first.found.now c.in-Some.expected.now (sym c.eq.ensures ∙ c.if-eq.true)) c.loop-expected.invariant

pub returns-in_default-split_first : goal.returns-in_default-split_first
returns-in_default-split_first c = elim c.in_default-split_first.branch [
  | in_default-split_first-via-in-Some-split_first+else-eq w ↦ other_found c.args.text.now c.args.first.now c.loop-expected.rest.now c.loop-expected.left.now c.in-Some.expected.now w.in-Some-split_first.found.now c.in-Some.more.now w.in-Some-split_first.others.now
      c.in-Some.ensures.cases.0 w.in-Some-split_first.ensures.cases.0 (differs w.in-Some-split_first.found.now c.in-Some.expected.now (sym w.eq.ensures ∙ w.if-eq.false)) c.loop-expected.invariant
  | in_default-split_first-via-in_default-split_first w ↦ none_found c.args.text.now c.args.first.now c.loop-expected.rest.now c.loop-expected.left.now c.in-Some.expected.now c.in-Some.more.now
      c.in-Some.ensures.cases.0 w.in_default-split_first.ensures.cases c.loop-expected.invariant
]
