use Rattle.std.proofs.Common.{◌∙◌, ◌++◌, sym, ap, subst, append_assoc}
use Rattle.std.proofs.lemmas.Result.{on_ok_weaker}
use Rattle.asm86_line_types.proofs.Same.{same_stmt86, differs}
use Rattle.asm86_line_types.specs.Image.{statements}
use Rattle.cmd_explain.specs.Lines.{ends_at, wanted_line}
use Rattle.cmd_explain.specs.Explained.{IsUnlike}
use Rattle.cmd_explain.proofs.Opening.{remains_on, never_on, told_here, unlike_none, nothing_left}
use Rattle.cmd_explain.proofs.frame.tell_unlike.Goals as goal
use Rattle.cmd_explain.proofs.frame.tell_unlike.Goals.{After-tell_wanted, in_default-split_first-via-in-Some-split_first+else-eq, in_default-split_first-via-in_default-split_first}

pub loop-statement-preserved : goal.loop-statement-preserved
loop-statement-preserved c =
    let s = c.in-Some.statement.now in
    let x = c.in-Some-split_first.line.now in
    let left = c.loop-statement.left.now in
    let rest = c.loop-statement.rest.now in
    let more = c.in-Some.more.now in
    let others = c.in-Some-split_first.others.now in
    let same = same_stmt86 x.stmt s (sym c.eq.ensures ∙ c.if-eq.true) in
    record {
      kept = c.loop-statement.invariant.kept;
      remains = remains_on c.args.wanted.now c.args.lines.now left more rest others s x c.in-Some.ensures.cases.0 c.in-Some-split_first.ensures.cases.0 same c.loop-statement.invariant.remains;
      never = never_on c.args.wanted.now c.args.lines.now left more rest others s x c.in-Some.ensures.cases.0 c.in-Some-split_first.ensures.cases.0 same c.loop-statement.invariant.never;
    }

-- the next line is not the one that is wanted
is_unlike : (c : After-tell_wanted) → IsUnlike c.in-Some.statement.now c.loop-statement.rest.now
is_unlike c = elim c.in_default-split_first.branch [
  | in_default-split_first-via-in-Some-split_first+else-eq w ↦ subst (IsUnlike c.in-Some.statement.now) (sym w.in-Some-split_first.ensures.cases.0) (differs w.in-Some-split_first.line.now.stmt c.in-Some.statement.now (sym w.eq.ensures ∙ w.if-eq.false))
  | in_default-split_first-via-in_default-split_first w ↦ unlike_none c.in-Some.statement.now c.loop-statement.rest.now w.in_default-split_first.ensures.cases
]

pub returns-in_default-split_first : goal.returns-in_default-split_first
returns-in_default-split_first c =
    let s = c.in-Some.statement.now in
    let rest = c.loop-statement.rest.now in
    on_ok_weaker c.tell_wanted.result
    (λ told. record {
      own = ends_at rest ++ wanted_line s;
      is = told ∙ ap (λ t. t ++ wanted_line s) (c.in_ok-tell_end-in_default-split_first.ensures ∙ ap (λ t. t ++ ends_at rest) c.loop-statement.invariant.kept) ∙ append_assoc c.args.told.now.items (ends_at rest) (wanted_line s);
      claim = told_here c.args.wanted.now c.args.lines.now c.loop-statement.left.now c.in-Some.more.now rest s c.in-Some.ensures.cases.0 (is_unlike c) c.loop-statement.invariant.remains;
    })
    c.tell_wanted.ensures

pub returns : goal.returns
returns c = absurd (c.loop-statement.invariant.never (statements c.loop-statement.rest.now) (nothing_left c.loop-statement.left.now (statements c.loop-statement.rest.now) c.in_default.ensures.cases))
