use Rattle.std.proofs.Common.{ℕ, ◌≤◌, length, ap, sym, subst, arith}
use Rattle.cmd_common.specs.declared.stop.Stop.TheVariants.{TooManyStatements}
use Rattle.cmd_common.proofs.Told.{handed_on}
use Rattle.cmd_shrink.specs.Shrinks.{LeftStops, too_many, unlike}
use Rattle.cmd_shrink.proofs.leaving.leave.Goals as goal

pub returns-then-count-gt-MOST_STATEMENTS-clause-stopped : goal.returns-then-count-gt-MOST_STATEMENTS-clause-stopped
returns-then-count-gt-MOST_STATEMENTS-clause-stopped c =
    let lines = c.args.text.now.lines.items in
    let count = sym (ap length c.as_slice-lines.ensures.value) in
    let many = c.if-count-gt-MOST_STATEMENTS.true in
    subst (λ (n : ℕ). LeftStops c.args.program.now lines (TooManyStatements n)) count (too_many (omega (arith, count, many)))

-- the text is not shown
pub returns-in_err-find-clause-stopped : goal.returns-in_err-find-clause-stopped
returns-in_err-find-clause-stopped c =
    let lines = c.args.text.now.lines.items in
    let stops = LeftStops c.args.program.now lines in
    let count = sym (ap length c.as_slice-lines.ensures.value) in
    let most = c.if-count-gt-MOST_STATEMENTS.false in
    let few : length lines ≤ 2048 = omega (arith, count, most) in
    handed_on c.from_residual.result c.in_err-find.field-0.0 stops c.from_residual.ensures.1
    (unlike few c.in_err-find.ensures.stopped)
