use Rattle.std.proofs.Common.{◌∙◌, sym}
use Rattle.asm80_first_walk.proofs.Reaching.{reaches_next, done_at_end}
use Rattle.asm80_first_walk.proofs.walker.Walker.run.Goals as goal

pub returns-then-branch : goal.returns-then-branch
returns-then-branch c =
    done_at_end c.args.statements.now c.loop-index.index c.index-statements-index.result c.loop-index.self c.step.new.self c.loop-index-test.true c.index-statements-index.is c.loop-index.invariant c.in_ok-step.ensures.steps (sym c.in_ok-step.ensures.ends ∙ c.if-branch.true)

pub loop-index-preserved : goal.loop-index-preserved
loop-index-preserved c =
    reaches_next c.args.statements.now c.loop-index.index c.index-statements-index.result c.loop-index.self c.step.new.self c.loop-index-test.true c.index-statements-index.is c.loop-index.invariant c.in_ok-step.ensures.steps (sym c.in_ok-step.ensures.ends ∙ c.if-branch.false)
