use Rattle.std.proofs.Common.{ap, not}
use Rattle.asm80_first_walk.specs.declared.ifs.OpenIf.{OpenIf}
use Rattle.asm80_first_walk.proofs.Lists.{any_later, any_nowhere}
use Rattle.asm80_first_walk.proofs.ifs.some_skips.Goals as goal

pub loop-open-preserved : goal.loop-open-preserved
loop-open-preserved c = any_later (λ (i : OpenIf). not i.is_taken) c.args.ifs.now c.loop-open.open-index _ c.loop-open-test.true c.loop-open.invariant (ap not c.if-not-open.false)

pub returns : goal.returns
returns c = any_nowhere (λ (i : OpenIf). not i.is_taken) c.args.ifs.now c.loop-open.open-index c.loop-open-test.false c.loop-open.invariant
