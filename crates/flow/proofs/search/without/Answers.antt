use Rattle.cells.specs.declared.Part.TheVariants.{A}
use Rattle.flow.proofs.Sets.{left-first, left-step, left-last}
use Rattle.flow.proofs.search.without.Goals as goal

pub loop-part-init : goal.loop-part-init
loop-part-init c = λ x. left-first x c.none-left.result c.args.keep c.args.other c.none-left.ensures

pub returns : goal.returns
returns c = λ x. left-last x c.loop-part.left c.args.keep c.args.other c.loop-part.part-index _ c.loop-part-test.false (c.loop-part.invariant x)

pub loop-part-preserved : goal.loop-part-preserved
loop-part-preserved c = λ x. left-step x c.loop-part.left c.with_left-left.result c.args.keep c.args.other A c.loop-part.part-index _ c.loop-part-test.true (c.with_left-left.ensures x) (c.loop-part.invariant x)
