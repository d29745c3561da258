use Rattle.std.proofs.Common.{All, subst}
use Rattle.std.proofs.lemmas.List.{take_all}
use Rattle.std.proofs.lemmas.List.Elements.{All-more}
use Rattle.dialogue.specs.Replies.{IsReplyBlock as IsBlock}
use Rattle.emulator_loop.proofs.replies.blocks_are_in_range.Goals as goal

pub loop-block-preserved : goal.loop-block-preserved
loop-block-preserved c = All-more IsBlock c.args.blocks.now c.loop-block.block-index c.block-item.result c.loop-block-test.true c.loop-block.invariant (subst IsBlock c.block-item.is c.block_is_in_range.ensures)

pub returns : goal.returns
returns c = subst (All IsBlock) (take_all c.loop-block.block-index c.args.blocks.now c.loop-block-test.false) c.loop-block.invariant
