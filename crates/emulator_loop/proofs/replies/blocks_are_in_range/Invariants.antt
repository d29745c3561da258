use Rattle.std.proofs.Common.{All, take}
use Rattle.dialogue.specs.Replies.{IsReplyBlock as IsBlock}
use Rattle.emulator_loop.proofs.replies.blocks_are_in_range.Given as goal

abbrev pub invariant-loop-block : goal.invariant-loop-block
invariant-loop-block l = All IsBlock (take l.block-index l.blocks)
