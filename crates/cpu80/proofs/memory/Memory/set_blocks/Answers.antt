use Rattle.std.proofs.Common.{ap, ◌∙◌}
use Rattle.dialogue.specs.ByteMemory.{put_bytes}
use Rattle.dialogue.proofs.ByteMemory.{put_blocks_more}
use Rattle.cpu80.specs.ProcessorState.{untagged_memory}
use Rattle.cpu80.proofs.memory.Memory.set_blocks.Goals as goal

pub loop-block-preserved : goal.loop-block-preserved
loop-block-preserved c =
    put_blocks_more (untagged_memory c.loop-block.self) (untagged_memory c.set_bytes.new.self) c.args.blocks.now c.loop-block.block-index c.block-item.result c.loop-block-test.true c.block-item.is (c.set_bytes.ensures ∙ ap (put_bytes (untagged_memory c.loop-block.self) c.block-item.result.at) c.as_slice.ensures)
    ∙ c.loop-block.invariant
