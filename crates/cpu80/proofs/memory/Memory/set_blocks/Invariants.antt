use Rattle.std.proofs.Common.{◌≡◌, drop}
use Rattle.cpu80.specs.ProcessorState.{untagged_memory}
use Rattle.dialogue.specs.ByteMemory.{put_blocks}
use Rattle.cpu80.proofs.memory.Memory.set_blocks.Given as goal

abbrev pub invariant-loop-block : goal.invariant-loop-block
invariant-loop-block l = put_blocks (untagged_memory l.self) (drop l.block-index l.blocks) ≡ put_blocks (untagged_memory l.fn.self) l.blocks
