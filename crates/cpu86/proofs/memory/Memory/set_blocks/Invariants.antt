use Rattle.std.proofs.Common.{◌≡◌, drop}
use Rattle.cpu86.specs.ProcessorState.{memory_of_86}
use Rattle.dialogue.specs.ByteMemory.{put_blocks}
use Rattle.cpu86.proofs.memory.Memory.set_blocks.Given as goal

abbrev pub invariant-loop-block : goal.invariant-loop-block
invariant-loop-block l = put_blocks (memory_of_86 l.self) (drop l.block-index l.blocks) ≡ put_blocks (memory_of_86 l.fn.self) l.blocks
