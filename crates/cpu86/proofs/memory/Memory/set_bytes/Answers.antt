use Rattle.std.proofs.Common.{◌∙◌, arith}
use Rattle.dialogue.proofs.ByteMemory.{put_bytes_more}
use Rattle.cpu86.specs.ProcessorState.{memory_of_86}
use Rattle.cpu86.proofs.memory.Memory.set_bytes.Goals as goal

pub loop-byte-preserved : goal.loop-byte-preserved
loop-byte-preserved c =
    put_bytes_more (memory_of_86 c.loop-byte.self) (memory_of_86 c.set.new.self) c.args.bytes.now c.loop-byte.place c.loop-byte.byte-index (omega arith) c.set.ensures
    ∙ c.loop-byte.invariant
