use Rattle.std.proofs.Common.{◌∙◌, arith}
use Rattle.dialogue.proofs.ByteMemory.{put_bytes_more}
use Rattle.cpu80.specs.ProcessorState.{untagged_memory}
use Rattle.cpu80.proofs.memory.Memory.set_bytes.Goals as goal

pub loop-byte-preserved : goal.loop-byte-preserved
loop-byte-preserved c =
    put_bytes_more (untagged_memory c.loop-byte.self) (untagged_memory c.set.new.self) c.args.bytes.now c.loop-byte.place c.loop-byte.byte-index (omega arith) c.set.ensures
    ∙ c.loop-byte.invariant
