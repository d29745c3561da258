use Rattle.std.proofs.Common.{◌≡◌, drop}
use Rattle.cpu80.specs.ProcessorState.{untagged_memory}
use Rattle.dialogue.specs.ByteMemory.{put_bytes}
use Rattle.cpu80.proofs.memory.Memory.set_bytes.Given as goal

abbrev pub invariant-loop-byte : goal.invariant-loop-byte
invariant-loop-byte l = put_bytes (untagged_memory l.self) l.place (drop l.byte-index l.bytes) ≡ put_bytes (untagged_memory l.fn.self) l.at l.bytes
