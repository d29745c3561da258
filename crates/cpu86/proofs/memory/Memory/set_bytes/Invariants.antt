use Rattle.std.proofs.Common.{◌≡◌, drop}
use Rattle.cpu86.specs.ProcessorState.{memory_of_86}
use Rattle.dialogue.specs.ByteMemory.{put_bytes}
use Rattle.cpu86.proofs.memory.Memory.set_bytes.Given as goal

abbrev pub invariant-loop-byte : goal.invariant-loop-byte
invariant-loop-byte l = put_bytes (memory_of_86 l.self) l.place (drop l.byte-index l.bytes) ≡ put_bytes (memory_of_86 l.fn.self) l.at l.bytes
