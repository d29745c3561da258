use Rattle.std.proofs.Common.{◌≡◌, drop}
use Rattle.cpu86.specs.ProcessorState.{memory_of_86}
use Rattle.cpu86.specs.Start.{start_byte}
use Rattle.dialogue.specs.ByteMemory.{put_cells}
use Rattle.cpu86.proofs.initial_memory.start_memory.Given as goal

abbrev pub invariant-loop-at : goal.invariant-loop-at
invariant-loop-at l = put_cells (memory_of_86 l.memory) (drop l.at-index l.cells) ≡ put_cells (start_byte l.fill l.page) l.cells
