use Rattle.std.proofs.Common.{◌≡◌, drop}
use Rattle.std.specs.Prelude.{slice_index}
use Rattle.cpu80.specs.ProcessorState.{untagged_memory}
use Rattle.dialogue.specs.ByteMemory.{put_cells}
use Rattle.i80_bytes.proofs.start.with_cells.Given as goal

abbrev pub invariant-loop-at : goal.invariant-loop-at
invariant-loop-at l = put_cells (untagged_memory l.memory) (drop l.at-index l.cells) ≡ put_cells (λ a. slice_index l.fill a) l.cells
