use Rattle.std.proofs.Common.{◌≡◌, length, drop}
use Rattle.std.specs.Prelude.{slice_index}
use Rattle.dialogue.specs.ByteMemory.{put_cells}
use Rattle.cmd_file.specs.Written.{data_end}
use Rattle.cmd_file.proofs.file.data_bytes.Given as goal

abbrev pub invariant-loop-address : goal.invariant-loop-address
invariant-loop-address l = record {
  long : length l.data.items ≡ data_end l.cells;
  rest : put_cells (slice_index l.data.items) (drop l.address-index l.cells) ≡ put_cells (λ a. 0) l.cells;
}
