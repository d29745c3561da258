use Rattle.std.proofs.Common.{◌≡◌, ◌*◌, ◌≤◌, drop}
use Rattle.std.specs.List.{fold}
use Rattle.asm86_line_types.specs.Image.{statements, put_cell, by_address, cells_from}
use Rattle.asm86.specs.Places.{label_place}
use Rattle.asm86.proofs.Filling.{StandsFrom}
use Rattle.asm86.proofs.data.data_cells.Given as goal

abbrev pub invariant-loop-line : goal.invariant-loop-line
invariant-loop-line l = record {
  stands : StandsFrom l.at (statements (drop l.line-index l.lines));
  far : l.at ≤ 0x10000 * l.line-index;
  cells : fold put_cell l.cells (cells_from (label_place l.offsets) l.at (statements (drop l.line-index l.lines))) ≡ by_address (cells_from (label_place l.offsets) 0 (statements l.lines));
}
