use Rattle.std.proofs.Common.{◌≡◌, take}
use Rattle.std.specs.List.{fold, enumerate_from}
use Rattle.hex_file.specs.HexFile.{put_cell}
use Rattle.hex_file.proofs.file.put_data.Given as goal

abbrev pub invariant-loop-offset : goal.invariant-loop-offset
invariant-loop-offset l = l.cells ≡ fold put_cell l.initial.cells (enumerate_from l.address (take l.offset l.byte-items))
