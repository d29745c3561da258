use Rattle.std.proofs.Common.{◌≡◌, All, map, take}
use Rattle.std.specs.List.{flat_map}
use Rattle.asm80_types.specs.Tree.{operand_of}
use Rattle.asm80_source_def.specs.Items.{cells_of_byte}
use Rattle.asm80_values.specs.Forms.{HoldsByte}
use Rattle.asm80_values.specs.Settings.{setting_of}
use Rattle.asm80_values.proofs.data.cells_of_bytes.Given as goal

abbrev pub invariant-loop-arg : goal.invariant-loop-arg
invariant-loop-arg l = record {
  cells : l.cells.items ≡ flat_map (cells_of_byte (setting_of l.setting)) (map operand_of (take l.arg-index l.args));
  bytes : All HoldsByte l.cells.items;
}
