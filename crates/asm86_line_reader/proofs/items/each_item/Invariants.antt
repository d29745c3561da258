use Rattle.std.proofs.Common.{◌≡◌, take, true, Some}
use Rattle.std.specs.List.{list_all}
use Rattle.asm86_line_reader.specs.Forms.{is_small}
use Rattle.asm86_line_reader.specs.Operands.{each}
use Rattle.asm86_line_reader.specs.Results.{item_of}
use Rattle.asm86_line_reader.proofs.items.each_item.Given as goal

abbrev pub invariant-loop-operand : goal.invariant-loop-operand
invariant-loop-operand l = record {
  given : each (item_of l.size) (take l.operand-index l.operands) ≡ Some l.statements.items;
  small : list_all is_small l.statements.items ≡ true;
}
