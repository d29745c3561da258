use Rattle.std.proofs.Common.{◌≡◌, drop}
use Rattle.std.specs.Prelude.{is_some}
use Rattle.std.specs.List.{list_all}
use Rattle.asm86_line_reader.specs.Results.{item_of}
use Rattle.asm86_line_reader.proofs.items.are_items.Given as goal

abbrev pub invariant-loop-operand : goal.invariant-loop-operand
invariant-loop-operand l = list_all (λ operand. is_some (item_of l.size operand)) l.operands ≡ list_all (λ operand. is_some (item_of l.size operand)) (drop l.operand-index l.operands)
