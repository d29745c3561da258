use Rattle.std.proofs.Common.{sym, ◌∙◌}
use Rattle.asm86_line_reader.proofs.Parts.{of_parts}
use Rattle.asm86_line_reader.proofs.operands.operands_of.Goals as goal

pub returns : goal.returns
returns c = rw (c.deref.ensures.value, of_parts c.args.tokens.now c.in_ok-parts.parts.items (sym c.is_empty.ensures ∙ c.if-is_empty.false) c.in_ok-parts.ensures) at c.each_operand.ensures
