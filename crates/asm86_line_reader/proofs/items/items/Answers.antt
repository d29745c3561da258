use Rattle.std.proofs.Common.{refl, sym, ◌∙◌}
use Rattle.asm86_line_reader.proofs.Given.{not_given, items_are, no_items}
use Rattle.asm86_line_reader.proofs.items.items.Goals as goal

pub returns-then-is_empty : goal.returns-then-is_empty
returns-then-is_empty c = rw (no_items _ c.args.operands.now (sym c.is_empty.ensures ∙ c.if-is_empty.true)) refl

pub returns-then-not-are_items : goal.returns-then-not-are_items
returns-then-not-are_items c = rw (items_are _ c.args.operands.now (sym c.is_empty.ensures ∙ c.if-is_empty.false), not_given _ c.args.operands.now (sym c.are_items.ensures ∙ c.if-not-are_items.true)) refl

pub returns : goal.returns
returns c = rw (items_are _ c.args.operands.now (sym c.is_empty.ensures ∙ c.if-is_empty.false)) c.each_item.ensures
