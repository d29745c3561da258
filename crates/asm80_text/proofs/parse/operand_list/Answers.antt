use Rattle.asm80_text.proofs.Operands.{is_nil, is_no_nil, no_list, some_list}
use Rattle.asm80_text.proofs.parse.operand_list.Goals as goal

pub returns-then-is_empty : goal.returns-then-is_empty
returns-then-is_empty c = rw c.new.ensures.items (no_list _ (is_nil _ _ c.is_empty.ensures c.if-is_empty.true))

pub returns : goal.returns
returns c = some_list _ c.operands.result (is_no_nil _ _ c.is_empty.ensures c.if-is_empty.false) c.operands.ensures
