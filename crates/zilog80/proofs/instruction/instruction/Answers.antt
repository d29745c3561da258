use Rattle.std.proofs.Common.{sym, ◌∙◌}
use Rattle.std.specs.Prelude.{option_copied}
use Rattle.asm80_text.proofs.Operands.{is_nil, is_no_nil}
use Rattle.zilog80.proofs.Reading.{one_left, more_left, some_copied, no_operand, one_operand, two_operands, three_operands}
use Rattle.zilog80.proofs.instruction.instruction.Goals as goal

pub returns-then-is_empty : goal.returns-then-is_empty
returns-then-is_empty c = no_operand c.args.word.now c.args.tokens.now c.bare.result (is_nil _ _ c.is_empty.ensures c.if-is_empty.true) c.bare.ensures

pub returns-in_default : goal.returns-in_default
returns-in_default c =
    one_operand c.args.word.now c.args.tokens.now c.next_operand-left.result.0.now c.unary.result (is_no_nil _ _ c.is_empty.ensures c.if-is_empty.false)
    (one_left c.args.tokens.now c.next_operand-left.result.0.now c.next_operand-left.result.1 c.in_default.is c.next_operand-left.ensures) c.unary.ensures

pub returns-then-is_some : goal.returns-then-is_some
returns-then-is_some c =
    three_operands c.args.word.now c.args.tokens.now c.in-Some.after.now c.next_operand-left.result.0.now c.next_operand-right.result.0.now (option_copied c.next_operand-right.result.1) (is_no_nil _ _ c.is_empty.ensures c.if-is_empty.false)
    (more_left c.args.tokens.now c.next_operand-left.result.0.now c.next_operand-left.result.1 c.in-Some.after c.in-Some.is c.next_operand-left.ensures)
    c.next_operand-right.ensures (some_copied c.next_operand-right.result.1 ∙ sym c.is_some.ensures ∙ c.if-is_some.true)

pub returns : goal.returns
returns c =
    two_operands c.args.word.now c.args.tokens.now c.in-Some.after.now c.next_operand-left.result.0.now c.next_operand-right.result.0.now (option_copied c.next_operand-right.result.1) c.binary.result (is_no_nil _ _ c.is_empty.ensures c.if-is_empty.false)
    (more_left c.args.tokens.now c.next_operand-left.result.0.now c.next_operand-left.result.1 c.in-Some.after c.in-Some.is c.next_operand-left.ensures)
    c.next_operand-right.ensures (some_copied c.next_operand-right.result.1 ∙ sym c.is_some.ensures ∙ c.if-is_some.false) c.binary.ensures
