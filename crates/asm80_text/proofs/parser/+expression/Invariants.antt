use Rattle.std.proofs.Common.{◌≤◌, length, ◌+◌, ◌*◌}
use Rattle.asm80_types.specs.Tree.{tree_of}
use Rattle.asm80_text.proofs.Chain.{Chained}
use Rattle.asm80_text.proofs.parser.+expression.Given as goal

abbrev pub decreases-operand_at : goal.decreases-operand_at
decreases-operand_at l = 32 * length l.tokens.now

abbrev pub decreases-parenthesized : goal.decreases-parenthesized
decreases-parenthesized l = 32 * length l.tokens.now + 18

abbrev pub decreases-signed_at : goal.decreases-signed_at
decreases-signed_at l = 32 * length l.tokens.now + 6

abbrev pub decreases-inverted_at : goal.decreases-inverted_at
decreases-inverted_at l = 32 * length l.tokens.now + 9

abbrev pub decreases-begin_at : goal.decreases-begin_at
decreases-begin_at l = 32 * length l.tokens.now + 3 * l.level + 1

abbrev pub decreases-expression_at : goal.decreases-expression_at
decreases-expression_at l = 32 * length l.tokens.now + 3 * l.level + 2

abbrev pub invariant-expression_at-loop-op : goal.invariant-expression_at-loop-op
invariant-expression_at-loop-op l = record {
  chained : Chained l.level l.tokens (tree_of l.left) l.rest;
  shorter : length l.rest ≤ length l.tokens;
}

abbrev pub decreases-expression_at-loop-op : goal.decreases-expression_at-loop-op
decreases-expression_at-loop-op l = length l.rest
