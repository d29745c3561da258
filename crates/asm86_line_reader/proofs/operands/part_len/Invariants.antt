use Rattle.std.proofs.Common.{◌≡◌, ◌+◌, not, drop}
use Rattle.std.specs.List.{prefix_len}
use Rattle.asm86_line_reader.specs.Operands.{is_comma}
use Rattle.asm86_line_reader.proofs.operands.part_len.Given as goal

abbrev pub invariant-loop-token : goal.invariant-loop-token
invariant-loop-token l = record {
  at : l.count ≡ l.token-index;
  so_far : prefix_len (λ token. not (is_comma token)) l.tokens ≡ l.token-index + prefix_len (λ token. not (is_comma token)) (drop l.token-index l.tokens);
}
