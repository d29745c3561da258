use Rattle.std.proofs.Common.{◌≡◌, ◌+◌, ◌++◌, drop, length}
use Rattle.templates.proofs.text.Text.append.Given as goal

abbrev pub invariant-loop-statement : goal.invariant-loop-statement
invariant-loop-statement l = record {
  so_far : l.self ++ drop l.statement-index l.statements ≡ l.fn.self ++ l.statements;
  count : length l.self ≡ length l.fn.self + l.statement-index;
}
