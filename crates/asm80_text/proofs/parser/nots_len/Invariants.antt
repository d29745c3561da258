use Rattle.std.proofs.Common.{◌≡◌, ◌+◌, drop}
use Rattle.std.specs.List.{prefix_len}
use Rattle.asm80_text.specs.TreeResults.{is_not}
use Rattle.asm80_text.proofs.parser.nots_len.Given as goal

abbrev pub invariant-loop-i : goal.invariant-loop-i
invariant-loop-i l = prefix_len is_not l.tokens ≡ l.i + prefix_len is_not (drop l.i l.tokens)
