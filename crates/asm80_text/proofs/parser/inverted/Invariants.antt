use Rattle.std.proofs.Common.{◌≡◌}
use Rattle.asm80_types.specs.Tree.{tree_of}
use Rattle.asm80_text.specs.TreeResults.{inverted}
use Rattle.asm80_text.proofs.parser.inverted.Given as goal

abbrev pub invariant-loop-i : goal.invariant-loop-i
invariant-loop-i l = tree_of l.whole ≡ inverted l._i (tree_of l.fn.e)
