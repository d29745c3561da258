use Rattle.std.proofs.Common.{◌≡◌, ◌+◌, drop}
use Rattle.asm80_text.specs.Letters.{inside_len}
use Rattle.asm80_text.proofs.letters.inside_len.Given as goal

abbrev pub invariant-loop-i : goal.invariant-loop-i
invariant-loop-i l = inside_len l.bytes ≡ l.i + inside_len (drop l.i l.bytes)
