use Rattle.std.proofs.Common.{◌≡◌, ◌+◌, drop}
use Rattle.asm80_text.specs.Letters.{comment_len}
use Rattle.asm80_text.proofs.letters.comment_len.Given as goal

abbrev pub invariant-loop-i : goal.invariant-loop-i
invariant-loop-i l = comment_len l.bytes ≡ l.i + comment_len (drop l.i l.bytes)
