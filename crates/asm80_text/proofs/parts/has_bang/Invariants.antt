use Rattle.std.proofs.Common.{◌≡◌, drop}
use Rattle.std.specs.List.{list_any}
use Rattle.asm80_text.specs.Line.{is_bang}
use Rattle.asm80_text.proofs.parts.has_bang.Given as goal

abbrev pub invariant-loop-token : goal.invariant-loop-token
invariant-loop-token l = list_any is_bang (drop l.token-index l.tokens) ≡ list_any is_bang l.tokens
