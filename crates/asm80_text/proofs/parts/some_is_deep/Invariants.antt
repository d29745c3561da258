use Rattle.std.proofs.Common.{◌≡◌, List, Bor, drop}
use Rattle.std.specs.List.{list_any}
use Rattle.asm80_text.specs.declared.token.Token.{Token}
use Rattle.asm80_text.specs.Line.{is_deep}
use Rattle.asm80_text.proofs.parts.some_is_deep.Given as goal

abbrev pub invariant-loop-part : goal.invariant-loop-part
invariant-loop-part l = list_any (λ (part : Bor (List Token)). is_deep part.now) (drop l.part-index l.parts) ≡ list_any (λ (part : Bor (List Token)). is_deep part.now) l.parts
