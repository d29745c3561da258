use Rattle.std.proofs.Common.{◌≡◌, List, Bor, drop}
use Rattle.std.specs.List.{list_any}
use Rattle.asm80_text.specs.declared.token.Token.{Token}
use Rattle.asm80_text.specs.Line.{has_reserved_label}
use Rattle.asm80_text.proofs.parts.some_has_reserved_label.Given as goal

abbrev pub invariant-loop-part : goal.invariant-loop-part
invariant-loop-part g l =
    list_any (λ (part : Bor (List Token)). has_reserved_label g.N.Notation.spelling part.now) (drop l.part-index l.parts)
    ≡ list_any (λ (part : Bor (List Token)). has_reserved_label g.N.Notation.spelling part.now) l.parts
