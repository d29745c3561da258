use Rattle.std.proofs.Common.{◌++◌, List, Option, All, length}
use Rattle.asm80_types.specs.declared.fault.LineRule.{LineRule}
use Rattle.asm80_text.specs.declared.token.Token.{Token}
use Rattle.asm80_text.specs.Tokens.{Lexes, IsLawful}
use Rattle.asm80_text.proofs.tokens.tokens_of.Given as goal

abbrev pub invariant-loop-b : goal.invariant-loop-b
invariant-loop-b g l = record {
  reads : (ts : List Token) (f : Option LineRule) → Lexes g.N.Notation.spelling l.rest ts f → Lexes g.N.Notation.spelling l.line (l.tokens.items ++ ts) f;
  lawful : All (IsLawful g.N.Notation.spelling) l.tokens.items;
}

abbrev pub decreases-loop-b : goal.decreases-loop-b
decreases-loop-b g l = length l.rest
