use Rattle.std.proofs.Common.{◌++◌, List, Bool, length}
use Rattle.asm86_line_reader.specs.declared.token.Token.{Token}
use Rattle.asm86_line_reader.specs.Tokens.{Lexes}
use Rattle.asm86_line_reader.proofs.tokens.tokens_of.Given as goal

abbrev pub invariant-loop-rest : goal.invariant-loop-rest
invariant-loop-rest l = (ts : List Token) (sound : Bool) → Lexes l.rest ts sound → Lexes l.line (l.tokens.items ++ ts) sound

abbrev pub decreases-loop-rest : goal.decreases-loop-rest
decreases-loop-rest l = length l.rest
