-- What is known of a token that is no word is known of it in each spelling.
use Rattle.std.proofs.Common.{List, ℕ, Result, Ok, Err, Bor}
use Rattle.std.specs.Prelude.{IfOk}
use Rattle.asm80_text.specs.declared.token.Token.{Token}
use Rattle.asm80_text.specs.declared.token.Token.TheVariants.{Digits, Num, Here, Word, Register, Operation, Text, Op, Not, Open, Close, Comma, Colon, Bang, Stray}
use Rattle.asm80_text.specs.declared.fault.ScanFault.{ScanFault}
use Rattle.asm80_text.specs.Spelling.{Spelling}
use Rattle.asm80_text.specs.Tokens.{IsLawful, IsLawfulSymbol}

pub symbol_lawful : (s : Spelling) (t : Token) → IsLawfulSymbol t → IsLawful s t
symbol_lawful s (Digits n) h = tt
symbol_lawful s (Num n) h = tt
symbol_lawful s Here h = tt
symbol_lawful s (Word name) h = absurd h
symbol_lawful s (Register name) h = absurd h
symbol_lawful s (Operation name) h = absurd h
symbol_lawful s (Text bytes) h = h
symbol_lawful s (Op o) h = tt
symbol_lawful s Not h = tt
symbol_lawful s Open h = tt
symbol_lawful s Close h = tt
symbol_lawful s Comma h = tt
symbol_lawful s Colon h = tt
symbol_lawful s Bang h = tt
symbol_lawful s Stray h = tt

pub symbols_lawful : (s : Spelling) (r : Result (Token × Bor (List ℕ)) ScanFault) → IfOk r (λ x. IsLawfulSymbol x.0) → IfOk r (λ x. IsLawful s x.0)
symbols_lawful s (Ok x) h = symbol_lawful s x.0 h
symbols_lawful s (Err f) h = tt
