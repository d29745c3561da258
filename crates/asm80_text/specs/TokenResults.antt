-- What the functions on tokens return, by the definitions.
use Rattle.std.specs.Prelude.{◌≡◌, ℕ, List, [], ◌∷◌, true, Option, Some, None, Result, Ok, Err, ◌||◌, map}
use Rattle.std.specs.Borrow.{Bor}
use Rattle.std.specs.Global.{Vec}
use Rattle.asm80_text.specs.declared.token.Token.{Token}
use Rattle.asm80_text.specs.declared.fault.ScanFault.{ScanFault}
use Rattle.asm80_text.specs.declared.fault.ScanFault.TheVariants as scan
use Rattle.asm80_text.specs.declared.fault.ParseFault.{ParseFault}
use Rattle.asm80_text.specs.declared.fault.ParseFault.TheVariants as parse
use Rattle.asm80_text.specs.Letters.{is_upper, is_lower}
use Rattle.asm80_text.specs.Strings.{quoted}
use Rattle.asm80_text.specs.Spelling.{Spelling}
use Rattle.asm80_text.specs.Tokens.{Scanned, Got, Bad, token_at}
use Rattle.asm80_types.specs.declared.arg.Arg.{Arg}
use Rattle.asm80_types.specs.Tree.{Operand, operand_of}

-- ---- tokens

-- What a function returned is what stands there, unless memory ran out.
abbrev pub Finds : Scanned → Result (Token × Bor (List ℕ)) ScanFault → Type 0
Finds scanned (Ok x) = scanned ≡ Got x.0 x.1.now
Finds scanned (Err scan.Memory) = Unit {0}
Finds scanned (Err (scan.Rule r)) = scanned ≡ Bad r

-- the same of the token at the front of bytes
abbrev pub FindsFirst : Spelling → List ℕ → Result (Token × Bor (List ℕ)) ScanFault → Type 0
FindsFirst s [] r = Unit {0}
FindsFirst s (b ∷ bytes) r = Finds (token_at s b bytes) r

-- what stands before a closing quote and behind it, if there is one
abbrev pub IsQuoted : Option (Vec ℕ × Bor (List ℕ)) → List ℕ → Type 0
IsQuoted None bytes = quoted bytes ≡ None
IsQuoted (Some p) bytes = quoted bytes ≡ Some (p.0.items, p.1.now)

-- a letter stands at the front
abbrev pub BeginsWithLetter : List ℕ → Type 0
BeginsWithLetter [] = ⊥
BeginsWithLetter (b ∷ bytes) = (is_upper b || is_lower b) ≡ true

-- ---- statements

-- What was read of the word and the tokens of a statement: its operation and its operands, or that the form is none, unless memory
-- ran out.
abbrev pub GivesOperation : Spelling → List ℕ → List Token → Result (List ℕ × Vec Arg) ParseFault → Type 0
GivesOperation s word ts (Ok x) = s.forms word ts x.0 (map operand_of x.1.items)
GivesOperation s word ts (Err parse.Memory) = Unit {0}
GivesOperation s word ts (Err parse.Malformed) = (op : List ℕ) (args : List Operand) → s.forms word ts op args → ⊥
