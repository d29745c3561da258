-- What a reader of lines holds.
use Rattle.std.specs.Prelude.{◌≡◌, ◌≢◌, ℕ, ◌+◌, List, [], ◌∷◌, ◌++◌, Bool, true, false, Option, Some, None, Result, Ok, Err, length, map, nat_lt, if◌then◌else◌}
use Rattle.std.specs.Global.{Vec}
use Rattle.asm80_types.specs.declared.fault.LineRule.{LineRule}
use Rattle.asm80_types.specs.declared.fault.LineRule.TheVariants as rules
use Rattle.asm80_types.specs.declared.fault.ReadFault.{ReadFault}
use Rattle.asm80_types.specs.declared.fault.ReadFault.TheVariants.{Syntax, Memory}
use Rattle.asm80_types.specs.declared.stmt.Stmt80.{Stmt80}
use Rattle.asm80_types.specs.Tree.{Statement, statement_of}
use Rattle.asm80_text.specs.Spelling.{Spelling}
use Rattle.base.specs.Held.{HoldsLine}
use Rattle.asm80_text.specs.Line.{LineGives}
use Rattle.base.specs.Cut.{without_cr}
use Rattle.asm80_text.specs.Stream.{IsStream, complete, LinesGive}

-- the statements so far, the line that is not complete yet, the number of complete lines, whether the byte 1AH has
-- come, and the fault
pub record Reader : Type 0 where
  pub statements : List Stmt80
  pub held : Option (List ℕ)
  pub number : ℕ
  pub is_closed : Bool
  pub fault : Option ReadFault

-- The reader has been fed this stream, and memory has not run out.
pub record After (s : Spelling) (stream : List ℕ) (reader : Reader) : Type 0 where
  pub raw : List (List ℕ)
  pub rest : List ℕ
  pub is_closed : Bool
  pub cut : IsStream stream raw rest is_closed
  pub lines : LinesGive s 1 (complete raw rest is_closed) (map statement_of reader.statements) reader.fault
  pub closing : reader.fault ≡ None → reader.is_closed ≡ is_closed
  pub held : reader.fault ≡ None → is_closed ≡ false → HoldsLine reader.held rest × (reader.number ≡ length raw)

-- Of these bytes the reader took some at the front, and that is what is left.
pub record Advances (s : Spelling) (bytes rest : List ℕ) (old new : Reader) : Type 0 where
  pub front : List ℕ
  pub cut : bytes ≡ front ++ rest
  pub grows : new.fault ≢ Some Memory → (stream : List ℕ) → After s stream old → After s (stream ++ front) new

-- the answer while there is this fault, or none
abbrev pub answer_of : Option ReadFault → Result (Unit {0}) ReadFault
answer_of None = Ok tt
answer_of (Some f) = Err f

-- Where the stream gives these statements and this fault, that was answered at the end, unless memory ran out.
abbrev pub Agrees : Result (Vec Stmt80) ReadFault → List Statement → Option ReadFault → Type 0
Agrees (Ok v) statements fault = (map statement_of v.items ≡ statements) × (fault ≡ None)
Agrees (Err Memory) statements fault = Unit {0}
Agrees (Err (Syntax n r)) statements fault = fault ≡ Some (Syntax n r)

-- ---- one line more

-- what a line adds, by the fault that there is then
abbrev pub AddsBy : Spelling → List ℕ → Reader → Reader → Option ReadFault → Type 0
AddsBy s line old new None = (ss : List Stmt80) × LineGives s (old.number + 1) line (Ok (map statement_of ss)) × (new ≡ record old { statements = old.statements ++ ss; number = old.number + 1; held = Some [] })
AddsBy s line old new (Some Memory) = Unit {0}
AddsBy s line old new (Some (Syntax n r)) = (n ≡ old.number + 1) × LineGives s n line (Err r) × (new.statements ≡ old.statements)

abbrev pub Adds : Spelling → List ℕ → Reader → Reader → Type 0
Adds s line old new = AddsBy s line old new new.fault

-- why a line that is too long is refused
abbrev pub rule_of_long : ℕ → LineRule
rule_of_long n = if nat_lt 32768 n then rules.L8 else rules.L7

abbrev pub RefusesLong : Reader → Reader → Type 0
RefusesLong old new = (new.fault ≡ Some (Syntax (old.number + 1) (rule_of_long (old.number + 1)))) × (new.statements ≡ old.statements)

abbrev pub EndsLineBy : Spelling → Option (List ℕ) → Reader → Reader → Type 0
EndsLineBy s (Some line) old new = Adds s (without_cr line) old new
EndsLineBy s None old new = RefusesLong old new

-- the line that is held is complete by LF
abbrev pub EndsLine : Spelling → Reader → Reader → Type 0
EndsLine s old new = EndsLineBy s old.held old new

abbrev pub EndsStreamBy : Spelling → Option (List ℕ) → Reader → Reader → Type 0
EndsStreamBy s None old new = RefusesLong old new
EndsStreamBy s (Some []) old new = new ≡ record old { is_closed = true }
EndsStreamBy s (Some (b ∷ bytes)) old new = Adds s (b ∷ bytes) (record old { is_closed = true }) new

-- the byte 1AH has come
abbrev pub EndsStream : Spelling → Reader → Reader → Type 0
EndsStream s old new = EndsStreamBy s old.held old new
