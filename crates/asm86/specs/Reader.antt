-- What a reader of a text holds.
use Rattle.std.specs.Prelude.{◌≡◌, ◌≢◌, ℕ, ◌+◌, ◌<◌, List, [], ◌∷◌, ◌++◌, false, Option, Some, None, Result, Ok, Err, length, map}
use Rattle.std.specs.Global.{Vec}
use Rattle.asm86_line_types.specs.declared.line.Line86.{Line86}
use Rattle.asm86_line_types.specs.declared.line.Stmt86.{Stmt86}
use Rattle.asm86_line_types.specs.declared.line.TextRule.{TextRule}
use Rattle.asm86_line_types.specs.declared.line.TextRule.TheVariants.{M5}
use Rattle.asm86_line_types.specs.Image.{statements}
use Rattle.asm86_line_reader.specs.Line.{TextLineGives}
use Rattle.asm86.specs.declared.text_fault.TextFault.{TextFault}
use Rattle.asm86.specs.declared.text_fault.TextFault.TheVariants.{Line, Memory}
use Rattle.asm86.specs.declared.listing.Listing.{Listing}
use Rattle.base.specs.Held.{HoldsLine}
use Rattle.asm86.specs.Place.{IsAfter}
use Rattle.base.specs.Cut.{Cut, without_cr, last_line}
use Rattle.asm86.specs.Stream.{IsNotLf, lines_of_number, are_in_order, AddsLine, Breaks, Ending, Open, Ended, Broken, TextLinesGive, TextGives}

-- the statements so far, the number of lines read, the line that is not complete yet, and the fault
pub record TextReader : Type 0 where
  pub lines : List Line86
  pub number : ℕ
  pub held : Option (List ℕ)
  pub fault : Option TextFault

-- what the reader has of the lines that are complete, by how these end
abbrev pub IsBehind : TextReader → List (List ℕ) → List ℕ → List Line86 → Ending → Type 0
IsBehind reader raw rest xs Open = (reader.fault ≡ None) × (reader.lines ≡ xs) × (reader.number ≡ length raw) × HoldsLine reader.held rest
IsBehind reader raw rest xs Ended = (reader.fault ≡ None) × (reader.lines ≡ xs)
IsBehind reader raw rest xs (Broken n rule) = reader.fault ≡ Some (Line n rule)

-- The reader has been fed this stream, and memory has not run out.
pub record AfterText (stream : List ℕ) (reader : TextReader) : Type 0 where
  pub raw : List (List ℕ)
  pub rest : List ℕ
  pub found : List Line86
  pub ending : Ending
  pub cut : Cut IsNotLf stream raw rest
  pub lines : TextLinesGive 1 [] (map without_cr raw) found ending
  pub behind : IsBehind reader raw rest found ending

-- Of these bytes the reader took some at the front, and that is what is left.
pub record Advances (bytes rest : List ℕ) (old new : TextReader) : Type 0 where
  pub front : List ℕ
  pub cut : bytes ≡ front ++ rest
  pub grows : new.fault ≢ Some Memory → (stream : List ℕ) → AfterText stream old → AfterText (stream ++ front) new

-- what the reader has of a whole text, by how its lines end
abbrev pub IsOf : TextReader → List Line86 → Ending → Type 0
IsOf reader xs Open = (reader.fault ≡ None) × (reader.lines ≡ xs)
IsOf reader xs Ended = (reader.fault ≡ None) × (reader.lines ≡ xs)
IsOf reader xs (Broken n rule) = reader.fault ≡ Some (Line n rule)

-- The reader has been fed this whole text, its last line has been read, and memory has not run out.
pub record AfterAll (text : List ℕ) (reader : TextReader) : Type 0 where
  pub raw : List (List ℕ)
  pub rest : List ℕ
  pub found : List Line86
  pub ending : Ending
  pub cut : Cut IsNotLf text raw rest
  pub lines : TextLinesGive 1 [] (map without_cr raw ++ last_line rest) found ending
  pub behind : IsOf reader found ending

-- the answer while there is this fault, or none
abbrev pub answer_of_fault : Option TextFault → Result (Unit {0}) TextFault
answer_of_fault None = Ok tt
answer_of_fault (Some f) = Err f

-- What was answered at the end is what the text gives, unless memory ran out.
abbrev pub FinishesText : List ℕ → Result (Vec Line86) TextFault → Type 0
FinishesText stream (Ok v) = TextGives stream (Ok v.items)
FinishesText stream (Err Memory) = Unit {0}
FinishesText stream (Err (Line n rule)) = TextGives stream (Err (n, rule))

-- What the text gives was answered at the end, unless memory ran out.
abbrev pub AgreesWithText : Result (Vec Line86) TextFault → Result (List Line86) (ℕ × TextRule) → Type 0
AgreesWithText (Ok v) outcome = outcome ≡ Ok v.items
AgreesWithText (Err Memory) outcome = Unit {0}
AgreesWithText (Err (Line n rule)) outcome = outcome ≡ Err (n, rule)

-- ---- one line more

-- the order of a listing is behind its statements, of which there are fewer than 2^28
pub record IsListed (l : Listing) : Type 0 where
  pub place : IsAfter l.order (statements l.lines.items)
  pub few : length l.lines.items < 0x10000000

-- what was read of a line of a number
abbrev pub ReadsNumbered : ℕ → List ℕ → Result (Vec Stmt86) TextFault → Type 0
ReadsNumbered n line (Ok v) = TextLineGives line (Ok v.items)
ReadsNumbered n line (Err Memory) = Unit {0}
ReadsNumbered n line (Err (Line m rule)) = (m ≡ n) × TextLineGives line (Err rule)

-- what statements of the line of a number make of a listing
abbrev pub ListsMore : ℕ → List Stmt86 → Listing → Listing → Result (Unit {0}) TextFault → Type 0
ListsMore n ss old new (Ok u) = IsListed new × (new.lines.items ≡ old.lines.items ++ lines_of_number n ss) × (new.number ≡ old.number)
ListsMore n ss old new (Err Memory) = Unit {0}
ListsMore n ss old new (Err (Line m rule)) = (m ≡ n) × (rule ≡ M5) × (are_in_order (old.lines.items ++ lines_of_number n ss) ≡ false)

-- what one more line makes of a listing
abbrev pub ListsLine : List ℕ → Listing → Listing → Result (Unit {0}) TextFault → Type 0
ListsLine line old new (Ok u) = IsListed new × AddsLine old.lines.items (old.number + 1) line new.lines.items × (new.number ≡ old.number + 1)
ListsLine line old new (Err Memory) = Unit {0}
ListsLine line old new (Err (Line n rule)) = (n ≡ old.number + 1) × Breaks old.lines.items n line rule

-- what one more line makes of a reader, by the fault that there is then
abbrev pub ReadsBy : List ℕ → TextReader → TextReader → Option TextFault → Type 0
ReadsBy line old new None = AddsLine old.lines (old.number + 1) line new.lines × (new.number ≡ old.number + 1) × (new.held ≡ Some [])
ReadsBy line old new (Some Memory) = Unit {0}
ReadsBy line old new (Some (Line n rule)) = (n ≡ old.number + 1) × Breaks old.lines n line rule

abbrev pub ReadsLine : List ℕ → TextReader → TextReader → Type 0
ReadsLine line old new = ReadsBy line old new new.fault

-- what a last line makes of a reader, which does not count where it is empty
abbrev pub ReadsRest : List ℕ → TextReader → TextReader → Type 0
ReadsRest [] old new = new ≡ old
ReadsRest (b ∷ bytes) old new = ReadsLine (b ∷ bytes) old new
