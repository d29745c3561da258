-- Shapes that a call may have over some memory, and requests that are lawful.
use Rattle.std.specs.Prelude.{◌≡◌, ◌≢◌, ℕ, ◌+◌, ◌≤◌, List, [], ◌∷◌, length, map, Option, Some, None, Ok, IsTrue, Bool, true, false, not, ◌==◌}
use Rattle.std.specs.List.{All}
use Rattle.dialogue.specs.declared.blocks.Block.{Block}
use Rattle.dialogue.specs.declared.request.ArgWord.{ArgWord}
use Rattle.dialogue.specs.declared.request.ArgWord.TheVariants.{None as NoWord, Byte, Word}
use Rattle.dialogue.specs.declared.request.Range.{Range}
use Rattle.dialogue.specs.declared.request.Shape.{Shape}
use Rattle.dialogue.specs.declared.request.Request.{Request}
use Rattle.dialogue.specs.declared.request.Event.{Event}
use Rattle.dialogue.specs.declared.request.Event.TheVariants.{Call, In, Out, End}
use Rattle.dialogue.specs.Table.{Argument, NoArgument, InE, DirectInE, InDE, Extent, F, Dma, Text, Line, Row, row_of}
use Rattle.dialogue.specs.Shape.{Seen, argument_address, ranges, shape_of}

-- the shape of some call over this memory
pub record IsShapeOver (seen : Seen) (shape : Shape) : Type 0 where
  pub function : Option ℕ
  pub d : Option ℕ
  pub e : Option ℕ
  pub dma : ℕ
  pub given : shape_of function d e dma seen ≡ Ok shape

-- the argument is of the row's kind
abbrev pub is_argument : Argument → ArgWord → Bool
is_argument NoArgument NoWord = true
is_argument InE (Byte e) = true
is_argument DirectInE (Byte e) = not (e == 0xFE)
is_argument InDE (Word w) = true
is_argument _ _ = false

-- the range is the extent's, for the word in DE, the DMA address and mx. The range of a text has some length
abbrev pub IsRangeOf : ℕ → ℕ → ℕ → Extent → Range → Type 0
IsRangeOf de dma mx (F i k) r = (r.at ≡ de + i) × (r.len ≡ k)
IsRangeOf de dma mx Dma r = (r.at ≡ dma) × (r.len ≡ 128)
IsRangeOf de dma mx Text r = r.at ≡ de
IsRangeOf de dma mx Line r = (r.at ≡ de + 1) × (r.len ≡ mx + 1)

-- the places have a range for each extent, in order, and None after them
abbrev pub AreRangesOf : ℕ → ℕ → ℕ → List Extent → List (Option Range) → Type 0
AreRangesOf de dma mx [] places = ranges places ≡ []
AreRangesOf de dma mx (x ∷ xs) [] = ⊥
AreRangesOf de dma mx (x ∷ xs) (None ∷ places) = ⊥
AreRangesOf de dma mx (x ∷ xs) (Some r ∷ places) = IsRangeOf de dma mx x r × AreRangesOf de dma mx xs places

-- the first byte of the first block: in a request of function 10 it is mx
abbrev pub first_byte_of : List ℕ → ℕ
first_byte_of [] = 0
first_byte_of (n ∷ ns) = n

abbrev pub first_byte : List Block → ℕ
first_byte [] = 0
first_byte (b ∷ bs) = first_byte_of b.bytes

-- the range of a block
abbrev pub range_of_block : Block → Range
range_of_block b = record { at = b.at; len = length b.bytes }

-- a request is lawful where its function is in the table, its argument and its ranges are those of the row, no range
-- passes 0FFFFH, mx is not 0, and it has a block for each range read
pub record IsLawfulRequest (request : Request) : Type 0 where
  pub row : Row
  pub in_table : row_of request.shape.function ≡ Some row
  pub argument : IsTrue (is_argument row.argument request.shape.arg)
  pub dma : ℕ
  pub reads : AreRangesOf (argument_address request.shape.arg) dma (first_byte request.blocks) row.reads request.shape.reads
  pub writes : AreRangesOf (argument_address request.shape.arg) dma (first_byte request.blocks) row.writes request.shape.writes
  pub reads_end : All (λ r. r.at + r.len ≤ 0x10000) (ranges request.shape.reads)
  pub writes_end : All (λ r. r.at + r.len ≤ 0x10000) (ranges request.shape.writes)
  pub room : request.shape.function ≡ 10 → first_byte request.blocks ≢ 0
  pub blocks : map range_of_block request.blocks ≡ ranges request.shape.reads

-- an event that a program may ask: of a call, that its request is lawful; the end is not asked
abbrev pub IsLawfulEvent : Event → Type 0
IsLawfulEvent (Call request) = IsLawfulRequest request
IsLawfulEvent (In port) = Unit {0}
IsLawfulEvent (Out port byte) = Unit {0}
IsLawfulEvent End = ⊥
