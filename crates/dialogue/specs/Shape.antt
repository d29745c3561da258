-- What a call asks for: the description of a request, or the rule that it breaks (P9 the function, P10 the argument and
-- what is read, P11 what may be written).
use Rattle.std.specs.Prelude.{ℕ, zero, suc, ◌+◌, ◌-◌, ◌*◌, ◌==◌, ◌&&◌, nat_le, Bool, true, cond, List, [], ◌∷◌, map, Option, Some, None, Result, Ok, Err, unwrap_or, is_some}
use Rattle.cells.specs.declared.Rule.{Rule}
use Rattle.cells.specs.declared.Rule.TheVariants.{P9, P10, P11}
use Rattle.dialogue.specs.declared.blocks.Block.{Block}
use Rattle.dialogue.specs.declared.request.ArgWord.{ArgWord}
use Rattle.dialogue.specs.declared.request.ArgWord.TheVariants.{None as NoWord, Byte, Word}
use Rattle.dialogue.specs.declared.request.Range.{Range}
use Rattle.dialogue.specs.declared.request.Shape.{Shape}
use Rattle.dialogue.specs.declared.request.Request.{Request}
use Rattle.dialogue.specs.Tried.{try_then}
use Rattle.dialogue.specs.Table.{Argument, NoArgument, InE, DirectInE, InDE, Extent, F, Dma, Text, Line, Row, row_of, padded_to}

-- the memory that a call sees: the byte of each cell that it may read, and the cells that it may write
pub record Seen : Type 0 where
  pub byte : ℕ → Option ℕ
  pub writable : ℕ → Bool

-- the memory that a view shows
abbrev pub seen_by_view : (ℕ → Option ℕ) → (ℕ → Bool) → Seen
seen_by_view byte writable = record { byte = byte; writable = writable }

-- the argument, from the numbers in D and E where they are known; the direct console has none of 0FEH
abbrev pub argument_of : Argument → Option ℕ → Option ℕ → Result ArgWord Rule
argument_of NoArgument d e = Ok NoWord
argument_of InE d None = Err P10
argument_of InE d (Some e) = Ok (Byte e)
argument_of DirectInE d None = Err P10
argument_of DirectInE d (Some e) = cond (e == 0xFE) (Err P10) (Ok (Byte e))
argument_of InDE None e = Err P10
argument_of InDE (Some d) None = Err P10
argument_of InDE (Some d) (Some e) = Ok (Word (256 * d + e))

-- the address that a row's F counts from
abbrev pub argument_address : ArgWord → ℕ
argument_address NoWord = 0
argument_address (Byte e) = 0
argument_address (Word w) = w

-- the number of cells before the first `$` among k cells from a place up, if all of them can be read
abbrev pub text_length_by : Option ℕ → Option ℕ → Option ℕ
text_length_by None rest = None
text_length_by (Some b) None = cond (b == 0x24) (Some 0) None
text_length_by (Some b) (Some n) = cond (b == 0x24) (Some 0) (Some (suc n))

abbrev pub text_length : Seen → ℕ → ℕ → Option ℕ
text_length seen zero at = None
text_length seen (suc k) at = text_length_by (seen.byte at) (text_length seen k (at + 1))

-- the first byte of a line buffer, mx: how many bytes a line may have
abbrev pub line_room : Seen → ℕ → ℕ
line_room seen at = unwrap_or (seen.byte at) 0

abbrev pub text_range : ℕ → Option ℕ → Option Range
text_range de None = None
text_range de (Some n) = Some (record { at = de; len = n })

-- the range of an extent; there is none where a text has no end
abbrev pub range_of : Seen → ℕ → ℕ → Extent → Option Range
range_of seen de dma (F i k) = Some (record { at = de + i; len = k })
range_of seen de dma Dma = Some (record { at = dma; len = 128 })
range_of seen de dma Text = text_range de (text_length seen (0x10000 - de) de)
range_of seen de dma Line = Some (record { at = de + 1; len = line_room seen de + 1 })

-- each of the k cells from a place up passes
abbrev pub all_cells : (ℕ → Bool) → ℕ → ℕ → Bool
all_cells passes zero at = true
all_cells passes (suc k) at = passes at && all_cells passes k (at + 1)

-- a range is within memory, and each of its cells passes
abbrev pub is_within : (ℕ → Bool) → Range → Bool
is_within passes r = nat_le (r.at + r.len) 0x10000 && all_cells passes r.len r.at

abbrev pub is_readable : Seen → ℕ → Bool
is_readable seen at = is_some (seen.byte at)

-- the ranges of a row's extents, each of them within memory and passing; else the rule
abbrev pub range_within : (ℕ → Bool) → Rule → Option Range → Result Range Rule
range_within passes rule None = Err rule
range_within passes rule (Some r) = cond (is_within passes r) (Ok r) (Err rule)

abbrev pub ranges_within : (ℕ → Bool) → Rule → Seen → ℕ → ℕ → List Extent → Result (List Range) Rule
ranges_within passes rule seen de dma [] = Ok []
ranges_within passes rule seen de dma (x ∷ xs) =
    try_then (range_within passes rule (range_of seen de dma x)) (λ r.
    try_then (ranges_within passes rule seen de dma xs) (λ rs. Ok (r ∷ rs)))

-- a line buffer has room for a byte
abbrev pub has_room : Seen → ℕ → List Extent → Result (List Extent) Rule
has_room seen de [] = Ok []
has_room seen de (F i k ∷ xs) = Ok (F i k ∷ xs)
has_room seen de (Dma ∷ xs) = Ok (Dma ∷ xs)
has_room seen de (Text ∷ xs) = Ok (Text ∷ xs)
has_room seen de (Line ∷ xs) = cond (line_room seen de == 0) (Err P10) (Ok (Line ∷ xs))

-- the shape of a call of a row
abbrev pub shape_by : ℕ → Row → Option ℕ → Option ℕ → ℕ → Seen → Result Shape Rule
shape_by function row d e dma seen =
    try_then (argument_of row.argument d e) (λ arg.
    try_then (ranges_within (is_readable seen) P10 seen (argument_address arg) dma row.reads) (λ reads.
    try_then (has_room seen (argument_address arg) row.writes) (λ extents.
    try_then (ranges_within seen.writable P11 seen (argument_address arg) dma extents) (λ writes.
    Ok (record { function = function; arg = arg; reads = padded_to 3 reads; writes = padded_to 2 writes })))))

abbrev pub shape_by_row : ℕ → Option Row → Option ℕ → Option ℕ → ℕ → Seen → Result Shape Rule
shape_by_row function None d e dma seen = Err P9
shape_by_row function (Some row) d e dma seen = shape_by function row d e dma seen

-- the shape of a call with this function in C and these numbers in D and E, where they are known
abbrev pub shape_of : Option ℕ → Option ℕ → Option ℕ → ℕ → Seen → Result Shape Rule
shape_of None d e dma seen = Err P9
shape_of (Some function) d e dma seen = shape_by_row function (row_of function) d e dma seen

-- the ranges of a list with places that are free
abbrev pub ranges : List (Option Range) → List Range
ranges [] = []
ranges (None ∷ rs) = ranges rs
ranges (Some r ∷ rs) = r ∷ ranges rs

-- the bytes of k cells from a place up
abbrev pub bytes_seen : Seen → ℕ → ℕ → List ℕ
bytes_seen seen zero at = []
bytes_seen seen (suc k) at = unwrap_or (seen.byte at) 0 ∷ bytes_seen seen k (at + 1)

abbrev pub block_seen : Seen → Range → Block
block_seen seen r = record { at = r.at; bytes = bytes_seen seen r.len r.at }

-- the request of a shape: what it reads, a block for each range in order
abbrev pub request_of : Shape → Seen → Request
request_of shape seen = record { shape = shape; blocks = map (block_seen seen) (ranges shape.reads) }
