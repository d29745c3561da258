-- The table's rows as the code has them, in arrays: None stands after the items.
use Rattle.std.specs.Prelude.{ℕ, ◌+◌, ◌==◌, nat_le, nat_lt, Bool, IsTrue, true, not, cond, List, [], ◌∷◌, Option, Some, None, Result, Ok, Err}
use Rattle.std.specs.List.{list_all}
use Rattle.cells.specs.declared.Rule.{Rule}
use Rattle.cells.specs.declared.Rule.TheVariants.{P10, P11}
use Rattle.dialogue.specs.declared.request.Range.{Range}
use Rattle.dialogue.specs.declared.request.Shape.{Shape}
use Rattle.dialogue.specs.declared.shape.Access.{Access}
use Rattle.dialogue.specs.declared.shape.Access.TheVariants.{Read, Write}
use Rattle.dialogue.specs.declared.table.Row.{Row}
use Rattle.dialogue.specs.Tried.{try_then}
use Rattle.dialogue.specs.Table.{Extent, F, Dma, Text, Line}
use Rattle.dialogue.specs.Shape.{Seen, argument_of, argument_address, is_readable, line_room, range_of, range_within}

-- whether a cell passes, and the rule that is broken where one does not
abbrev pub passes : Access → Seen → ℕ → Bool
passes Read seen = is_readable seen
passes Write seen = seen.writable

abbrev pub rule_of : Access → Rule
rule_of Read = P10
rule_of Write = P11

-- an extent has a cell, whatever the memory, unless it is a text
abbrev pub has_cells : Option Extent → Bool
has_cells None = true
has_cells (Some (F i k)) = nat_lt 0 k
has_cells (Some Dma) = true
has_cells (Some Text) = true
has_cells (Some Line) = true

-- each extent of a row does
abbrev pub HaveCells : Row → Type 0
HaveCells row = IsTrue (list_all has_cells row.reads) × IsTrue (list_all has_cells row.writes)

-- a range that does not pass 0FFFFH
abbrev pub in_memory : Option Range → Option Range
in_memory None = None
in_memory (Some r) = cond (nat_le (r.at + r.len) 0x10000) (Some r) None

abbrev pub place_within : Access → Seen → ℕ → ℕ → Option Extent → Result (Option Range) Rule
place_within access seen de dma None = Ok None
place_within access seen de dma (Some x) =
    try_then (range_within (passes access seen) (rule_of access) (range_of seen de dma x)) (λ r. Ok (Some r))

abbrev pub places_within : Access → Seen → ℕ → ℕ → List (Option Extent) → Result (List (Option Range)) Rule
places_within access seen de dma [] = Ok []
places_within access seen de dma (x ∷ xs) =
    try_then (place_within access seen de dma x) (λ r.
    try_then (places_within access seen de dma xs) (λ rs. Ok (r ∷ rs)))

-- a line buffer has room for a byte
abbrev pub room_at : Seen → ℕ → List (Option Extent) → Bool
room_at seen de [] = true
room_at seen de (None ∷ xs) = true
room_at seen de (Some (F i k) ∷ xs) = true
room_at seen de (Some Dma ∷ xs) = true
room_at seen de (Some Text ∷ xs) = true
room_at seen de (Some Line ∷ xs) = not (line_room seen de == 0)

-- the shape of a call of a row
abbrev pub shape_by_places : ℕ → Row → Option ℕ → Option ℕ → ℕ → Seen → Result Shape Rule
shape_by_places function row d e dma seen =
    try_then (argument_of row.argument d e) (λ arg.
    try_then (places_within Read seen (argument_address arg) dma row.reads) (λ reads.
    cond (room_at seen (argument_address arg) row.writes)
    (try_then (places_within Write seen (argument_address arg) dma row.writes) (λ writes.
    Ok (record { function = function; arg = arg; reads = reads; writes = writes })))
    (Err P10)))
