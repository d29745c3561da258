-- The table's rows, and the shapes that they give in lists and in arrays.
use Rattle.std.proofs.Common.{◌≡◌, refl, ℕ, zero, suc, ◌≤◌, Bool, true, false, cond, List, [], ◌∷◌, length, arith}
use Rattle.std.proofs.lemmas.Bool.{leb-true, and_parts}
use Rattle.std.specs.Prelude.{Option, Some, None, Result, Ok, Err, option_map, ◌==◌, ◌&&◌, nat_le, not}
use Rattle.std.specs.List.{list_all}
use Rattle.cells.specs.declared.Rule.{Rule}
use Rattle.cells.specs.declared.Rule.TheVariants.{P10, P11}
use Rattle.dialogue.specs.declared.request.ArgWord.{ArgWord}
use Rattle.dialogue.specs.declared.request.Range.{Range}
use Rattle.dialogue.specs.declared.request.Shape.{Shape}
use Rattle.dialogue.specs.declared.shape.Access.{Access}
use Rattle.dialogue.specs.declared.shape.Access.TheVariants.{Read, Write}
use Rattle.dialogue.specs.declared.table.Row.{Row as LaidOut}
use Rattle.dialogue.specs.Tried.{try_then}
use Rattle.dialogue.specs.Table.{Extent, F, Dma, Text, Line, Row, call_table, entry_at, row_of, padded_to, laid_out}
use Rattle.dialogue.specs.Shape.{Seen, argument_of, argument_address, is_readable, line_room, range_of, range_within, ranges_within, has_room, shape_by, shape_by_row}
use Rattle.dialogue.specs.Places.{passes, rule_of, places_within, room_at, shape_by_places}

-- the lists of a row have places in the arrays
abbrev pub has_places : Row → Bool
has_places row = nat_le (length row.reads) 3 && nat_le (length row.writes) 2

entry_at-step : {X : Type 0} (test : X → Bool) (here passed others : Bool) (v x : X) (rest : Option X) →
    (passed && others) ≡ true → cond here (Some v) rest ≡ Some x → test v ≡ passed →
    (others ≡ true → rest ≡ Some x → test x ≡ true) → test x ≡ true
entry_at-step test here false others v x rest all found tells next = cc
entry_at-step test true true others v x rest all found tells next = cc
entry_at-step test false true others v x rest all found tells next = next all found

-- what a test says of each entry it says of the one that is found
pub entry_at-passes : {X : Type 0} (test : X → Bool) (table : List (ℕ × X)) (n : ℕ) (x : X) →
    list_all (λ e. test e.1) table ≡ true → entry_at table n ≡ Some x → test x ≡ true
entry_at-passes test [] n x all found = cc
entry_at-passes test (e ∷ es) n x all found =
    entry_at-step test (n == e.0) (test e.1) (list_all (λ e. test e.1) es) e.1 x (entry_at es n) all found refl
    (entry_at-passes test es n x)

pub rows_have_places : (function : ℕ) (row : Row) → row_of function ≡ Some row → has_places row ≡ true
unfolding row_of
rows_have_places function row found = entry_at-passes has_places call_table function row refl found

places_within-step : (k : ℕ) (r : Result Range Rule) (places : Result (List (Option Range)) Rule) (rs : Result (List Range) Rule) →
    places ≡ try_then rs (λ rs. Ok (padded_to k rs)) →
    try_then (try_then r (λ r. Ok (Some r))) (λ r. try_then places (λ rs. Ok (r ∷ rs)))
    ≡ try_then (try_then r (λ r. try_then rs (λ rs. Ok (r ∷ rs)))) (λ rs. Ok (padded_to (suc k) rs))
places_within-step k (Err e) places rs same = refl
places_within-step k (Ok r) places (Err e) same = rw same refl
places_within-step k (Ok r) places (Ok rs) same = rw same refl

-- the ranges of a list, in places
pub places_within-padded : (access : Access) (seen : Seen) (de dma k : ℕ) (xs : List Extent) → length xs ≤ k →
    places_within access seen de dma (padded_to k xs)
    ≡ try_then (ranges_within (passes access seen) (rule_of access) seen de dma xs) (λ rs. Ok (padded_to k rs))
places_within-padded access seen de dma zero [] le = refl
places_within-padded access seen de dma (suc k) [] le = rw (places_within-padded access seen de dma k [] (omega arith)) refl
places_within-padded access seen de dma zero (x ∷ xs) le = absurd (omega arith)
places_within-padded access seen de dma (suc k) (x ∷ xs) le =
    places_within-step k (range_within (passes access seen) (rule_of access) (range_of seen de dma x))
    (places_within access seen de dma (padded_to k xs)) (ranges_within (passes access seen) (rule_of access) seen de dma xs)
    (places_within-padded access seen de dma k xs (omega arith))

-- a line buffer's room, by the first place
pub has_room-padded : (seen : Seen) (de k : ℕ) (xs : List Extent) →
    has_room seen de xs ≡ cond (room_at seen de (padded_to (suc k) xs)) (Ok xs) (Err P10)
has_room-padded seen de k [] = refl
has_room-padded seen de k (F i n ∷ xs) = refl
has_room-padded seen de k (Dma ∷ xs) = refl
has_room-padded seen de k (Text ∷ xs) = refl
has_room-padded seen de k (Line ∷ xs) = by_room (line_room seen de == 0)
  where
    by_room : (b : Bool) → cond b (Err P10) (Ok (Line ∷ xs)) ≡ cond (not b) (Ok (Line ∷ xs)) (Err P10)
    by_room true = refl
    by_room false = refl

try_then-each : {X Y R : Type 0} (r : Result X R) (f g : X → Result Y R) → ((x : X) → f x ≡ g x) → try_then r f ≡ try_then r g
try_then-each (Ok x) f g same = same x
try_then-each (Err e) f g same = refl

with_writes : (function : ℕ) (arg : ArgWord) (reads : List Range) (writes : Result (List Range) Rule) →
    try_then {Y = Shape} (try_then {Y = List (Option Range)} writes (λ rs. Ok (padded_to 2 rs)))
    (λ writes. Ok (record { function = function; arg = arg; reads = padded_to 3 reads; writes = writes }))
    ≡ try_then writes (λ writes. Ok (record { function = function; arg = arg; reads = padded_to 3 reads; writes = padded_to 2 writes }))
with_writes function arg reads (Err e) = refl
with_writes function arg reads (Ok ws) = refl

after_argument : (function : ℕ) (arg : ArgWord) (reads : Result (List Range) Rule) (room : Bool) (xs : List Extent)
    (writes : List Extent → Result (List Range) Rule) →
    try_then {Y = Shape} (try_then {Y = List (Option Range)} reads (λ rs. Ok (padded_to 3 rs))) (λ reads. cond room
    (try_then {Y = Shape} (try_then {Y = List (Option Range)} (writes xs) (λ rs. Ok (padded_to 2 rs)))
    (λ writes. Ok (record { function = function; arg = arg; reads = reads; writes = writes })))
    (Err P10))
    ≡ try_then reads (λ reads. try_then (cond room (Ok xs) (Err P10)) (λ extents. try_then (writes extents) (λ writes.
    Ok (record { function = function; arg = arg; reads = padded_to 3 reads; writes = padded_to 2 writes }))))
after_argument function arg (Err e) room xs writes = refl
after_argument function arg (Ok rs) false xs writes = refl
after_argument function arg (Ok rs) true xs writes = with_writes function arg rs (writes xs)

-- the shape of a row's call is that of its arrays
pub shape_by-laid_out : (function : ℕ) (row : Row) (d e : Option ℕ) (dma : ℕ) (seen : Seen) →
    length row.reads ≤ 3 → length row.writes ≤ 2 →
    shape_by_places function (laid_out row) d e dma seen ≡ shape_by function row d e dma seen
shape_by-laid_out function row d e dma seen reads writes =
    try_then-each (argument_of row.argument d e) _ _ (λ arg.
    rw (
      places_within-padded Read seen (argument_address arg) dma 3 row.reads reads,
      places_within-padded Write seen (argument_address arg) dma 2 row.writes writes,
      has_room-padded seen (argument_address arg) 1 row.writes,
    )
    (after_argument function arg (ranges_within (is_readable seen) P10 seen (argument_address arg) dma row.reads)
    (room_at seen (argument_address arg) (padded_to 2 row.writes)) row.writes
    (λ xs. ranges_within seen.writable P11 seen (argument_address arg) dma xs)))

-- the lists of a row of the table have places in the arrays
pub fits_in_places : (row : Row) → has_places row ≡ true → (length row.reads ≤ 3) × (length row.writes ≤ 2)
fits_in_places row fits =
    let each = and_parts (nat_le (length row.reads) 3) (nat_le (length row.writes) 2) fits in
    (leb-true _ _ each.0, leb-true _ _ each.1)

-- the shape by the row of a function, as the code has it
pub shape_by-row_of : (function : ℕ) (row : LaidOut) (d e : Option ℕ) (dma : ℕ) (seen : Seen) →
    Some row ≡ option_map laid_out (row_of function) →
    shape_by_places function row d e dma seen ≡ shape_by_row function (row_of function) d e dma seen
shape_by-row_of function row d e dma seen laid = by_row (row_of function) refl laid
  where
    by_row : (o : Option Row) → row_of function ≡ o → Some row ≡ option_map laid_out o →
        shape_by_places function row d e dma seen ≡ shape_by_row function o d e dma seen
    by_row None found laid = cc
    by_row (Some w) found laid =
        let fits = fits_in_places w (rows_have_places function w found) in
        let same : row ≡ laid_out w = cc in
        rw same (shape_by-laid_out function w d e dma seen fits.0 fits.1)
