-- The shapes that calls have over some memory give lawful requests.
use Rattle.std.proofs.Common.{◌≡◌, ◌≢◌, refl, sym, ◌∙◌, ap, subst, ℕ, zero, suc, ◌+◌, ◌≤◌, ◌<◌, Bool, true, false, cond, List, [], ◌∷◌, ◌++◌, length, drop, add-one, add-zero, drop-cons, append_assoc, arith}
use Rattle.std.proofs.lemmas.Bool.{leb-true, eqb-true, and_parts}
use Rattle.std.proofs.lemmas.List.{map-append}
use Rattle.std.proofs.lemmas.List.Elements.{All-nil, All-cons, All-head, All-tail}
use Rattle.std.specs.Prelude.{Option, Some, None, Ok, Err, map, unwrap_or, slice_index_or, IfSome, IsTrue, ◌==◌, ◌&&◌, ◌||◌, nat_le, not}
use Rattle.std.specs.List.{All}
use Rattle.cells.specs.declared.Rule.{Rule}
use Rattle.cells.specs.declared.Rule.TheVariants.{P10, P11}
use Rattle.dialogue.specs.declared.blocks.Block.{Block}
use Rattle.dialogue.specs.declared.request.ArgWord.{ArgWord}
use Rattle.dialogue.specs.declared.request.ArgWord.TheVariants.{Byte}
use Rattle.dialogue.specs.declared.request.Range.{Range}
use Rattle.dialogue.specs.declared.request.Shape.{Shape}
use Rattle.dialogue.specs.Table.{Argument, NoArgument, InE, DirectInE, InDE, Extent, F, Dma, Text, Line, Row, call_table, row_of, padded_to}
use Rattle.dialogue.specs.Shape.{Seen, argument_of, argument_address, is_readable, line_room, text_length, text_range, range_of, is_within, range_within, ranges_within, has_room, ranges, bytes_seen, block_seen, request_of, shape_by, shape_by_row, shape_of}
use Rattle.dialogue.specs.Places.{room_at}
use Rattle.dialogue.specs.Lawful.{IsShapeOver, is_argument, IsRangeOf, AreRangesOf, first_byte, range_of_block, IsLawfulRequest}
use Rattle.dialogue.proofs.Rows.{rows_have_places, entry_at-passes, fits_in_places, has_room-padded}
use Rattle.dialogue.proofs.Tried.{ok_is, then_is, cond_ok, err_is_not}

-- a range ends within memory
abbrev pub Ends : Range → Type 0
Ends r = r.at + r.len ≤ 0x10000

-- a range that an extent gives, and that ends within memory
range_within-ok : (passes : ℕ → Bool) (rule : Rule) (o : Option Range) (r : Range) → range_within passes rule o ≡ Ok r → (o ≡ Some r) × Ends r
range_within-ok passes rule None r h = cc
range_within-ok passes rule (Some q) r h =
    let told = cond_ok (is_within passes q) q r rule h in
    let ends = leb-true _ _ (and_parts (nat_le (q.at + q.len) 0x10000) _ told.0).0 in
    (ap Some told.1, subst Ends told.1 ends)

range_of-is : (seen : Seen) (de dma : ℕ) (x : Extent) (r : Range) → range_of seen de dma x ≡ Some r → IsRangeOf de dma (line_room seen de) x r
range_of-is seen de dma (F i k) r h = (cc, cc)
range_of-is seen de dma Dma r h = (cc, cc)
range_of-is seen de dma Line r h = (cc, cc)
range_of-is seen de dma Text r h = by_length (text_length seen _ de) h
  where
    by_length : (n : Option ℕ) → text_range de n ≡ Some r → r.at ≡ de
    by_length None h = cc
    by_length (Some n) h = cc

-- the ranges of a list of extents are theirs, and end within memory
pub record Placed (de dma mx : ℕ) (xs : List Extent) (rs : List Range) : Type 0 where
  pub same_length : length rs ≡ length xs
  pub ends : All Ends rs
  pub are : (k : ℕ) → length xs ≤ k → AreRangesOf de dma mx xs (padded_to k rs)

ranges-padded : (k : ℕ) (rs : List Range) → length rs ≤ k → ranges (padded_to k rs) ≡ rs
ranges-padded zero [] le = refl
ranges-padded (suc k) [] le = ranges-padded k [] (omega arith)
ranges-padded zero (r ∷ rs) le = absurd (omega arith)
ranges-padded (suc k) (r ∷ rs) le = ap (λ rs. r ∷ rs) (ranges-padded k rs (omega arith))

ranges_within-placed : (passes : ℕ → Bool) (rule : Rule) (seen : Seen) (de dma : ℕ) (xs : List Extent) (rs : List Range) →
    ranges_within passes rule seen de dma xs ≡ Ok rs → Placed de dma (line_room seen de) xs rs
ranges_within-placed passes rule seen de dma [] rs h =
    let none : rs ≡ [] = cc in
    record {
      same_length = rw none refl;
      ends = rw none (All-nil Ends);
      are = λ k le. rw none (ranges-padded k [] (omega arith));
    }
ranges_within-placed passes rule seen de dma (x ∷ xs) rs h =
    let first = then_is (range_within passes rule (range_of seen de dma x)) _ rs h in
    let rest = then_is (ranges_within passes rule seen de dma xs) _ rs first.2 in
    let placed = ranges_within-placed passes rule seen de dma xs rest.0 rest.1 in
    let range = range_within-ok passes rule (range_of seen de dma x) first.0 first.1 in
    let whole : first.0 ∷ rest.0 ≡ rs = cc in
    let P : List Range → Type 0 = Placed de dma (line_room seen de) (x ∷ xs) in
    subst P whole (record {
      same_length = ap suc placed.same_length;
      ends = All-cons Ends first.0 rest.0 range.1 placed.ends;
      are = placed_cons (line_room seen de) first.0 rest.0 (range_of-is seen de dma x first.0 range.0) placed.are;
    })
  where
    placed_cons : (mx : ℕ) (r : Range) (rs' : List Range) → IsRangeOf de dma mx x r →
        ((k : ℕ) → length xs ≤ k → AreRangesOf de dma mx xs (padded_to k rs')) →
        (k : ℕ) → length (x ∷ xs) ≤ k → AreRangesOf de dma mx (x ∷ xs) (padded_to k (r ∷ rs'))
    placed_cons mx r rs' is are zero le = absurd (omega arith)
    placed_cons mx r rs' is are (suc k) le = (is, are k (omega arith))

-- without a line, mx does not matter
abbrev pub has_no_line : List Extent → Bool
has_no_line [] = true
has_no_line (F i k ∷ xs) = has_no_line xs
has_no_line (Dma ∷ xs) = has_no_line xs
has_no_line (Text ∷ xs) = has_no_line xs
has_no_line (Line ∷ xs) = false

AreRangesOf-any : (de dma mx m : ℕ) (xs : List Extent) (places : List (Option Range)) → has_no_line xs ≡ true →
    AreRangesOf de dma mx xs places → AreRangesOf de dma m xs places
AreRangesOf-any de dma mx m [] places h are = are
AreRangesOf-any de dma mx m (x ∷ xs) [] h are = are
AreRangesOf-any de dma mx m (x ∷ xs) (None ∷ places) h are = are
AreRangesOf-any de dma mx m (F i k ∷ xs) (Some r ∷ places) h are = (are.0, AreRangesOf-any de dma mx m xs places h are.1)
AreRangesOf-any de dma mx m (Dma ∷ xs) (Some r ∷ places) h are = (are.0, AreRangesOf-any de dma mx m xs places h are.1)
AreRangesOf-any de dma mx m (Text ∷ xs) (Some r ∷ places) h are = (are.0, AreRangesOf-any de dma mx m xs places h are.1)
AreRangesOf-any de dma mx m (Line ∷ xs) (Some r ∷ places) h are = cc

-- the blocks of ranges have these ranges
length-bytes_in : (seen : Seen) (k at : ℕ) → length (bytes_seen seen k at) ≡ k
length-bytes_in seen zero at = refl
length-bytes_in seen (suc k) at = ap suc (length-bytes_in seen k (at + 1))

pub range_of_block-block_of : (seen : Seen) (rs : List Range) → map range_of_block (map (block_seen seen) rs) ≡ rs
range_of_block-block_of seen [] = refl
range_of_block-block_of seen (r ∷ rs) = rw (length-bytes_in seen r.len r.at, range_of_block-block_of seen rs) refl

-- what a loop over the places has left
ranges-cons : (p : Option Range) (ps : List (Option Range)) → ranges (p ∷ ps) ≡ ranges (p ∷ []) ++ ranges ps
ranges-cons None ps = refl
ranges-cons (Some r) ps = refl

pub ranges-drop : (ps : List (Option Range)) (i : ℕ) → i < length ps →
    ranges (drop i ps) ≡ ranges (slice_index_or ps i None ∷ []) ++ ranges (drop (i + 1) ps)
ranges-drop ps i lt = rw (add-one, drop-cons ps i None lt) (ranges-cons (slice_index_or ps i None) (drop (suc i) ps))

pub map-ranges : (f : Range → Block) (before after : List Block) (now rest whole : List Range) →
    whole ≡ now ++ rest → after ≡ before ++ map f now → after ++ map f rest ≡ before ++ map f whole
map-ranges f before after now rest whole split pushed =
    rw (split, pushed, append_assoc, map-append f now rest) refl

ends_at : (p : Option Range) (rs : List Range) → All Ends (ranges (p ∷ []) ++ rs) → IfSome p Ends × All Ends rs
ends_at None rs ends = (tt, ends)
ends_at (Some r) rs ends = (All-head Ends r rs ends, All-tail Ends r rs ends)

pub Ends-drop : (ps : List (Option Range)) (i : ℕ) → i < length ps → All Ends (ranges (drop i ps)) →
    IfSome (slice_index_or ps i None) Ends × All Ends (ranges (drop (i + 1) ps))
Ends-drop ps i lt ends = ends_at (slice_index_or ps i None) (ranges (drop (i + 1) ps)) (rw (ranges-drop ps i lt) at ends)

-- the argument that a row takes
argument_of-ok : (a : Argument) (d e : Option ℕ) (arg : ArgWord) → argument_of a d e ≡ Ok arg → IsTrue (is_argument a arg)
argument_of-ok NoArgument d e arg h = subst (λ (w : ArgWord). IsTrue (is_argument NoArgument w)) (ok_is _ _ h) refl
argument_of-ok InE d None arg h = cc
argument_of-ok InE d (Some e) arg h = subst (λ (w : ArgWord). IsTrue (is_argument InE w)) (ok_is _ _ h) refl
argument_of-ok DirectInE d None arg h = cc
argument_of-ok DirectInE d (Some e) arg h = by_test (e == 0xFE) refl h
  where
    by_test : (b : Bool) → (e == 0xFE) ≡ b → cond b (Err P10) (Ok (Byte e)) ≡ Ok arg → IsTrue (is_argument DirectInE arg)
    by_test true t h = absurd (err_is_not _ _ h)
    by_test false t h = subst (λ (w : ArgWord). IsTrue (is_argument DirectInE w)) (ok_is _ _ h) (ap not t)
argument_of-ok InDE None e arg h = cc
argument_of-ok InDE (Some d) None arg h = cc
argument_of-ok InDE (Some d) (Some e) arg h = subst (λ (w : ArgWord). IsTrue (is_argument InDE w)) (ok_is _ _ h) refl

-- mx is read where a line is written: the buffer's first cell is the first range
abbrev pub is_first_cell : List Extent → Bool
is_first_cell [] = false
is_first_cell (F i k ∷ xs) = (i == 0) && (k == 1)
is_first_cell (Dma ∷ xs) = false
is_first_cell (Text ∷ xs) = false
is_first_cell (Line ∷ xs) = false

abbrev pub reads_mx : Row → Bool
reads_mx row = has_no_line row.reads && (has_no_line row.writes || is_first_cell row.reads)

rows_read_mx : (function : ℕ) (row : Row) → row_of function ≡ Some row → reads_mx row ≡ true
unfolding row_of
rows_read_mx function row found = entry_at-passes reads_mx call_table function row refl found

first_byte-cell : (seen : Seen) (de : ℕ) (r : Range) (rs : List Range) → r.at ≡ de + 0 → r.len ≡ 1 →
    first_byte (map (block_seen seen) (r ∷ rs)) ≡ line_room seen de
first_byte-cell seen de r rs start len =
    rw (len, start) (ap (λ a. unwrap_or (seen.byte a) 0) (add-zero de))

mx_is_read : (seen : Seen) (de dma : ℕ) (xs : List Extent) (rs : List Range) → is_first_cell xs ≡ true →
    AreRangesOf de dma (line_room seen de) xs (padded_to 3 rs) → first_byte (map (block_seen seen) rs) ≡ line_room seen de
mx_is_read seen de dma [] rs first are = cc
mx_is_read seen de dma (Dma ∷ xs) rs first are = cc
mx_is_read seen de dma (Text ∷ xs) rs first are = cc
mx_is_read seen de dma (Line ∷ xs) rs first are = cc
mx_is_read seen de dma (F i k ∷ xs) [] first are = absurd are
mx_is_read seen de dma (F i k ∷ xs) (r ∷ rs) first are =
    let each = and_parts (i == 0) (k == 1) first in
    first_byte-cell seen de r rs (are.0.0 ∙ ap (λ n. de + n) (eqb-true i 0 each.0)) (are.0.1 ∙ eqb-true k 1 each.1)

-- the row of function 10
row_of-ten : (row : Row) → row_of 10 ≡ Some row → row.writes ≡ Line ∷ []
unfolding row_of
row_of-ten row found = sym (ap (λ (o : Option Row). written o) found)
  where
    written : Option Row → List Extent
    written None = []
    written (Some row) = row.writes

-- the parts of a lawful request that speak of mx
pub record Lines (row : Row) (function : ℕ) (de dma : ℕ) (reads writes : List (Option Range)) (mx : ℕ) : Type 0 where
  pub reads_are : AreRangesOf de dma mx row.reads reads
  pub writes_are : AreRangesOf de dma mx row.writes writes
  pub room : function ≡ 10 → mx ≢ 0

room-is : (seen : Seen) (de function : ℕ) (row : Row) → row_of function ≡ Some row → room_at seen de (padded_to 2 row.writes) ≡ true →
    function ≡ 10 → line_room seen de ≢ 0
room-is seen de function row found room ten none =
    let line : row.writes ≡ Line ∷ [] = row_of-ten row (rw (← ten) found) in
    let left : not (line_room seen de == 0) ≡ true = rw line at room in
    let gone : false ≡ true = rw none at left in
    cc

no_line_at_ten : (function : ℕ) (row : Row) → row_of function ≡ Some row → function ≡ 10 → has_no_line row.writes ≡ true → ⊥
no_line_at_ten function row found ten none =
    let line : row.writes ≡ Line ∷ [] = row_of-ten row (rw (← ten) found) in
    let gone : false ≡ true = rw line at none in
    cc

pub lines : (seen : Seen) (function : ℕ) (row : Row) (de dma : ℕ) (rs ws : List Range) → row_of function ≡ Some row →
    AreRangesOf de dma (line_room seen de) row.reads (padded_to 3 rs) →
    AreRangesOf de dma (line_room seen de) row.writes (padded_to 2 ws) →
    room_at seen de (padded_to 2 row.writes) ≡ true →
    Lines row function de dma (padded_to 3 rs) (padded_to 2 ws) (first_byte (map (block_seen seen) rs))
lines seen function row de dma rs ws found reads writes room =
    let told = and_parts (has_no_line row.reads) _ (rows_read_mx function row found) in
    by_lines (has_no_line row.writes) refl told.0 told.1
  where
    mx : ℕ
    mx = first_byte (map (block_seen seen) rs)

    by_lines : (b : Bool) → has_no_line row.writes ≡ b → has_no_line row.reads ≡ true → (b || is_first_cell row.reads) ≡ true →
        Lines row function de dma (padded_to 3 rs) (padded_to 2 ws) mx
    by_lines true none plain first = record {
      reads_are = AreRangesOf-any de dma (line_room seen de) mx row.reads (padded_to 3 rs) plain reads;
      writes_are = AreRangesOf-any de dma (line_room seen de) mx row.writes (padded_to 2 ws) none writes;
      room = λ ten. absurd (no_line_at_ten function row found ten none);
    }
    by_lines false line plain first =
        let same : mx ≡ line_room seen de = mx_is_read seen de dma row.reads rs first reads in
        record {
          reads_are = AreRangesOf-any de dma (line_room seen de) mx row.reads (padded_to 3 rs) plain reads;
          writes_are = rw same writes;
          room = λ ten none. room-is seen de function row found room ten (sym same ∙ none);
        }

-- a call over some memory, with what it reads and may write
pub record Made (seen : Seen) (shape : Shape) : Type 0 where
  pub row : Row
  pub found : row_of shape.function ≡ Some row
  pub argument : IsTrue (is_argument row.argument shape.arg)
  pub dma : ℕ
  pub reads : List Range
  pub reads_are : shape.reads ≡ padded_to 3 reads
  pub reads_placed : Placed (argument_address shape.arg) dma (line_room seen (argument_address shape.arg)) row.reads reads
  pub writes : List Range
  pub writes_are : shape.writes ≡ padded_to 2 writes
  pub writes_placed : Placed (argument_address shape.arg) dma (line_room seen (argument_address shape.arg)) row.writes writes
  pub room : room_at seen (argument_address shape.arg) (padded_to 2 row.writes) ≡ true

made_by_row : (seen : Seen) (function : ℕ) (row : Row) (d e : Option ℕ) (dma : ℕ) (shape : Shape) → row_of function ≡ Some row →
    shape_by function row d e dma seen ≡ Ok shape → Made seen shape
made_by_row seen function row d e dma shape found given =
    let a = then_is (argument_of row.argument d e) _ shape given in
    let de = argument_address a.0 in
    let r = then_is (ranges_within (is_readable seen) P10 seen de dma row.reads) _ shape a.2 in
    let x = then_is (has_room seen de row.writes) _ shape r.2 in
    let w = then_is (ranges_within seen.writable P11 seen de dma x.0) _ shape x.2 in
    let room = cond_ok (room_at seen de (padded_to 2 row.writes)) row.writes x.0 P10 (sym (has_room-padded seen de 1 row.writes) ∙ x.1) in
    let writes : ranges_within seen.writable P11 seen de dma row.writes ≡ Ok w.0 =
    ap (λ xs. ranges_within seen.writable P11 seen de dma xs) room.1 ∙ w.1 in
    let P : Shape → Type 0 = Made seen in
    subst P (ok_is _ _ w.2) (record {
      row = row;
      found = found;
      argument = argument_of-ok row.argument d e a.0 a.1;
      dma = dma;
      reads = r.0;
      reads_are = refl;
      reads_placed = ranges_within-placed (is_readable seen) P10 seen de dma row.reads r.0 r.1;
      writes = w.0;
      writes_are = refl;
      writes_placed = ranges_within-placed seen.writable P11 seen de dma row.writes w.0 writes;
      room = room.0;
    })

pub made : (seen : Seen) (shape : Shape) → IsShapeOver seen shape → Made seen shape
made seen shape over = by_function over.function over.given
  where
    by_row : (function : ℕ) (o : Option Row) → row_of function ≡ o → shape_by_row function o over.d over.e over.dma seen ≡ Ok shape → Made seen shape
    by_row function None found given = cc
    by_row function (Some row) found given = made_by_row seen function row over.d over.e over.dma shape found given

    by_function : (f : Option ℕ) → shape_of f over.d over.e over.dma seen ≡ Ok shape → Made seen shape
    by_function None given = cc
    by_function (Some function) given = by_row function (row_of function) refl given

-- the ranges of the shape
made-reads : (seen : Seen) (shape : Shape) (m : Made seen shape) → ranges shape.reads ≡ m.reads
made-reads seen shape m =
    let fits = fits_in_places m.row (rows_have_places shape.function m.row m.found) in
    let placed = m.reads_placed.same_length in
    ap ranges m.reads_are ∙ ranges-padded 3 m.reads (omega arith)

made-writes : (seen : Seen) (shape : Shape) (m : Made seen shape) → ranges shape.writes ≡ m.writes
made-writes seen shape m =
    let fits = fits_in_places m.row (rows_have_places shape.function m.row m.found) in
    let placed = m.writes_placed.same_length in
    ap ranges m.writes_are ∙ ranges-padded 2 m.writes (omega arith)

-- those that it reads end within memory
pub made-ends : (seen : Seen) (shape : Shape) → Made seen shape → All Ends (ranges shape.reads)
made-ends seen shape m = rw (made-reads seen shape m) m.reads_placed.ends

-- the request of such a shape is lawful
pub made-lawful : (seen : Seen) (shape : Shape) → Made seen shape → IsLawfulRequest (request_of shape seen)
made-lawful seen shape m =
    let fits = fits_in_places m.row (rows_have_places shape.function m.row m.found) in
    let de = argument_address shape.arg in
    let about = lines seen shape.function m.row de m.dma m.reads m.writes m.found
    (m.reads_placed.are 3 fits.0) (m.writes_placed.are 2 fits.1) m.room in
    let reads = made-reads seen shape m in
    record {
      row = m.row;
      in_table = m.found;
      argument = m.argument;
      dma = m.dma;
      reads = rw (reads, m.reads_are) about.reads_are;
      writes = rw (reads, m.writes_are) about.writes_are;
      reads_end = made-ends seen shape m;
      writes_end = rw (made-writes seen shape m) m.writes_placed.ends;
      room = rw reads about.room;
      blocks = range_of_block-block_of seen (ranges shape.reads);
    }
