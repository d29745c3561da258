-- The cells of an image stand from 100H up, within memory.
use Rattle.std.proofs.Common.{◌≡◌, ℕ, ◌+◌, ◌<◌, ◌≤◌, ◌%◌, ◌/◌, nat_lt, nat_le, ◌==◌, ◌&&◌, true, not, List, [], ◌∷◌, subst, sym}
use Rattle.std.specs.List.{All, list_any}
use Rattle.std.proofs.lemmas.Bool.{and_parts, leb-true, ltb-true}
use Rattle.std.proofs.lemmas.List.Elements.{All-nil, All-cons}
use Rattle.std.proofs.lemmas.List.Sorted.{All-permutation}
use Rattle.asm86_line_types.specs.declared.line.Label.{Label}
use Rattle.asm86_line_types.specs.declared.line.Value16.TheVariants.{Num, Offset}
use Rattle.asm86_line_types.specs.declared.line.Stmt86.{Stmt86}
use Rattle.asm86_line_types.specs.declared.line.Stmt86.TheVariants.{Cseg, Dseg, Org, Rb, Db, Dw, Mark, Run, MovOffset, Jmp, Jmps, Jcc, Call, EndText}
use Rattle.asm86_line_types.specs.declared.line.Line86.{Line86}
use Rattle.asm86_line_types.specs.Cells.{CellsAreSorted}
use Rattle.asm86_line_types.specs.Order.{Reading, at_start, in_data, is_free_cell, reading_after, in_order}
use Rattle.asm86_line_types.specs.Layout.{place_of}
use Rattle.asm86_line_types.specs.Image.{Image, IsImage, statements, cells_from, by_address}
use Rattle.asm86_line_types.proofs.Sorting.{rest_stands}

-- above the system's bytes, and within 64K
abbrev pub InData : ℕ × ℕ → Type 0
InData c = (0x100 ≤ c.0) × (c.0 < 0x10000)

free : (r : Reading) (a n : ℕ) → is_free_cell r a ≡ true → InData (a, n)
free r a n h =
    let low = and_parts (nat_le 0x100 a) (nat_lt a 0x10000 && not (list_any (λ b. b == a) r.filled)) h in
    let high = and_parts (nat_lt a 0x10000) (not (list_any (λ b. b == a) r.filled)) low.1 in
    (leb-true 0x100 a low.0, ltb-true a 0x10000 high.0)

two_free : (r : Reading) (low high : ℕ) (rest : List (ℕ × ℕ)) → (in_data r.group && (is_free_cell r r.at && is_free_cell r (r.at + 1))) ≡ true → All InData rest → All InData ((r.at, low) ∷ ((r.at + 1, high) ∷ rest))
two_free r low high rest h more =
    let both = and_parts (is_free_cell r r.at) (is_free_cell r (r.at + 1)) (and_parts (in_data r.group) (is_free_cell r r.at && is_free_cell r (r.at + 1)) h).1 in
    All-cons InData (r.at, low) ((r.at + 1, high) ∷ rest) (free r r.at low both.0) (All-cons InData (r.at + 1, high) rest (free r (r.at + 1) high both.1) more)

cells_in_data : (off : Label → ℕ) (r : Reading) (xs : List Stmt86) → in_order r xs ≡ true → All InData (cells_from off r.at xs)
cells_in_data off r [] h = All-nil InData
cells_in_data off r (Cseg ∷ xs) h = cells_in_data off (reading_after r Cseg) xs (rest_stands r Cseg xs h).1
cells_in_data off r (Dseg ∷ xs) h = cells_in_data off (reading_after r Dseg) xs (rest_stands r Dseg xs h).1
cells_in_data off r (Org w ∷ xs) h = cells_in_data off (reading_after r (Org w)) xs (rest_stands r (Org w) xs h).1
cells_in_data off r (Rb w ∷ xs) h = cells_in_data off (reading_after r (Rb w)) xs (rest_stands r (Rb w) xs h).1
cells_in_data off r (Db n ∷ xs) h =
    let s = rest_stands r (Db n) xs h in
    All-cons InData (r.at, n) (cells_from off (r.at + 1) xs) (free r r.at n (and_parts (in_data r.group) (is_free_cell r r.at) s.0).1) (cells_in_data off (reading_after r (Db n)) xs s.1)
cells_in_data off r (Dw (Num w) ∷ xs) h =
    let s = rest_stands r (Dw (Num w)) xs h in
    two_free r (w % 256) (w / 256) (cells_from off (r.at + 2) xs) s.0 (cells_in_data off (reading_after r (Dw (Num w))) xs s.1)
cells_in_data off r (Dw (Offset l) ∷ xs) h =
    let s = rest_stands r (Dw (Offset l)) xs h in
    two_free r (off l % 256) (off l / 256) (cells_from off (r.at + 2) xs) s.0 (cells_in_data off (reading_after r (Dw (Offset l))) xs s.1)
cells_in_data off r (Mark l ∷ xs) h = cells_in_data off r xs (rest_stands r (Mark l) xs h).1
cells_in_data off r (Run i ∷ xs) h = cells_in_data off r xs (rest_stands r (Run i) xs h).1
cells_in_data off r (MovOffset q l ∷ xs) h = cells_in_data off r xs (rest_stands r (MovOffset q l) xs h).1
cells_in_data off r (Jmp l ∷ xs) h = cells_in_data off r xs (rest_stands r (Jmp l) xs h).1
cells_in_data off r (Jmps l ∷ xs) h = cells_in_data off r xs (rest_stands r (Jmps l) xs h).1
cells_in_data off r (Jcc j l ∷ xs) h = cells_in_data off r xs (rest_stands r (Jcc j l) xs h).1
cells_in_data off r (Call l ∷ xs) h = cells_in_data off r xs (rest_stands r (Call l) xs h).1
cells_in_data off r (EndText ∷ xs) h = cells_in_data off r xs (rest_stands r EndText xs h).1

pub image_in_data : CellsAreSorted → (lines : List Line86) (image : Image) → IsImage lines image → All InData image.cells
image_in_data sorted lines image h =
    let xs = statements lines in
    let off = place_of xs in
    let order = h.assembles.order in
    subst (λ (z : Image). All InData z.cells) (sym h.is)
    (All-permutation InData (cells_from off 0 xs) (by_address (cells_from off 0 xs)) (sorted off xs order).1 (cells_in_data off at_start xs order))
