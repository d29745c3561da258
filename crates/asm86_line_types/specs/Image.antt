-- The image of a text: its code, its data cells, and the offset of each label.
use Rattle.std.specs.Prelude.{◌≡◌, ℕ, ◌+◌, ◌/◌, ◌%◌, ◌<◌, ◌≤◌, nat_le, ◌&&◌, Bool, true, cond, List, [], ◌∷◌, map, Option, Some, None, is_some}
use Rattle.std.specs.List.{fold}
use Rattle.std.specs.Ordering.{nat_cmp}
use Rattle.std.specs.BTreeMap.{insert_entry}
use Rattle.asm86_line_types.specs.declared.line.Label.{Label}
use Rattle.asm86_line_types.specs.declared.line.Value16.TheVariants.{Num, Offset}
use Rattle.asm86_line_types.specs.declared.line.Stmt86.{Stmt86}
use Rattle.asm86_line_types.specs.declared.line.Stmt86.TheVariants.{Cseg, Dseg, Org, Rb, Db, Dw, Mark, Run, MovOffset, Jmp, Jmps, Jcc as JccTo, Call, EndText}
use Rattle.asm86_line_types.specs.declared.line.Line86.{Line86}
use Rattle.asm86_line_types.specs.Order.{at_start, in_order}
use Rattle.asm86_line_types.specs.Layout.{same_label, size_of, sizes_of, marked, marks, offset_of, place_of, code_of}

pub record Image : Type 0 where
  pub code : List ℕ
  pub cells : List (ℕ × ℕ)
  pub labels : List (Label × ℕ)

-- the offset of a label in an image
abbrev pub offset_in : List (Label × ℕ) → Label → Option ℕ
offset_in [] l = None
offset_in (x ∷ xs) l = cond (same_label x.0 l) (Some x.1) (offset_in xs l)

abbrev pub statements : List Line86 → List Stmt86
statements xs = map (λ (x : Line86). x.stmt) xs

-- the labels that a statement uses
abbrev pub used_in : Stmt86 → List Label
used_in Cseg = []
used_in Dseg = []
used_in (Org w) = []
used_in (Rb w) = []
used_in (Db n) = []
used_in (Dw (Num w)) = []
used_in (Dw (Offset l)) = l ∷ []
used_in (Mark l) = []
used_in (Run i) = []
used_in (MovOffset r l) = l ∷ []
used_in (Jmp l) = l ∷ []
used_in (Jmps l) = l ∷ []
used_in (JccTo j l) = l ∷ []
used_in (Call l) = l ∷ []
used_in EndText = []

abbrev pub count_marks : Label → List Stmt86 → ℕ
count_marks l [] = 0
count_marks l (x ∷ xs) = cond (marks l x) 1 0 + count_marks l xs

-- each label is defined once at most
abbrev pub IsDefinedOnce : List Stmt86 → Type 0
IsDefinedOnce xs = (l : Label) → count_marks l xs ≤ 1

-- these labels are all defined
abbrev pub AllDefined : List Stmt86 → List Label → Type 0
AllDefined xs [] = Unit {0}
AllDefined xs (l ∷ ls) = (is_some (offset_of xs l) ≡ true) × AllDefined xs ls

abbrev pub UsesDefined : List Stmt86 → List Stmt86 → Type 0
UsesDefined all [] = Unit {0}
UsesDefined all (x ∷ xs) = AllDefined all (used_in x) × UsesDefined all xs

-- a short jump from one place to another reaches from 128 bytes below to 127 above, as the plain difference of the two
abbrev pub jump_reaches : ℕ → ℕ → Bool
jump_reaches from to = nat_le from (to + 128) && nat_le to (from + 127)

abbrev pub short_reaches : (Label → ℕ) → ℕ → Stmt86 → Bool
short_reaches off at Cseg = true
short_reaches off at Dseg = true
short_reaches off at (Org w) = true
short_reaches off at (Rb w) = true
short_reaches off at (Db n) = true
short_reaches off at (Dw v) = true
short_reaches off at (Mark l) = true
short_reaches off at (Run i) = true
short_reaches off at (MovOffset r l) = true
short_reaches off at (Jmp l) = true
short_reaches off at (Jmps l) = jump_reaches (at + 2) (off l)
short_reaches off at (JccTo j l) = jump_reaches (at + 2) (off l)
short_reaches off at (Call l) = true
short_reaches off at EndText = true

abbrev pub AllReach : (Label → ℕ) → ℕ → List Stmt86 → Type 0
AllReach off at [] = Unit {0}
AllReach off at (x ∷ xs) = (short_reaches off at x ≡ true) × AllReach off (at + size_of x) xs

-- a word as two cells, low byte first, before more cells
abbrev pub word_cells : ℕ → ℕ → List (ℕ × ℕ) → List (ℕ × ℕ)
word_cells at w rest = (at, w % 256) ∷ ((at + 1, w / 256) ∷ rest)

-- the data cells in the text's order, where `at` is the data address: 0 after DSEG, set by ORG, and moved on by RB, DB and DW
abbrev pub cells_from : (Label → ℕ) → ℕ → List Stmt86 → List (ℕ × ℕ)
cells_from off at [] = []
cells_from off at (Cseg ∷ xs) = cells_from off at xs
cells_from off at (Dseg ∷ xs) = cells_from off 0 xs
cells_from off at (Org w ∷ xs) = cells_from off w xs
cells_from off at (Rb w ∷ xs) = cells_from off (at + w) xs
cells_from off at (Db n ∷ xs) = (at, n) ∷ cells_from off (at + 1) xs
cells_from off at (Dw (Num w) ∷ xs) = word_cells at w (cells_from off (at + 2) xs)
cells_from off at (Dw (Offset l) ∷ xs) = word_cells at (off l) (cells_from off (at + 2) xs)
cells_from off at (Mark l ∷ xs) = cells_from off at xs
cells_from off at (Run i ∷ xs) = cells_from off at xs
cells_from off at (MovOffset r l ∷ xs) = cells_from off at xs
cells_from off at (Jmp l ∷ xs) = cells_from off at xs
cells_from off at (Jmps l ∷ xs) = cells_from off at xs
cells_from off at (JccTo j l ∷ xs) = cells_from off at xs
cells_from off at (Call l ∷ xs) = cells_from off at xs
cells_from off at (EndText ∷ xs) = cells_from off at xs

-- a cell put to its place among cells whose addresses ascend
abbrev pub put_cell : List (ℕ × ℕ) → ℕ × ℕ → List (ℕ × ℕ)
put_cell cells c = insert_entry nat_cmp cells c.0 c.1

-- cells in ascending order of their addresses
abbrev pub by_address : List (ℕ × ℕ) → List (ℕ × ℕ)
by_address cells = fold put_cell [] cells

-- each label with its offset, in statements that begin at a place
abbrev pub labels_before : Option Label → ℕ → List (Label × ℕ) → List (Label × ℕ)
labels_before None at rest = rest
labels_before (Some l) at rest = (l, at) ∷ rest

abbrev pub labels_from : ℕ → List Stmt86 → List (Label × ℕ)
labels_from at [] = []
labels_from at (x ∷ xs) = labels_before (marked x) at (labels_from (at + size_of x) xs)

-- what statements assemble to
abbrev pub image_of : List Line86 → Image
image_of lines =
    let xs : List Stmt86 = statements lines in
    record { code = code_of xs; cells = by_address (cells_from (place_of xs) 0 xs); labels = labels_from 0 xs }

-- the text assembles: each statement stands in its group, no label is defined again, each label used is defined, the code
-- has at most 65,535 bytes, and each short jump reaches
pub record Assembles (lines : List Line86) : Type 0 where
  pub order : in_order at_start (statements lines) ≡ true
  pub once : IsDefinedOnce (statements lines)
  pub defined : UsesDefined (statements lines) (statements lines)
  pub small : sizes_of (statements lines) < 0x10000
  pub short : AllReach (place_of (statements lines)) 0 (statements lines)

-- the image of lines that assemble
pub record IsImage (lines : List Line86) (image : Image) : Type 0 where
  pub assembles : Assembles lines
  pub is : image ≡ image_of lines
