-- Memory at the start of both machines: each cell of the 8080 that is not closed stands for the 8086's, once the opening has run.
use Rattle.std.proofs.Common.{◌≡◌, ◌≢◌, ℕ, ◌+◌, ◌-◌, ◌/◌, ◌%◌, ◌≤◌, ◌<◌, ◌==◌, nat_le, nat_lt, Bool, true, false, cond, not, List, [], ◌∷◌, ◌&&◌, Option, Some, None, refl, sym, ap, subst, ◌∙◌, arith}
use Rattle.std.specs.Prelude.{All, fold, slice_index}
use Rattle.std.specs.List.{list_any}
use Rattle.std.specs.Map.{keys_of, values_of}
use Rattle.std.specs.Ordering.{nat_cmp}
use Rattle.std.proofs.lemmas.Bool.{and_parts, leb-true}
use Rattle.std.proofs.lemmas.Bool.Decides.{nat_tests}
use Rattle.std.proofs.lemmas.List.Elements.{All-nil, All-head, All-tail}
use Rattle.std.proofs.lemmas.Map.Views.{All-keys-insert_entry, All-values-insert_entry}
use Rattle.std.proofs.lemmas.Option.{same_Some}
use Rattle.cells.specs.declared.Place.{Place}
use Rattle.cells.specs.declared.Place.TheVariants.{Exit}
use Rattle.cells.specs.declared.Cell.{Cell}
use Rattle.cells.specs.declared.Cell.TheVariants.{Num, Lo, Hi}
use Rattle.asm86_line_types.specs.declared.line.Label.{Label}
use Rattle.asm86_line_types.specs.declared.line.Value16.TheVariants.{Num as NumWord, Offset}
use Rattle.asm86_line_types.specs.declared.line.Stmt86.{Stmt86}
use Rattle.asm86_line_types.specs.declared.line.Stmt86.TheVariants.{Cseg, Dseg, Org, Rb, Db, Dw, Mark, Run, MovOffset, Jmp, Jmps, Jcc, Call, EndText}
use Rattle.asm86_line_types.specs.Order.{Reading, at_start, in_data, is_free_cell, reading_after, in_order}
use Rattle.asm86_line_types.specs.Image.{word_cells, cells_from, put_cell, by_address}
use Rattle.asm86_line_types.proofs.Sorting.{rest_stands}
use Rattle.asm80_types.specs.Program.{Program, cell_at}
use Rattle.cpu80_tagged.specs.Start.{cell_or_junk, start_cell80}
use Rattle.dialogue.specs.ByteMemory.{put, put_cells}
use Rattle.dialogue.specs.Words.{wrap}
use Rattle.cpu86.specs.State.{put_word, back}
use Rattle.cpu86.specs.Start.{start_byte}
use Rattle.sym_block_def.specs.Stands.{Stands}
use Rattle.sym_sound.proofs.Machine86.Words.{eq_false, put_word_past, put_word_low, put_word_high}
use Rattle.sym_sound.proofs.Machine86.Denoting.{word_put}
use Rattle.simulation_def.specs.Matches.{first_or, byte_at, DataAreCoded}

-- the cells of a text: from 100H up, and bytes

abbrev IsCellOf : ℕ × ℕ → Type 0
IsCellOf c = (0x100 ≤ c.0) × (c.1 < 256)

abbrev AreCells : List (ℕ × ℕ) → Type 0
AreCells [] = Unit {0}
AreCells (c ∷ cs) = IsCellOf c × AreCells cs

free_high : (r : Reading) (a : ℕ) → is_free_cell r a ≡ true → 0x100 ≤ a
free_high r a h = leb-true 0x100 a (and_parts (nat_le 0x100 a) (nat_lt a 0x10000 && not (list_any (λ b. b == a) r.filled)) h).0

module _ (off : Label → ℕ) (small : (l : Label) → off l < 0x10000) where
  -- what stands behind a statement
  word_high : (w : ℕ) → w < 0x10000 → w / 256 < 256
  word_high w h = omega (arith, h)

  word_low : (w : ℕ) → w % 256 < 256
  word_low w = omega arith

  two_cells : (r : Reading) (w : ℕ) (cs : List (ℕ × ℕ)) → w < 0x10000 → (in_data r.group && (is_free_cell r r.at && is_free_cell r (r.at + 1))) ≡ true → AreCells cs → AreCells (word_cells r.at w cs)
  two_cells r w cs lt h rest =
      let a = and_parts (in_data r.group) (is_free_cell r r.at && is_free_cell r (r.at + 1)) h in
      let b = and_parts (is_free_cell r r.at) (is_free_cell r (r.at + 1)) a.1 in
      ((free_high r r.at b.0, word_low w), ((free_high r (r.at + 1) b.1, word_high w lt), rest))

  cells_are : (r : Reading) (xs : List Stmt86) → in_order r xs ≡ true → DataAreCoded xs → AreCells (cells_from off r.at xs)
  cells_are r [] h d = tt
  cells_are r (Cseg ∷ xs) h d = cells_are (reading_after r Cseg) xs (rest_stands r Cseg xs h).1 d.1
  cells_are r (Dseg ∷ xs) h d = cells_are (reading_after r Dseg) xs (rest_stands r Dseg xs h).1 d.1
  cells_are r (Org w ∷ xs) h d = cells_are (reading_after r (Org w)) xs (rest_stands r (Org w) xs h).1 d.1
  cells_are r (Rb w ∷ xs) h d = cells_are (reading_after r (Rb w)) xs (rest_stands r (Rb w) xs h).1 d.1
  cells_are r (Db n ∷ xs) h d =
      let p = rest_stands r (Db n) xs h in
      ((free_high r r.at (and_parts (in_data r.group) (is_free_cell r r.at) p.0).1, d.0), cells_are (reading_after r (Db n)) xs p.1 d.1)
  cells_are r (Dw (NumWord w) ∷ xs) h d =
      let p = rest_stands r (Dw (NumWord w)) xs h in
      two_cells r w (cells_from off (r.at + 2) xs) d.0 p.0 (cells_are (reading_after r (Dw (NumWord w))) xs p.1 d.1)
  cells_are r (Dw (Offset l) ∷ xs) h d =
      let p = rest_stands r (Dw (Offset l)) xs h in
      two_cells r (off l) (cells_from off (r.at + 2) xs) (small l) p.0 (cells_are (reading_after r (Dw (Offset l))) xs p.1 d.1)
  cells_are r (Mark l ∷ xs) h d = cells_are (reading_after r (Mark l)) xs (rest_stands r (Mark l) xs h).1 d.1
  cells_are r (Run i ∷ xs) h d = cells_are (reading_after r (Run i)) xs (rest_stands r (Run i) xs h).1 d.1
  cells_are r (MovOffset k l ∷ xs) h d = cells_are (reading_after r (MovOffset k l)) xs (rest_stands r (MovOffset k l) xs h).1 d.1
  cells_are r (Jmp l ∷ xs) h d = cells_are (reading_after r (Jmp l)) xs (rest_stands r (Jmp l) xs h).1 d.1
  cells_are r (Jmps l ∷ xs) h d = cells_are (reading_after r (Jmps l)) xs (rest_stands r (Jmps l) xs h).1 d.1
  cells_are r (Jcc j l ∷ xs) h d = cells_are (reading_after r (Jcc j l)) xs (rest_stands r (Jcc j l) xs h).1 d.1
  cells_are r (Call l ∷ xs) h d = cells_are (reading_after r (Call l)) xs (rest_stands r (Call l) xs h).1 d.1
  cells_are r (EndText ∷ xs) h d = cells_are (reading_after r EndText) xs (rest_stands r EndText xs h).1 d.1

-- they stay so when they are put in their order
AllHigh : List (ℕ × ℕ) → Type 0
AllHigh es = All (λ k. 0x100 ≤ k) (keys_of es) × All (λ v. v < 256) (values_of es)

all_put : (es cs : List (ℕ × ℕ)) → AllHigh es → AreCells cs → AllHigh (fold put_cell es cs)
unfolding AllHigh
all_put es [] h a = h
all_put es (c ∷ cs) h a =
    all_put (put_cell es c) cs
    (All-keys-insert_entry nat_cmp c.0 c.1 (λ k. 0x100 ≤ k) es h.0 a.0.0, All-values-insert_entry nat_cmp c.0 c.1 (λ v. v < 256) es h.1 a.0.1) a.1

as_cells : (es : List (ℕ × ℕ)) → AllHigh es → AreCells es
unfolding AllHigh
as_cells [] h = tt
as_cells (e ∷ es) h = ((All-head (λ k. 0x100 ≤ k) e.0 (keys_of es) h.0, All-head (λ v. v < 256) e.1 (values_of es) h.1), as_cells es (All-tail (λ k. 0x100 ≤ k) e.0 (keys_of es) h.0, All-tail (λ v. v < 256) e.1 (values_of es) h.1))

pub image_cells : (off : Label → ℕ) → ((l : Label) → off l < 0x10000) → (xs : List Stmt86) → in_order at_start xs ≡ true → DataAreCoded xs → AreCells (by_address (cells_from off 0 xs))
unfolding AllHigh
image_cells off small xs h d = as_cells (by_address (cells_from off 0 xs)) (all_put [] (cells_from off 0 xs) (All-nil (λ k. 0x100 ≤ k), All-nil (λ v. v < 256)) (cells_are off small at_start xs h d))

-- cells that are put into memory

either_none : (o q : Option ℕ) → first_or o q ≡ None → (o ≡ None) × (q ≡ None)
either_none None q h = (refl, h)
either_none (Some b) q h = absurd (cc)

differs : (a b : ℕ) (v : ℕ) → cond (b == a) (Some v) None ≡ None → (a == b) ≡ false
differs a b v h = by_same (b == a) refl h
  where
    by_same : (k : Bool) → (b == a) ≡ k → cond k (Some v) None ≡ None → (a == b) ≡ false
    by_same true e g = absurd (cc)
    by_same false e g = grind (arith, nat_tests, e)

pub put_past : (m : ℕ → ℕ) (cs : List (ℕ × ℕ)) (a : ℕ) → byte_at cs a ≡ None → put_cells m cs a ≡ m a
put_past m [] a h = refl
put_past m (c ∷ cs) a h =
    let e = either_none (byte_at cs a) (cond (c.0 == a) (Some c.1) None) h in
    put_past (put m c.0 c.1) cs a e.0 ∙ ap (λ k. cond k c.1 (m a)) (differs a c.0 c.1 e.1)

pub put_at : (m : ℕ → ℕ) (cs : List (ℕ × ℕ)) (a b : ℕ) → byte_at cs a ≡ Some b → put_cells m cs a ≡ b
put_at m [] a b h = absurd (cc)
put_at m (c ∷ cs) a b h = by_later (byte_at cs a) refl h (put_at (put m c.0 c.1) cs a)
  where
    here_is : (k : Bool) → (c.0 == a) ≡ k → cond k (Some c.1) None ≡ Some b → put m c.0 c.1 a ≡ b
    here_is true e g = let same : (a == c.0) ≡ true = grind (arith, nat_tests, e) in ap (λ z. cond z c.1 (m a)) same ∙ same_Some c.1 b g
    here_is false e g = absurd (cc)

    by_later : (o : Option ℕ) → byte_at cs a ≡ o → first_or o (cond (c.0 == a) (Some c.1) None) ≡ Some b → ((b : ℕ) → byte_at cs a ≡ Some b → put_cells (put m c.0 c.1) cs a ≡ b) → put_cells (put m c.0 c.1) cs a ≡ b
    by_later None e g later = put_past (put m c.0 c.1) cs a e ∙ here_is (c.0 == a) refl g
    by_later (Some k) e g later = later b (e ∙ g)

-- below 100H there is none
pub none_low : (cs : List (ℕ × ℕ)) (a : ℕ) → AreCells cs → a < 0x100 → byte_at cs a ≡ None
none_low [] a h lt = refl
none_low (c ∷ cs) a h lt =
    let high = h.0.0 in
    let differ : (c.0 == a) ≡ false = eq_false c.0 a (let n : c.0 ≢ a = omega (arith, high, lt) in n) in
    ap (λ o. first_or o (cond (c.0 == a) (Some c.1) None)) (none_low cs a h.1 lt) ∙ ap (λ k. cond k (Some c.1) None) differ

pub cells_bytes : (m : ℕ → ℕ) (cs : List (ℕ × ℕ)) → AreCells cs → ((a : ℕ) → m a < 256) → (a : ℕ) → put_cells m cs a < 256
cells_bytes m [] h b a = b a
cells_bytes m (c ∷ cs) h b a = cells_bytes (put m c.0 c.1) cs h.1 (λ k. by_place k (k == c.0)) a
  where
    by_place : (k : ℕ) (t : Bool) → cond t c.1 (m k) < 256
    by_place k true = h.0.1
    by_place k false = b k

-- each cell at the start, with the prologue's two words over the image's cells: the top at 6, and the end's offset below the top
module _ (p : Program) (low : 0x1000 ≤ p.top) (high : p.top ≤ 0xFF00) (offset : Place → Option ℕ) (last : ℕ) (last_is : offset Exit ≡ Some last) (cells : List (ℕ × ℕ)) (are : AreCells cells) (stands : (a : ℕ) (c : Cell) → cell_at p a ≡ Some c → (b : ℕ) × (byte_at cells a ≡ Some b) × Stands offset c b) (fill page : List ℕ) (bytes : (a : ℕ) → start_byte fill page a < 256) (last_small : last < 0x10000) where
  abbrev start : ℕ → ℕ
  start = put_cells (start_byte fill page) cells

  abbrev pub opened : ℕ → ℕ
  opened = put_word (put_word start 6 p.top) (back p.top 2) last

  pub opened_bytes : (a : ℕ) → opened a < 256
  opened_bytes = word_put (put_word start 6 p.top) (back p.top 2) last (word_put start 6 p.top (cells_bytes (start_byte fill page) cells are bytes) (omega (arith, high))) last_small

  module _ (a : ℕ) (fits : a < 0x10000) where
    abbrev S : Cell → Type 0
    S v = Stands offset v (opened a)

    top_bounds : (a ≢ p.top - 2) → (a ≢ p.top - 1) → opened a ≡ put_word start 6 p.top a
    top_bounds n2 n1 =
        let nl : a ≢ back p.top 2 = omega (arith, low, high, n2) in
        let nh : a ≢ wrap (back p.top 2 + 1) = omega (arith, low, high, n1) in
        put_word_past (put_word start 6 p.top) (back p.top 2) last a nl nh

    -- the push changes no cell below 100H
    below : a < 0x100 → opened a ≡ put_word start 6 p.top a
    below h = top_bounds (omega (arith, low, h)) (omega (arith, low, h))

    abbrev data_cell : Cell
    data_cell = cell_or_junk (cell_at p a)

    abbrev high_cell : Bool → Cell
    high_cell b = cond b (Hi Exit) data_cell

    abbrev low_cell : Bool → Cell
    low_cell b = cond b (Lo Exit) (high_cell (a == p.top - 1))

    abbrev page_cell : Bool → Cell
    page_cell b = cond b (Num (slice_index page (a - 0x5C))) (low_cell (a == p.top - 2))

    abbrev seventh_cell : Bool → Cell
    seventh_cell b = cond b (Num (p.top / 256)) (page_cell (nat_le 0x5C a && nat_lt a 0x100))

    abbrev sixth_cell : Bool → Cell
    sixth_cell b = cond b (Num (p.top % 256)) (seventh_cell (a == 7))

    by_data : (a == 6) ≡ false → (a == 7) ≡ false → (a == p.top - 2) ≡ false → (a == p.top - 1) ≡ false → (o : Option Cell) → cell_at p a ≡ o → S (cell_or_junk o)
    by_data n6 n7 n2 n1 None e = opened_bytes a
    by_data n6 n7 n2 n1 (Some c) e =
        let d = stands a c e in
        let m6 : a ≢ 6 = grind (arith, nat_tests, n6) in
        let m7 : a ≢ 7 = grind (arith, nat_tests, n7) in
        let m2 : a ≢ p.top - 2 = grind (arith, nat_tests, n2) in
        let m1 : a ≢ p.top - 1 = grind (arith, nat_tests, n1) in
        subst (λ n. Stands offset c n) (sym (top_bounds m2 m1 ∙ put_word_past start 6 p.top a m6 m7 ∙ put_at (start_byte fill page) cells a d.0 d.1)) d.2

    by_high : (a == 6) ≡ false → (a == 7) ≡ false → (a == p.top - 2) ≡ false → (b : Bool) → (a == p.top - 1) ≡ b → S (high_cell b)
    by_high n6 n7 n2 false h = by_data n6 n7 n2 h (cell_at p a) refl
    by_high n6 n7 n2 true h =
        let k : a ≡ p.top - 1 = grind (arith, nat_tests, h) in
        let e : a ≡ wrap (back p.top 2 + 1) = omega (arith, k, low, high) in
        let is : opened a ≡ last / 256 = subst (λ n. opened n ≡ last / 256) (sym e) (put_word_high (put_word start 6 p.top) (back p.top 2) last) in
        subst (λ o. Rattle.sym_block_def.specs.Stands.IsHalf (λ n. n / 256) o (opened a)) (sym last_is) is

    by_low : (a == 6) ≡ false → (a == 7) ≡ false → (b : Bool) → (a == p.top - 2) ≡ b → S (low_cell b)
    by_low n6 n7 false h = by_high n6 n7 h (a == p.top - 1) refl
    by_low n6 n7 true h =
        let k : a ≡ p.top - 2 = grind (arith, nat_tests, h) in
        let e : a ≡ back p.top 2 = omega (arith, k, low, high) in
        let is : opened a ≡ last % 256 = subst (λ n. opened n ≡ last % 256) (sym e) (put_word_low (put_word start 6 p.top) (back p.top 2) last (omega arith)) in
        subst (λ o. Rattle.sym_block_def.specs.Stands.IsHalf (λ n. n % 256) o (opened a)) (sym last_is) is

    by_page : (a == 6) ≡ false → (a == 7) ≡ false → (b : Bool) → (nat_le 0x5C a && nat_lt a 0x100) ≡ b → S (page_cell b)
    by_page n6 n7 false h = by_low n6 n7 (a == p.top - 2) refl
    by_page n6 n7 true h =
        let lt : a < 0x100 = grind (arith, nat_tests, h) in
        let m6 : a ≢ 6 = grind (arith, nat_tests, n6) in
        let m7 : a ≢ 7 = grind (arith, nat_tests, n7) in
        below lt
        ∙ put_word_past start 6 p.top a m6 m7
        ∙ put_past (start_byte fill page) cells a (none_low cells a are lt)
        ∙ ap (λ t. cond t (slice_index page (a - 0x5C)) (slice_index fill a)) h

    by_seven : (a == 6) ≡ false → (b : Bool) → (a == 7) ≡ b → S (seventh_cell b)
    by_seven n6 false h = by_page n6 h (nat_le 0x5C a && nat_lt a 0x100) refl
    by_seven n6 true h =
        let e : a ≡ 7 = grind (arith, nat_tests, h) in
        below (omega (arith, e)) ∙ subst (λ n. put_word start 6 p.top n ≡ p.top / 256) (sym e) (put_word_high start 6 p.top)

    by_six : (b : Bool) → (a == 6) ≡ b → S (sixth_cell b)
    by_six false h = by_seven h (a == 7) refl
    by_six true h =
        let e : a ≡ 6 = grind (arith, nat_tests, h) in
        below (omega (arith, e)) ∙ subst (λ n. put_word start 6 p.top n ≡ p.top % 256) (sym e) (put_word_low start 6 p.top (omega arith))

    pub start_stands : S (start_cell80 p page a)
    start_stands = by_six (a == 6) refl
