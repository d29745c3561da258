-- What a lawful request brings: blocks of the lengths that its row says, and ranges of such lengths to write.
use Rattle.std.proofs.Common.{◌≡◌, ◌≢◌, ℕ, zero, suc, ◌≤◌, ◌==◌, ◌&&◌, ◌||◌, Bool, true, false, List, [], ◌∷◌, length, map, refl, sym, ap, ◌∙◌, inl, inr, arith}
use Rattle.std.specs.Prelude.{Option, Some, None, nat_le, slice_get, slice_index}
use Rattle.std.specs.List.{list_all, list_any}
use Rattle.std.proofs.lemmas.Bool.{leb-true, and_parts, or_cases, eqb-true, false≢true}
use Rattle.dialogue.specs.declared.blocks.Block.{Block}
use Rattle.dialogue.specs.declared.request.Range.{Range}
use Rattle.dialogue.specs.declared.request.Request.{Request}
use Rattle.dialogue.specs.declared.table.Extent.{Extent}
use Rattle.dialogue.specs.declared.table.Extent.TheVariants.{F, Dma, Text, Line}
use Rattle.dialogue.specs.Table.{Row, row_of}
use Rattle.dialogue.specs.Shape.{argument_address, ranges}
use Rattle.dialogue.specs.Lawful.{IsRangeOf, AreRangesOf, first_byte, range_of_block, IsLawfulRequest}
use Rattle.bdos_small.specs.Calls.{bytes_of_block, block_read, fcb_of, takes_fcb}

-- how many cells a range of the table has, where the call does not decide
abbrev pub cells_of : Extent → ℕ
cells_of (F i k) = k
cells_of Dma = 128
cells_of Text = 0
cells_of Line = 0

abbrev pub has_cells : Extent → Bool
has_cells (F i k) = true
has_cells Dma = true
has_cells Text = false
has_cells Line = false

-- the ranges of a list of extents
pub range_len : (de dma mx : ℕ) (x : Extent) (r : Range) → has_cells x ≡ true → IsRangeOf de dma mx x r → r.len ≡ cells_of x
range_len de dma mx (F i k) r e h = h.1
range_len de dma mx Dma r e h = h.1
range_len de dma mx Text r e h = cc
range_len de dma mx Line r e h = cc

pub range_lens : (de dma mx : ℕ) (xs : List Extent) (places : List (Option Range)) → list_all has_cells xs ≡ true → AreRangesOf de dma mx xs places → map (λ r. r.len) (ranges places) ≡ map cells_of xs
range_lens de dma mx [] places e h = ap (map (λ r. r.len)) h
range_lens de dma mx (x ∷ xs) [] e h = absurd h
range_lens de dma mx (x ∷ xs) (None ∷ places) e h = absurd h
range_lens de dma mx (x ∷ xs) (Some r ∷ places) e h =
    let each = and_parts (has_cells x) (list_all has_cells xs) e in
    ap (λ n. n ∷ map (λ r. r.len) (ranges places)) (range_len de dma mx x r each.0 h.0)
    ∙ ap (λ l. cells_of x ∷ l) (range_lens de dma mx xs places each.1 h.1)

-- the blocks that a request brings
block_lens : (bs : List Block) → map (λ b. length b.bytes) bs ≡ map (λ r. r.len) (map range_of_block bs)
block_lens [] = refl
block_lens (b ∷ bs) = ap (λ l. length b.bytes ∷ l) (block_lens bs)

block_len : (bs : List Block) (k : ℕ) → length (bytes_of_block (slice_get bs k)) ≡ slice_index (map (λ b. length b.bytes) bs) k
block_len [] k = refl
block_len (b ∷ bs) zero = refl
block_len (b ∷ bs) (suc k) = block_len bs k

-- of the row of a function
abbrev pub lens_in : (Row → List Extent) → Option Row → List ℕ
lens_in part None = []
lens_in part (Some row) = map cells_of (part row)

abbrev pub all_have_cells : Option Row → Bool
all_have_cells None = false
all_have_cells (Some row) = list_all has_cells row.reads && list_all has_cells row.writes

module _ (q : Request) (l : IsLawfulRequest q) (k : ℕ) (is : q.shape.function ≡ k) where
  row_is : row_of k ≡ Some l.row
  row_is = ap row_of (sym is) ∙ l.in_table

  parts : all_have_cells (row_of k) ≡ true → (list_all has_cells l.row.reads ≡ true) × (list_all has_cells l.row.writes ≡ true)
  parts e = and_parts (list_all has_cells l.row.reads) (list_all has_cells l.row.writes) (ap all_have_cells (sym row_is) ∙ e)

  pub read_len : (j : ℕ) → all_have_cells (row_of k) ≡ true → length (block_read j q) ≡ slice_index (lens_in (λ row. row.reads) (row_of k)) j
  read_len j e =
      block_len q.blocks j
      ∙ ap (λ ns. slice_index ns j) (block_lens q.blocks ∙ ap (map (λ r. r.len)) l.blocks ∙ range_lens (argument_address q.shape.arg) l.dma (first_byte q.blocks) l.row.reads q.shape.reads (parts e).0 l.reads)
      ∙ ap (λ o. slice_index (lens_in (λ row. row.reads) o) j) (sym row_is)

  pub write_lens : all_have_cells (row_of k) ≡ true → map (λ r. r.len) (ranges q.shape.writes) ≡ lens_in (λ row. row.writes) (row_of k)
  write_lens e =
      range_lens (argument_address q.shape.arg) l.dma (first_byte q.blocks) l.row.writes q.shape.writes (parts e).1 l.writes
      ∙ ap (lens_in (λ row. row.writes)) (sym row_is)

-- the functions that name a file by an FCB bring its first twelve bytes and more
has_fcb : ℕ → Bool
has_fcb k = all_have_cells (row_of k) && nat_le 12 (slice_index (lens_in (λ row. row.reads) (row_of k)) 0)

each_holds : (p : ℕ → Bool) (f : ℕ) (ks : List ℕ) → list_any (λ k. f == k) ks ≡ true → list_all p ks ≡ true → p f ≡ true
each_holds p f [] some all = cc
each_holds p f (k ∷ ks) some all =
    let each = and_parts (p k) (list_all p ks) all in
    elim (or_cases (f == k) (list_any (λ k. f == k) ks) some) [
      | inl e ↦ ap p (eqb-true f k e) ∙ each.0
      | inr e ↦ each_holds p f ks e each.1
    ]

pub fcb_long : (q : Request) → IsLawfulRequest q → takes_fcb q.shape.function ≡ true → 12 ≤ length (fcb_of q)
unfolding has_fcb row_of
fcb_long q l takes =
    let k = q.shape.function in
    let has : has_fcb k ≡ true = each_holds has_fcb k (15 ∷ (16 ∷ (17 ∷ (19 ∷ (20 ∷ (21 ∷ (22 ∷ (23 ∷ (33 ∷ (34 ∷ (35 ∷ []))))))))))) takes refl in
    let both : (all_have_cells (row_of k) ≡ true) × (nat_le 12 (slice_index (lens_in (λ row. row.reads) (row_of k)) 0) ≡ true) = and_parts (all_have_cells (row_of k)) (nat_le 12 (slice_index (lens_in (λ row. row.reads) (row_of k)) 0)) has in
    let long : 12 ≤ slice_index (lens_in (λ row. row.reads) (row_of k)) 0 = leb-true 12 (slice_index (lens_in (λ row. row.reads) (row_of k)) 0) both.1 in
    omega (arith, long, read_len q l k refl 0 both.0)

-- 21 and 34 bring a record, 23 a second name
pub record_21 : (q : Request) → IsLawfulRequest q → q.shape.function ≡ 21 → length (block_read 1 q) ≡ 128
unfolding row_of
record_21 q l is = read_len q l 21 is 1 refl

pub record_34 : (q : Request) → IsLawfulRequest q → q.shape.function ≡ 34 → length (block_read 2 q) ≡ 128
unfolding row_of
record_34 q l is = read_len q l 34 is 2 refl

pub name_23 : (q : Request) → IsLawfulRequest q → q.shape.function ≡ 23 → 12 ≤ length (block_read 1 q)
unfolding row_of
name_23 q l is = omega (arith, read_len q l 23 is 1 refl)

-- the last of them, where it is none of the others
skip : (f k : ℕ) (ks : List ℕ) → list_any (λ k. f == k) (k ∷ ks) ≡ true → f ≢ k → list_any (λ k. f == k) ks ≡ true
skip f k ks some other =
    elim (or_cases (f == k) (list_any (λ k. f == k) ks) some) [
      | inl e ↦ absurd (other (eqb-true f k e))
      | inr e ↦ e
    ]

pub size_is_last : (f : ℕ) → takes_fcb f ≡ true → f ≢ 15 → f ≢ 16 → f ≢ 17 → f ≢ 19 → f ≢ 20 → f ≢ 21 → f ≢ 22 → f ≢ 23 → f ≢ 33 → f ≢ 34 → f ≡ 35
size_is_last f takes a b c d e g h i j k =
    let from34 : List ℕ = 34 ∷ (35 ∷ []) in
    let from33 : List ℕ = 33 ∷ from34 in
    let from23 : List ℕ = 23 ∷ from33 in
    let from22 : List ℕ = 22 ∷ from23 in
    let from21 : List ℕ = 21 ∷ from22 in
    let from20 : List ℕ = 20 ∷ from21 in
    let from19 : List ℕ = 19 ∷ from20 in
    let from17 : List ℕ = 17 ∷ from19 in
    let after15 = skip f 15 (16 ∷ from17) takes a in
    let after17 = skip f 17 from19 (skip f 16 from17 after15 b) c in
    let after20 = skip f 20 from21 (skip f 19 from20 after17 d) e in
    let after22 = skip f 22 from23 (skip f 21 from22 after20 g) h in
    let after33 = skip f 33 from34 (skip f 23 from33 after22 i) j in
    let last : ((f == 35) || false) ≡ true = skip f 34 (35 ∷ []) after33 k in
    elim (or_cases (f == 35) false last) [ inl e ↦ eqb-true f 35 e | inr e ↦ absurd (false≢true e) ]
