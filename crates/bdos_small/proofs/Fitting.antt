-- Replies that fit.
use Rattle.std.proofs.Common.{◌≡◌, ℕ, ◌==◌, ◌&&◌, Bool, true, false, cond, List, [], ◌∷◌, length, refl, sym, ap, ◌∙◌, subst}
use Rattle.std.specs.Prelude.{Option, Some, None, drop}
use Rattle.std.proofs.lemmas.Bool.{eq-eqb, eqb-true, and_from, and_parts, false≢true}
use Rattle.dialogue.specs.declared.blocks.Block.{Block}
use Rattle.dialogue.specs.declared.request.Range.{Range}
use Rattle.dialogue.specs.declared.request.Request.{Request}
use Rattle.dialogue.specs.declared.request.Reply.{Reply}
use Rattle.dialogue.specs.declared.request.ArgWord.{ArgWord}
use Rattle.dialogue.specs.declared.table.AnswerRule.{AnswerRule}
use Rattle.dialogue.specs.declared.table.AnswerRule.TheVariants.{Always, ByteWhere}
use Rattle.dialogue.specs.declared.table.Extent.{Extent}
use Rattle.dialogue.specs.Table.{Row, row_of}
use Rattle.dialogue.specs.Shape.{argument_address, ranges}
use Rattle.dialogue.specs.Fits.{kind_by, answer_fits, fills_range, fits_row, fits, writes_fit, line_fits}
use Rattle.dialogue.specs.Lawful.{AreRangesOf, first_byte, IsLawfulRequest}
use Rattle.bdos_small.specs.Console.{place_in}
use Rattle.bdos_small.specs.Calls.{telling, reply_writing, writing_both}
use Rattle.bdos_small.proofs.Lawful.{has_cells, cells_of, range_len}

-- blocks that fill ranges, one after another, are fit
fills_place : (r : Range) (at : ℕ) (bytes : List ℕ) → at ≡ r.at → length bytes ≡ r.len → fills_range r (record { at = at; bytes = bytes }) ≡ true
fills_place r at bytes e f = and_from (at == r.at) (length bytes == r.len) (eq-eqb at r.at e) (eq-eqb (length bytes) r.len f)

-- the first range of a list, and the first two
one_by : (de dma mx : ℕ) (x : Extent) (xs : List Extent) (places : List (Option Range)) (bytes : List ℕ) → has_cells x ≡ true → cells_of x ≡ length bytes → AreRangesOf de dma mx (x ∷ xs) places → writes_fit (ranges places) (record { at = place_in places; bytes = bytes } ∷ []) ≡ true
one_by de dma mx x xs [] bytes has long h = absurd h
one_by de dma mx x xs (None ∷ places) bytes has long h = absurd h
one_by de dma mx x xs (Some r ∷ places) bytes has long h =
    let b : Block = record { at = r.at; bytes = bytes } in
    ap (λ t. cond t true (writes_fit (ranges places) (b ∷ []))) (fills_place r r.at bytes refl (sym (range_len de dma mx x r has h.0 ∙ long)))

two_by : (de dma mx : ℕ) (x y : Extent) (xs : List Extent) (places : List (Option Range)) (bytes others : List ℕ) → has_cells x ≡ true → has_cells y ≡ true → cells_of x ≡ length bytes → cells_of y ≡ length others → AreRangesOf de dma mx (x ∷ (y ∷ xs)) places → writes_fit (ranges places) (record { at = place_in places; bytes = bytes } ∷ (record { at = place_in (drop 1 places); bytes = others } ∷ [])) ≡ true
two_by de dma mx x y xs [] bytes others has also long too h = absurd h
two_by de dma mx x y xs (None ∷ places) bytes others has also long too h = absurd h
two_by de dma mx x y xs (Some r ∷ places) bytes others has also long too h =
    let b : Block = record { at = r.at; bytes = bytes } in
    let c : Block = record { at = place_in places; bytes = others } in
    ap (λ t. cond t (writes_fit (ranges places) (c ∷ [])) (writes_fit (ranges places) (b ∷ (c ∷ [])))) (fills_place r r.at bytes refl (sym (range_len de dma mx x r has h.0 ∙ long)))
    ∙ one_by de dma mx y xs places others also too h.1

-- what the row of a function answers, and the ranges that it may write
abbrev pub answers_by : AnswerRule → ℕ → Bool
answers_by (Always kind) n = answer_fits kind n
answers_by (ByteWhere asked) n = false

abbrev pub answers : Option Row → ℕ → Bool
answers None n = false
answers (Some row) n = answers_by row.answer n

abbrev pub may_write : List Extent → List ℕ → Bool
may_write xs [] = true
may_write [] (n ∷ ns) = false
may_write (x ∷ xs) (n ∷ ns) = (has_cells x && (cells_of x == n)) && may_write xs ns

abbrev pub writes_by : Option Row → List ℕ → Bool
writes_by None ns = false
writes_by (Some row) ns = may_write row.writes ns

answer_by : (rule : AnswerRule) (arg : ArgWord) (n : ℕ) → answers_by rule n ≡ true → answer_fits (kind_by rule arg) n ≡ true
answer_by (Always kind) arg n e = e
answer_by (ByteWhere asked) arg n e = cc

module _ (q : Request) (l : IsLawfulRequest q) (k : ℕ) (is : q.shape.function ≡ k) (other : (k == 10) ≡ false) where
  in_row : row_of k ≡ Some l.row
  in_row = ap row_of (sym is) ∙ l.in_table

  reply_fits : (y : Reply) → answers (row_of k) y.answer ≡ true → writes_fit (ranges q.shape.writes) y.writes ≡ true → fits q y ≡ true
  reply_fits y answer writes =
      let kind = kind_by l.row.answer q.shape.arg in
      let told = answer_by l.row.answer q.shape.arg y.answer (ap (λ o. answers o y.answer) (sym in_row) ∙ answer) in
      ap (λ o. fits_row o q y) l.in_table
      ∙ ap (λ t. answer_fits kind y.answer && cond t (line_fits (ranges q.shape.writes) y.writes) (writes_fit (ranges q.shape.writes) y.writes)) (ap (λ f. f == 10) is ∙ other)
      ∙ and_from (answer_fits kind y.answer) (writes_fit (ranges q.shape.writes) y.writes) told writes

  pub telling_fits : (n : ℕ) → answers (row_of k) n ≡ true → fits q (telling n) ≡ true
  telling_fits n answer = reply_fits (telling n) answer refl

  writing_by : (n : ℕ) (bytes : List ℕ) (xs : List Extent) → l.row.writes ≡ xs → may_write xs (length bytes ∷ []) ≡ true → writes_fit (ranges q.shape.writes) (reply_writing q n bytes).writes ≡ true
  writing_by n bytes [] e may = cc
  writing_by n bytes (x ∷ xs) e may =
      let here = and_parts (has_cells x && (cells_of x == length bytes)) true may in
      let fact = and_parts (has_cells x) (cells_of x == length bytes) here.0 in
      one_by (argument_address q.shape.arg) l.dma (first_byte q.blocks) x xs q.shape.writes bytes fact.0 (eqb-true (cells_of x) (length bytes) fact.1)
      (subst (λ ys. AreRangesOf (argument_address q.shape.arg) l.dma (first_byte q.blocks) ys q.shape.writes) e l.writes)

  pub writing_fits : (n : ℕ) (bytes : List ℕ) → answers (row_of k) n ≡ true → writes_by (row_of k) (length bytes ∷ []) ≡ true → fits q (reply_writing q n bytes) ≡ true
  writing_fits n bytes answer may =
      reply_fits (reply_writing q n bytes) answer (writing_by n bytes l.row.writes refl (ap (λ o. writes_by o (length bytes ∷ [])) (sym in_row) ∙ may))

  both_by : (n : ℕ) (bytes others : List ℕ) (xs : List Extent) → l.row.writes ≡ xs → may_write xs (length bytes ∷ (length others ∷ [])) ≡ true → writes_fit (ranges q.shape.writes) (writing_both q n bytes others).writes ≡ true
  both_by n bytes others [] e may = cc
  both_by n bytes others (x ∷ []) e may =
      let here = and_parts (has_cells x && (cells_of x == length bytes)) false may in
      absurd (false≢true here.1)
  both_by n bytes others (x ∷ (y ∷ xs)) e may =
      let here = and_parts (has_cells x && (cells_of x == length bytes)) ((has_cells y && (cells_of y == length others)) && true) may in
      let there = and_parts (has_cells y && (cells_of y == length others)) true here.1 in
      let fact = and_parts (has_cells x) (cells_of x == length bytes) here.0 in
      let also = and_parts (has_cells y) (cells_of y == length others) there.0 in
      two_by (argument_address q.shape.arg) l.dma (first_byte q.blocks) x y xs q.shape.writes bytes others fact.0 also.0 (eqb-true (cells_of x) (length bytes) fact.1) (eqb-true (cells_of y) (length others) also.1)
      (subst (λ ys. AreRangesOf (argument_address q.shape.arg) l.dma (first_byte q.blocks) ys q.shape.writes) e l.writes)

  pub both_fit : (n : ℕ) (bytes others : List ℕ) → answers (row_of k) n ≡ true → writes_by (row_of k) (length bytes ∷ (length others ∷ [])) ≡ true → fits q (writing_both q n bytes others) ≡ true
  both_fit n bytes others answer may =
      reply_fits (writing_both q n bytes others) answer (both_by n bytes others l.row.writes refl (ap (λ o. writes_by o (length bytes ∷ (length others ∷ []))) (sym in_row) ∙ may))
