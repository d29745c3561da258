-- Rows that break no rule one by one, where they do not overlap, are refused by none.
use Rattle.std.proofs.Common.{◌≡◌, ℕ, zero, suc, ◌+◌, ◌-◌, ◌%◌, ◌==◌, ◌<◌, ◌≤◌, ◌||◌, Bool, true, false, cond, List, [], ◌∷◌, ◌++◌, Some, None, refl, ap, ap₂, ◌∙◌, arith, rules}
use Rattle.std.specs.Option.{option_or}
use Rattle.std.specs.List.{list_any, find, AllByRecursion}
use Rattle.std.proofs.lemmas.Bool.{le-leb}
use Rattle.std.proofs.lemmas.Bool.Decides.{nat_tests}
use Rattle.std.proofs.lemmas.List.Folds.{list_any-append}
use Rattle.asm80_types.specs.Tree.{Statement}
use Rattle.asm80_source_def.specs.declared.rule.AsmRule.{AsmRule}
use Rattle.asm80_source_def.specs.declared.rule.AsmRule.TheVariants.{S1, S2, S4, S5, S6, S7}
use Rattle.asm80_source_def.specs.Walk.{Walk, WalkRow, size_of_statement, rows, walked}
use Rattle.asm80_source_def.specs.FirstFaults.{rule_of_row, with_line, first_fault}
use Rattle.asm80_source_def.specs.Operands.{second_rule, second_fault}
use Rattle.asm80_source_def.specs.Items.{fills_cells, item_rows, address, starts_in, starts_at}
use Rattle.asm80_source_def.specs.Layout.{counted_from, cells_of, is_filled, first_overlap, is_outside, stands_outside, refused_at, first_with, is_foreign, has_operand, misses, computes, loads_code, layout_fault}
use Rattle.asm80_source_def.specs.Assembly.{refusal}

-- a row breaks no rule by itself
pub record Fine (rs : List WalkRow) (end : Walk) (r : WalkRow) : Type 0 where
  pub first : (later : List WalkRow) (e : Walk) → rule_of_row r later e ≡ None
  pub second : second_rule end r ≡ None
  pub native : is_foreign rs end r ≡ false
  pub hits : has_operand rs end misses r ≡ false
  pub whole : has_operand rs end computes r ≡ false
  pub cells : has_operand rs end loads_code r ≡ false

-- rows of statements that fill cells one after the other, from a place up and below a limit; the rest may stand anywhere
pub data AreSpaced : ℕ → ℕ → List WalkRow → Type 0 where
  none : {from limit : ℕ} → AreSpaced from limit []
  more : {from limit n : ℕ} {r : WalkRow} {rs : List WalkRow} → from ≤ address r → size_of_statement r.statement ≡ n → address r + n ≤ limit → AreSpaced (address r + n) limit rs → AreSpaced from limit (r ∷ rs)
  past : {from limit : ℕ} {r : WalkRow} {rs : List WalkRow} → fills_cells r ≡ false → AreSpaced from limit rs → AreSpaced from limit (r ∷ rs)

-- ---- the rows one by one

kept_none : (test : WalkRow → Bool) (b : Bool) (r : WalkRow) (rs : List WalkRow) → test r ≡ false → find test rs ≡ None → find test (cond b (r ∷ rs) rs) ≡ None
kept_none test true r rs fails rest = ap₂ (λ t o. cond t (Some r) o) fails rest
kept_none test false r rs fails rest = rest

module _ (rs : List WalkRow) (end : Walk) where
  abbrev pub AreFine : List WalkRow → Type 0
  AreFine xs = AllByRecursion (Fine rs end) xs

  first_none : (xs : List WalkRow) (e : Walk) → AreFine xs → first_fault xs e ≡ None
  first_none [] e h = refl
  first_none (r ∷ xs) e h = ap₂ (λ o f. option_or (with_line r.statement.line o) f) (h.0.first xs e) (first_none xs e h.1)

  second_none : (xs : List WalkRow) → AreFine xs → second_fault end xs ≡ None
  second_none [] h = refl
  second_none (r ∷ xs) h = ap₂ (λ o f. option_or (with_line r.statement.line o) f) h.0.second (second_none xs h.1)

  -- no row is found by a test that fine rows fail
  none_with : (test : WalkRow → Bool) (rule : AsmRule) → ((r : WalkRow) → Fine rs end r → test r ≡ false) → (xs : List WalkRow) → AreFine xs → first_with test rule (item_rows xs) ≡ None
  none_with test rule fails xs h = ap (refused_at rule) (none_found xs h)
    where
      none_found : (ys : List WalkRow) → AreFine ys → find test (item_rows ys) ≡ None
      none_found [] k = refl
      none_found (r ∷ ys) k = kept_none test (fills_cells r) r (item_rows ys) (fails r k.0) (none_found ys k.1)

-- ---- cells

-- no address from a place up is among the filled
abbrev IsBelow : List ℕ → ℕ → Type 0
IsBelow filled from = (a : ℕ) → from ≤ a → is_filled filled a ≡ false

low : (a : ℕ) → a < 0x10000 → a % 0x10000 ≡ a
low a less = omega arith

either_false : (x y : Bool) → x ≡ false → y ≡ false → (x || y) ≡ false
either_false x y p q = rw (p, q) refl

apart : (a b : ℕ) → a < b → (a == b) ≡ false
apart a b less = search (rules, nat_tests)

counted_free : (filled : List ℕ) (from a n : ℕ) → IsBelow filled from → from ≤ a → a + n ≤ 0x10000 → list_any (is_filled filled) (counted_from a n) ≡ false
counted_free filled from a zero below le fits = refl
counted_free filled from a (suc n) below le fits =
    either_false (is_filled filled (a % 0x10000)) _ (ap (is_filled filled) (low a (omega arith)) ∙ below a le) (counted_free filled from (a + 1) n below (omega arith) (omega arith))

counted_below : (a n b : ℕ) → a + n ≤ b → a + n ≤ 0x10000 → is_filled (counted_from a n) b ≡ false
counted_below a zero b le fits = refl
counted_below a (suc n) b le fits =
    either_false (a % 0x10000 == b) _ (ap (λ x. x == b) (low a (omega arith)) ∙ apart a b (omega arith)) (counted_below (a + 1) n b (omega arith) (omega arith))

filled_below : (filled : List ℕ) (from a n : ℕ) → IsBelow filled from → from ≤ a → a + n ≤ 0x10000 → IsBelow (counted_from a n ++ filled) (a + n)
filled_below filled from a n below le fits b behind =
    list_any-append (λ x. x == b) (counted_from a n) filled ∙ either_false _ _ (counted_below a n b behind fits) (below b (omega arith))

inside_is : (top a : ℕ) → 0x100 ≤ a → a < top - 2 → is_outside top a ≡ false
inside_is top a above less = rw (le-leb 0x100 a above, le-leb (suc a) (top - 2) less) refl

counted_inside : (top a n : ℕ) → 0x100 ≤ a → a + n ≤ top - 2 → top ≤ 0x10000 → list_any (is_outside top) (counted_from a n) ≡ false
counted_inside top a zero above below fits = refl
counted_inside top a (suc n) above below fits =
    either_false (is_outside top (a % 0x10000)) _ (ap (is_outside top) (low a (omega arith)) ∙ inside_is top a above (omega arith)) (counted_inside top (a + 1) n (omega arith) (omega arith) fits)

overlap_by : (b : Bool) (r : WalkRow) (filled : List ℕ) (xs : List WalkRow) → list_any (is_filled filled) (cells_of r) ≡ false → first_overlap filled xs ≡ None → first_overlap (cells_of r ++ filled) xs ≡ None → first_overlap filled (cond b (r ∷ xs) xs) ≡ None
overlap_by false r filled xs free without within = without
overlap_by true r filled xs free without within = ap₂ (λ t o. cond t (Some r) o) free within

skipped : (b : Bool) (r : WalkRow) (xs : List WalkRow) → b ≡ false → cond b (r ∷ xs) xs ≡ xs
skipped b r xs e = rw e refl

no_overlap : {from limit : ℕ} {xs : List WalkRow} (filled : List ℕ) → AreSpaced from limit xs → limit ≤ 0x10000 → IsBelow filled from → first_overlap filled (item_rows xs) ≡ None
no_overlap filled none fits below = refl
no_overlap filled (past {r = r} {rs = rs} not_filled h) fits below = ap (first_overlap filled) (skipped (fills_cells r) r (item_rows rs) not_filled) ∙ no_overlap filled h fits below
no_overlap {from} filled (more {n = n} {r = r} {rs = rs} le is_size ends_below h) fits below =
    let a = address r in
    let cells : cells_of r ≡ counted_from a n = ap (counted_from a) is_size in
    let free : list_any (is_filled filled) (cells_of r) ≡ false = ap (list_any (is_filled filled)) cells ∙ counted_free filled from a n below le (omega arith) in
    let without = no_overlap filled h fits (λ b behind. below b (omega arith)) in
    let within = no_overlap (counted_from a n ++ filled) h fits (filled_below filled from a n below le (omega arith)) in
    overlap_by (fills_cells r) r filled (item_rows rs) free without (ap (λ (c : List ℕ). first_overlap (c ++ filled) (item_rows rs)) cells ∙ within)

no_row_outside : {from limit : ℕ} {xs : List WalkRow} (top : ℕ) → AreSpaced from limit xs → 0x100 ≤ from → limit ≤ top - 2 → top ≤ 0x10000 → find (stands_outside top) (item_rows xs) ≡ None
no_row_outside top none above below fits = refl
no_row_outside top (past {r = r} {rs = rs} not_filled h) above below fits = ap (find (stands_outside top)) (skipped (fills_cells r) r (item_rows rs) not_filled) ∙ no_row_outside top h above below fits
no_row_outside top (more {n = n} {r = r} {rs = rs} le is_size ends_below h) above below fits =
    let inside : stands_outside top r ≡ false = ap (λ k. list_any (is_outside top) (counted_from (address r) k)) is_size ∙ counted_inside top (address r) n (omega arith) (omega arith) fits in
    kept_none (stands_outside top) (fills_cells r) r (item_rows rs) inside (no_row_outside top h (omega arith) below fits)

-- ---- all together

module _ (rs : List WalkRow) (end : Walk) (top : ℕ) (fine : AreFine rs end rs) (first : starts_at (starts_in rs) 0x100 ≡ true) (spaced : AreSpaced 0x100 (top - 2) rs) (fits : top ≤ 0x10000) where
  no_layout_fault : layout_fault rs end top ≡ None
  no_layout_fault =
      let overlap : refused_at S6 (first_overlap [] (item_rows rs)) ≡ None = ap (refused_at S6) (no_overlap [] spaced (omega arith) (λ a behind. refl)) in
      let outside : first_with (stands_outside top) S7 (item_rows rs) ≡ None = ap (refused_at S7) (no_row_outside top spaced (omega arith) (omega arith) fits) in
      let native : first_with (is_foreign rs end) S1 (item_rows rs) ≡ None = none_with rs end (is_foreign rs end) S1 (λ r h. h.native) rs fine in
      let hits : first_with (has_operand rs end misses) S2 (item_rows rs) ≡ None = none_with rs end (has_operand rs end misses) S2 (λ r h. h.hits) rs fine in
      let whole : first_with (has_operand rs end computes) S4 (item_rows rs) ≡ None = none_with rs end (has_operand rs end computes) S4 (λ r h. h.whole) rs fine in
      let cells : first_with (has_operand rs end loads_code) S5 (item_rows rs) ≡ None = none_with rs end (has_operand rs end loads_code) S5 (λ r h. h.cells) rs fine in
      rw (first, overlap, outside, native, hits, whole, cells) refl

  pub is_accepted : (ss : List Statement) → rows ss ≡ rs → walked ss ≡ end → refusal ss top ≡ None
  is_accepted ss of_rows of_walk =
      ap₂ (λ (xs : List WalkRow) (w : Walk). option_or (first_fault xs w) (option_or (second_fault w xs) (layout_fault xs w top))) of_rows of_walk
      ∙ rw (first_none rs end rs end fine, second_none rs end rs fine, no_layout_fault) refl
