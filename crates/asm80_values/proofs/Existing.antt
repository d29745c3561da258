-- The items of statements that break no rule, and the program that they are.
use Rattle.std.proofs.Common.{◌≡◌, ℕ, zero, suc, ◌+◌, ◌-◌, ◌%◌, ◌^◌, ◌<◌, ◌≤◌, ◌⊎◌, inl, inr, ◌&&◌, ◌||◌, Bool, true, false, cond, find, List, [], ◌∷◌, length, Option, Some, None, refl, sym, ap, ◌∙◌, arith}
use Rattle.std.specs.List.{list_any, filter_map, flat_map, AllByRecursion}
use Rattle.std.specs.Option.{option_or}
use Rattle.std.proofs.lemmas.Bool.{cases_lt, or_parts}
use Rattle.std.proofs.lemmas.Bool.Decides.{nat_tests}
use Rattle.std.proofs.lemmas.Option.{none-some}
use Rattle.cells.specs.declared.Cell.{Cell}
use Rattle.cells.proofs.Options.{if_none}
use Rattle.asm80_types.specs.declared.program.Placed.{Placed}
use Rattle.asm80_types.specs.Program.{Program, program_of, is_top}
use Rattle.asm80_types.specs.Tree.{Statement}
use Rattle.asm80_source_def.specs.declared.operation.Operation.{Operation}
use Rattle.asm80_source_def.specs.declared.rule.AsmRule.{AsmRule}
use Rattle.asm80_source_def.specs.declared.rule.AsmRule.TheVariants.{S3, S6, S7}
use Rattle.asm80_source_def.specs.Walk.{Walk, WalkRow, at_start, size_by as size_in, size_of_statement, row_is_taken, row_operation, rows, walked}
use Rattle.asm80_source_def.specs.FirstFaults.{with_line, first_fault}
use Rattle.asm80_source_def.specs.Operands.{second_rule, second_fault}
use Rattle.asm80_source_def.specs.Items.{Setting, setting, item_rows, address, starts_in, starts_at, fills_cells, is_instruction_op, is_data_op, data_by}
use Rattle.asm80_source_def.specs.Layout.{counted_from, is_outside, stands_outside, refused_at, first_overlap, first_with, layout_fault}
use Rattle.asm80_source_def.specs.Assembly.{refusal, IsAssembled}
use Rattle.asm80_values.specs.declared.item.Item.{Item}
use Rattle.asm80_values.specs.Items.{IsItem, AreItems}
use Rattle.asm80_values.specs.Programs.{placed_item, data_item}
use Rattle.asm80_values.proofs.Sizes.{data_size}
use Rattle.asm80_values.proofs.Sound.{are_sound}
use Rattle.asm80_values.proofs.Chain.{or_none, line_none}
use Rattle.asm80_values.proofs.Held.{lawful, held}
use Rattle.asm80_values.proofs.Placing.{program_laid}
use Rattle.asm80_types.specs.Ranges.{AreInRange}
use Rattle.asm80_values.proofs.InOrder.{has_order}
use Rattle.asm80_values.proofs.Walked.{IsWordWalk, IsWordRow, rows_word, walk_word, start_word, operands_see}
use Rattle.asm80_values.proofs.Forms.{has_form}

-- ---- of answers

no_row : (rule : AsmRule) (o : Option WalkRow) → refused_at rule o ≡ None → o ≡ None
no_row rule None h = refl
no_row rule (Some r) h = absurd (none-some (r.statement.line, rule) (sym h))

-- ---- a statement whose cells are inside the area has fewer than 65,536

each_inside : (top at n k : ℕ) → list_any (is_outside top) (counted_from at n) ≡ false → k < n → is_outside top ((at + k) % 0x10000) ≡ false
each_inside top at zero k h less = absurd (omega arith)
each_inside top at (suc n) zero h less =
    let same : (at + 0) % 0x10000 ≡ at % 0x10000 = omega arith in
    ap (is_outside top) same ∙ (or_parts (is_outside top (at % 0x10000)) (list_any (is_outside top) (counted_from (at + 1) n)) h).0
each_inside top at (suc n) (suc k) h less =
    let same : (at + suc k) % 0x10000 ≡ (at + 1 + k) % 0x10000 = omega arith in
    ap (is_outside top) same ∙ each_inside top (at + 1) n k (or_parts (is_outside top (at % 0x10000)) (list_any (is_outside top) (counted_from (at + 1) n)) h).1 (omega arith)

size_by : (top at n : ℕ) → at < 0x10000 → list_any (is_outside top) (counted_from at n) ≡ false → ((n < 0x10000) ⊎ (0x10000 ≤ n)) → n < 0x10000
size_by top at n small h (inl less) = less
size_by top at n small h (inr large) =
    let k = (0x10000 - at) % 0x10000 in
    let zero_there : (at + k) % 0x10000 ≡ 0 = omega arith in
    let inside : is_outside top ((at + k) % 0x10000) ≡ false = each_inside top at n k h (omega arith) in
    let outside : true ≡ false = ap (is_outside top) (sym zero_there) ∙ inside in
    absurd cc

row_size : (top : ℕ) (r : WalkRow) → address r < 0x10000 → stands_outside top r ≡ false → size_of_statement r.statement < 0x10000
row_size top r small h = size_by top (address r) (size_of_statement r.statement) small h (cases_lt (size_of_statement r.statement) 0x10000)

-- ---- items

filled_by : (t x y : Bool) → ((t && x) || (t && y)) ≡ true → (x || y) ≡ true
filled_by true x y h = h
filled_by false x y h = absurd cc

few_cells : (t : Setting) (s : Statement) (o : Option Operation) → is_data_op o ≡ true → size_in s o < 0x10000 → length (data_by t s.args o) < 2 ^ 63
few_cells t s None is small = absurd cc
few_cells t s (Some o) is small = omega (arith, data_size t s o is)

module _ (rs : List WalkRow) (end : Walk) (top : ℕ) (end_word : IsWordWalk end) where
  -- a row that the second walk accepts
  pub record IsReady (r : WalkRow) : Type 0 where
    pub word : IsWordRow r
    pub accepted : second_rule end r ≡ None

  row_item : (r : WalkRow) → IsReady r → fills_cells r ≡ true → stands_outside top r ≡ false → (i : Item) × IsItem rs end i r
  row_item r ready fills inside =
      let t = setting rs end r in
      let size : size_of_statement r.statement < 0x10000 = row_size top r ready.word.before.at inside in
      let o = row_operation r in
      let filled : (is_instruction_op o || is_data_op o) ≡ true = filled_by (row_is_taken r) (is_instruction_op o) (is_data_op o) fills in
      let f = has_form t (operands_see end r.before end_word ready.word.before) o r.statement.args ready.word.operands filled (λ d. few_cells t r.statement o d size) in
      (record { line = r.statement.line; at = address r; size = size_of_statement r.statement; form = f.0 }, record { line = refl; at = refl; small = ready.word.before.at; size = refl; accepted = ready.accepted; form = f.1 })

  pub are_made : (xs : List WalkRow) → AllByRecursion IsReady xs → find (stands_outside top) (item_rows xs) ≡ None → (is : List Item) × AreItems rs end is (item_rows xs)
  are_made [] h inside = ([], tt)
  are_made (r ∷ xs) h inside = by (fills_cells r) refl inside (are_made xs h.1)
    where
      by : (b : Bool) → fills_cells r ≡ b → find (stands_outside top) (cond b (r ∷ item_rows xs) (item_rows xs)) ≡ None
          → (find (stands_outside top) (item_rows xs) ≡ None → (is : List Item) × AreItems rs end is (item_rows xs)) → (is : List Item) × AreItems rs end is (cond b (r ∷ item_rows xs) (item_rows xs))
      by true fills none later =
          let split = if_none (stands_outside top r) r (find (stands_outside top) (item_rows xs)) none in
          let here = row_item r h.0 fills split.0 in
          let rest = later split.1 in
          (here.0 ∷ rest.0, (here.1, rest.1))
      by false fills none later = later none

  pub are_ready : (xs : List WalkRow) → AllByRecursion IsWordRow xs → second_fault end xs ≡ None → AllByRecursion IsReady xs
  are_ready [] h none = tt
  are_ready (r ∷ xs) h none =
      let split = or_none (with_line r.statement.line (second_rule end r)) (second_fault end xs) none in
      (record { word = h.0; accepted = line_none r.statement.line (second_rule end r) split.0 }, are_ready xs h.1 split.1)

-- ---- the program

top_below : (top : ℕ) → is_top top ≡ true → top < 0x10000
top_below top h = grind (arith, nat_tests)

all_inside : (rs : List WalkRow) (end : Walk) (top : ℕ) → layout_fault rs end top ≡ None → find (stands_outside top) (item_rows rs) ≡ None
all_inside rs end top h =
    let behind_start = or_none (cond (starts_at (starts_in rs) 0x100) None (Some (0, S3))) _ h in
    let behind_overlaps = or_none (refused_at S6 (first_overlap [] (item_rows rs))) _ behind_start.1 in
    no_row S7 (find (stands_outside top) (item_rows rs)) (or_none (first_with (stands_outside top) S7 (item_rows rs)) _ behind_overlaps.1).0

pub program_exists : (ss : List Statement) (top : ℕ) → AreInRange ss → is_top top ≡ true → refusal ss top ≡ None → (p : Program) × IsAssembled ss top p
program_exists ss top range allowed none =
    let rs = rows ss in
    let end = walked ss in
    let walks = or_none (first_fault rs end) (option_or (second_fault end rs) (layout_fault rs end top)) none in
    let later = or_none (second_fault end rs) (layout_fault rs end top) walks.1 in
    let end_word = walk_word at_start ss start_word range in
    let ready = are_ready rs end top end_word rs (rows_word at_start ss start_word range) later.0 in
    let made = are_made rs end top end_word rs ready (all_inside rs end top later.1) in
    let law = lawful rs end made.0 top allowed (top_below top allowed) made.1 later.1 (are_sound rs end made.0 made.1) in
    let instrs = has_order (λ (x : Placed). x.at) (filter_map placed_item made.0) in
    let cells = has_order (λ (c : ℕ × Cell). c.0) (flat_map data_item made.0) in
    let p = program_of instrs.0 cells.0 top in
    let is = program_laid top made.0 instrs.0 cells.0 law instrs.1 instrs.2 cells.1 cells.2 in
    (p, record { accepted = none; program = held rs end made.0 top p made.1 is refl instrs.1 cells.1 })
