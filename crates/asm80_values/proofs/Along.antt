-- Along the second walk: what the items so far are, and what is left.
use Rattle.std.proofs.Common.{◌≡◌, ℕ, ◌&&◌, ◌||◌, Bool, true, false, cond, List, [], ◌∷◌, ◌++◌, map, filter, Option, Some, None, Ok, Err, refl, sym, ap, subst, ◌∙◌, append_assoc, append-nil}
use Rattle.std.specs.Option.{option_or, option_to_list}
use Rattle.std.proofs.Math.Path.{fun_ext}
use Rattle.asm80_types.specs.declared.stmt.Stmt80.{Stmt80}
use Rattle.asm80_types.specs.Tree.{statement_of}
use Rattle.base.specs.Addresses.{has_address, IsSetOf}
use Rattle.asm80_first_walk.specs.declared.walked.Taken.{Taken}
use Rattle.asm80_first_walk.specs.declared.walked.AsmFault.TheVariants.{Refused}
use Rattle.asm80_first_walk.specs.Walked.{IsRowOf as StandsForRow, Stand}
use Rattle.asm80_source_def.specs.declared.rule.AsmRule.{AsmRule}
use Rattle.asm80_source_def.specs.declared.meaning.Meaning.{Meaning}
use Rattle.asm80_source_def.specs.Names.{Name}
use Rattle.asm80_source_def.specs.Walk.{Walk, WalkRow, rows, walked, meaning_in, row_is_taken, row_operation}
use Rattle.asm80_source_def.specs.FirstFaults.{with_line, first_fault}
use Rattle.asm80_source_def.specs.Operands.{operand_scope, meaning_seen, rule_of_operands, second_rule, second_fault}
use Rattle.asm80_source_def.specs.Items.{Setting, setting, is_instruction_op, is_data_op, fills_cells, item_rows as rows_that_fill, starts_in, starts_at}
use Rattle.asm80_values.specs.declared.item.Item.{Item}
use Rattle.asm80_values.specs.Items.{IsItem, AreItems}
use Rattle.asm80_values.specs.Second.{taken_rows, seen_in, names_set, IsItemOf, GivesItem}
use Rattle.asm80_values.proofs.Chain.{Sees, sees_all}
use Rattle.asm80_values.proofs.SetAgain.{fixed}

abbrev pub AllTaken : List WalkRow → Type 0
AllTaken [] = Unit {0}
AllTaken (r ∷ rs) = (row_is_taken r ≡ true) × AllTaken rs

pub record Along (statements : List Stmt80) (rest : List Taken) (names : List Name) (found : List Item) : Type 0 where
  pub left : List WalkRow
  pub stand : Stand statements rest left
  pub taken : AllTaken left
  pub sees : Sees names (walked (map statement_of statements)) left
  pub fault : second_fault (walked (map statement_of statements)) (rows (map statement_of statements)) ≡ second_fault (walked (map statement_of statements)) left
  pub more : (is : List Item) → AreItems (rows (map statement_of statements)) (walked (map statement_of statements)) is (filter fills_cells left) → AreItems (rows (map statement_of statements)) (walked (map statement_of statements)) (found ++ is) (rows_that_fill (rows (map statement_of statements)))

-- ---- at the start

taken_by : (b : Bool) (r : WalkRow) (rs : List WalkRow) → row_is_taken r ≡ b → AllTaken rs → AllTaken (cond b (r ∷ rs) rs)
taken_by true r rs is h = (is, h)
taken_by false r rs is h = h

all_taken : (rs : List WalkRow) → AllTaken (filter row_is_taken rs)
all_taken [] = tt
all_taken (r ∷ rs) = taken_by (row_is_taken r) r (filter row_is_taken rs) refl (all_taken rs)

fault_by : (end : Walk) (r : WalkRow) (rs kept : List WalkRow) → second_fault end rs ≡ second_fault end kept → (b : Bool) → row_is_taken r ≡ b → second_fault end (r ∷ rs) ≡ second_fault end (cond b (r ∷ kept) kept)
fault_by end r rs kept rest true is = ap (option_or (with_line r.statement.line (second_rule end r))) rest
fault_by end r rs kept rest false is =
    let none : second_rule end r ≡ None = ap (λ b. cond b (rule_of_operands (operand_scope end r.before) r.statement.args (row_operation r)) None) is in
    ap (λ (o : Option AsmRule). option_or (with_line r.statement.line o) (second_fault end rs)) none ∙ rest

fault_taken : (end : Walk) (rs : List WalkRow) → second_fault end rs ≡ second_fault end (filter row_is_taken rs)
fault_taken end [] = refl
fault_taken end (r ∷ rs) = fault_by end r rs (filter row_is_taken rs) (fault_taken end rs) (row_is_taken r) refl

fills_by : (t a b : Bool) (r : WalkRow) (kept all : List WalkRow) → fills_cells r ≡ ((t && a) || (t && b)) → filter fills_cells kept ≡ all → filter fills_cells (cond t (r ∷ kept) kept) ≡ cond ((t && a) || (t && b)) (r ∷ all) all
fills_by false a b r kept all is rest = rest
fills_by true a b r kept all is rest = rw (is, rest) refl

fills_taken : (rs : List WalkRow) → filter fills_cells (filter row_is_taken rs) ≡ filter fills_cells rs
fills_taken [] = refl
fills_taken (r ∷ rs) = fills_by (row_is_taken r) (is_instruction_op (row_operation r)) (is_data_op (row_operation r)) r (filter row_is_taken rs) (filter fills_cells rs) refl (fills_taken rs)

pub along_start :
    (statements : List Stmt80) (ts : List Taken) → Stand statements ts (taken_rows statements) → first_fault (rows (map statement_of statements)) (walked (map statement_of statements)) ≡ None
    → Along statements ts (fixed (walked (map statement_of statements)).names) []
along_start statements ts stand accepted = record {
  left = taken_rows statements;
  stand = stand;
  taken = all_taken (rows (map statement_of statements));
  sees = sees_all (map statement_of statements) accepted;
  fault = fault_taken (walked (map statement_of statements)) (rows (map statement_of statements));
  more = λ is h.
      (let Of : List WalkRow → Type 0 = λ qs. AreItems (rows (map statement_of statements)) (walked (map statement_of statements)) is qs in
      subst Of (fills_taken (rows (map statement_of statements))) h);
}

-- ---- one row more

seen_same : (names : List Name) (flags : List Bool) (rs : List WalkRow) (end : Walk) (r : WalkRow) → ((t : List ℕ) → meaning_in names t ≡ meaning_seen end r.before t) → IsSetOf flags (starts_in rs) → seen_in names flags r ≡ setting rs end r
seen_same names flags rs end r see starts =
    let find : meaning_in names ≡ meaning_seen end r.before = fun_ext see in
    let start : has_address flags ≡ starts_at (starts_in rs) = fun_ext starts in
    ap (λ (f : List ℕ → Option Meaning). let t : Setting = record { scope = record { here = r.before.at; find = f }; is_start = has_address flags } in t) find
    ∙ ap (λ (f : ℕ → Bool). let t : Setting = record { scope = operand_scope end r.before; is_start = f } in t) start

given_same : (t u : Setting) (r : WalkRow) (o : Option Item) → t ≡ u → GivesItem t r (Ok o) → (rule_of_operands u.scope r.statement.args (row_operation r) ≡ None) × IsItemOf u r o
given_same t u r o same h =
    let Of : Setting → Type 0 = λ x. (rule_of_operands x.scope r.statement.args (row_operation r) ≡ None) × IsItemOf x r o in
    subst Of same h

refused_same : (t u : Setting) (r : WalkRow) (rule : AsmRule) → t ≡ u → rule_of_operands t.scope r.statement.args (row_operation r) ≡ Some rule → rule_of_operands u.scope r.statement.args (row_operation r) ≡ Some rule
refused_same t u r rule same h =
    let Of : Setting → Type 0 = λ x. rule_of_operands x.scope r.statement.args (row_operation r) ≡ Some rule in
    subst Of same h

-- the items of a row with the items of the rest
item_more :
    (rs : List WalkRow) (end : Walk) (found : List Item) (r : WalkRow) (left : List WalkRow) (o : Option Item) → row_is_taken r ≡ true → second_rule end r ≡ None → IsItemOf (setting rs end r) r o
    → ((is : List Item) → AreItems rs end is (filter fills_cells (r ∷ left)) → AreItems rs end (found ++ is) (rows_that_fill rs))
    → (is : List Item) → AreItems rs end is (filter fills_cells left) → AreItems rs end ((found ++ option_to_list o) ++ is) (rows_that_fill rs)
item_more rs end found r left None taken accepted item more is h =
    let none : fills_cells r ≡ false = rw (taken, item) refl in
    let Kept : List WalkRow → Type 0 = λ qs. AreItems rs end is qs in
    let Whole : List Item → Type 0 = λ xs. AreItems rs end (xs ++ is) (rows_that_fill rs) in
    subst Whole (sym (append-nil found)) (more is (subst Kept (sym (ap (λ b. cond b (r ∷ filter fills_cells left) (filter fills_cells left)) none)) h))
item_more rs end found r left (Some i) taken accepted item more is h =
    let some : fills_cells r ≡ true = ap (λ b. (b && is_instruction_op (row_operation r)) || (b && is_data_op (row_operation r))) taken ∙ item.0 in
    let mine : IsItem rs end i r = record { line = item.1.line; at = item.1.at; small = item.1.small; size = item.1.size; accepted = accepted; form = item.1.form } in
    let Kept : List WalkRow → Type 0 = λ qs. AreItems rs end (i ∷ is) qs in
    let Whole : List Item → Type 0 = λ xs. AreItems rs end xs (rows_that_fill rs) in
    subst Whole (sym (append_assoc found (i ∷ []) is)) (more (i ∷ is) (subst Kept (sym (ap (λ b. cond b (r ∷ filter fills_cells left) (filter fills_cells left)) some)) (mine, h)))

module _ (statements : List Stmt80) (t : Taken) (rest : List Taken) (names : List Name) (flags : List Bool) (starts : IsSetOf flags (starts_in (rows (map statement_of statements)))) where
  step_by :
      (left : List WalkRow) (found : List Item) (o : Option Item) (next : List Name) → Stand statements (t ∷ rest) left → AllTaken left → Sees names (walked (map statement_of statements)) left
      → second_fault (walked (map statement_of statements)) (rows (map statement_of statements)) ≡ second_fault (walked (map statement_of statements)) left
      → ((is : List Item) → AreItems (rows (map statement_of statements)) (walked (map statement_of statements)) is (filter fills_cells left) → AreItems (rows (map statement_of statements)) (walked (map statement_of statements)) (found ++ is) (rows_that_fill (rows (map statement_of statements))))
      → ((r : WalkRow) → StandsForRow statements t r → GivesItem (seen_in names flags r) r (Ok o)) → ((r : WalkRow) → StandsForRow statements t r → next ≡ names_set r names)
      → Along statements rest next (found ++ option_to_list o)
  step_by [] found o next stand taken sees fault more item set = absurd stand
  step_by (r ∷ left) found o next stand taken sees fault more item set =
      let same = seen_same names flags (rows (map statement_of statements)) (walked (map statement_of statements)) r sees.0 starts in
      let given = given_same (seen_in names flags r) (setting (rows (map statement_of statements)) (walked (map statement_of statements)) r) r o same (item r stand.0) in
      let accepted : second_rule (walked (map statement_of statements)) r ≡ None = ap (λ b. cond b (rule_of_operands (operand_scope (walked (map statement_of statements)) r.before) r.statement.args (row_operation r)) None) taken.0 ∙ given.0 in
      let Seeing : List Name → Type 0 = λ ns. Sees ns (walked (map statement_of statements)) left in
      record {
        left = left;
        stand = stand.1;
        taken = taken.1;
        sees = subst Seeing (sym (set r stand.0)) sees.1;
        fault = fault ∙ ap (λ (a : Option AsmRule). option_or (with_line r.statement.line a) (second_fault (walked (map statement_of statements)) left)) accepted;
        more = item_more (rows (map statement_of statements)) (walked (map statement_of statements)) found r left o taken.0 accepted given.1 more;
      }

  pub along_step :
      (found : List Item) (o : Option Item) (next : List Name) → Along statements (t ∷ rest) names found
      → ((r : WalkRow) → StandsForRow statements t r → GivesItem (seen_in names flags r) r (Ok o)) → ((r : WalkRow) → StandsForRow statements t r → next ≡ names_set r names)
      → Along statements rest next (found ++ option_to_list o)
  along_step found o next a item set = step_by a.left found o next a.stand a.taken a.sees a.fault a.more item set

  fault_at :
      (left : List WalkRow) (line : ℕ) (rule : AsmRule) → Stand statements (t ∷ rest) left → AllTaken left → Sees names (walked (map statement_of statements)) left
      → ((r : WalkRow) → StandsForRow statements t r → GivesItem (seen_in names flags r) r (Err (Refused line rule))) → second_fault (walked (map statement_of statements)) left ≡ Some (line, rule)
  fault_at [] line rule stand taken sees item = absurd stand
  fault_at (r ∷ left) line rule stand taken sees item =
      let same = seen_same names flags (rows (map statement_of statements)) (walked (map statement_of statements)) r sees.0 starts in
      let h : GivesItem (seen_in names flags r) r (Err (Refused line rule)) = item r stand.0 in
      let found : second_rule (walked (map statement_of statements)) r ≡ Some rule = ap (λ b. cond b (rule_of_operands (operand_scope (walked (map statement_of statements)) r.before) r.statement.args (row_operation r)) None) taken.0 ∙ refused_same (seen_in names flags r) (setting (rows (map statement_of statements)) (walked (map statement_of statements)) r) r rule same h.1 in
      ap (λ (a : Option AsmRule). option_or (with_line r.statement.line a) (second_fault (walked (map statement_of statements)) left)) found ∙ ap (λ (n : ℕ). Some (n, rule)) (sym h.0)

  pub along_fault :
      (found : List Item) (line : ℕ) (rule : AsmRule) → Along statements (t ∷ rest) names found
      → ((r : WalkRow) → StandsForRow statements t r → GivesItem (seen_in names flags r) r (Err (Refused line rule)))
      → second_fault (walked (map statement_of statements)) (rows (map statement_of statements)) ≡ Some (line, rule)
  along_fault found line rule a item = a.fault ∙ fault_at a.left line rule a.stand a.taken a.sees item
