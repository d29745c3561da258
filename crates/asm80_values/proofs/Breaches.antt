-- The rules of the layout by items are those by rows.
use Rattle.std.proofs.Common.{◌≡◌, ℕ, zero, suc, ◌-◌, ◌<◌, nat_lt, ◌&&◌, ◌||◌, Bool, true, false, cond, find, List, [], ◌∷◌, ◌++◌, Option, Some, None, refl, sym, ap, ◌∙◌, arith}
use Rattle.std.specs.List.{list_any}
use Rattle.std.specs.Option.{option_or}
use Rattle.std.proofs.lemmas.Bool.Decides.{nat_tests}
use Rattle.asm80_types.specs.Tree.{Operand}
use Rattle.asm80_values.specs.declared.form.Form.{Form}
use Rattle.asm80_values.specs.declared.form.Form.TheVariants.{Nothing, Instruction, Data}
use Rattle.asm80_source_def.specs.declared.operation.Operation.{Operation}
use Rattle.asm80_source_def.specs.declared.operation.Operation.TheVariants.{Db, Dw, Rst, Foreign}
use Rattle.asm80_source_def.specs.declared.operation.Kind.TheVariants.{Byte, Word}
use Rattle.asm80_source_def.specs.declared.rule.AsmRule.{AsmRule}
use Rattle.asm80_source_def.specs.declared.rule.AsmRule.TheVariants.{S1, S2, S3, S4, S5, S6, S7}
use Rattle.asm80_source_def.specs.Walk.{Walk, WalkRow, row_operation}
use Rattle.asm80_source_def.specs.Items.{Setting, setting, address, item_rows, starts_in, starts_at, is_instruction_op, is_data_op}
use Rattle.asm80_source_def.specs.Layout.{cells_of, layout_fault, counted_from, is_filled, first_overlap, is_outside, stands_outside as row_stands_outside, refused_at, is_foreign_by, same_kind, operands_by, misses, computes, loads_code, is_foreign, has_operand}
use Rattle.asm80_values.specs.declared.item.Item.{Item}
use Rattle.asm80_values.specs.Items.{IsFormBy, IsItem, AreItems, cells_of_item, overlap_from, stands_outside, form_breaks, breaks, refused_item, profile_fault}
use Rattle.asm80_values.proofs.Cells.{inside, outside, below_area}

-- ---- operands of data, and of what is neither data nor an instruction

no_foreign : (t : Setting) (args : List Operand) (o : Operation) → is_instruction_op (Some o) ≡ false → is_foreign_by t args (Some o) ≡ false
no_foreign t args Foreign h = cc
no_foreign t args Rst h = cc
no_foreign t args o h = refl

pub data_alone : (o : Operation) → is_data_op (Some o) ≡ true → is_instruction_op (Some o) ≡ false
data_alone Db h = refl
data_alone Dw h = refl
data_alone o h = cc

misses_no_bytes : (t : Setting) (args : List Operand) → list_any (misses t) (same_kind Byte args) ≡ false
misses_no_bytes t [] = refl
misses_no_bytes t (a ∷ args) = misses_no_bytes t args

misses_no_words : (t : Setting) (args : List Operand) → list_any (misses t) (same_kind Word args) ≡ false
misses_no_words t [] = refl
misses_no_words t (a ∷ args) = misses_no_words t args

loads_no_bytes : (t : Setting) (args : List Operand) → list_any (loads_code t) (same_kind Byte args) ≡ false
loads_no_bytes t [] = refl
loads_no_bytes t (a ∷ args) = loads_no_bytes t args

loads_no_words : (t : Setting) (args : List Operand) → list_any (loads_code t) (same_kind Word args) ≡ false
loads_no_words t [] = refl
loads_no_words t (a ∷ args) = loads_no_words t args

data_misses : (t : Setting) (args : List Operand) (o : Operation) → is_data_op (Some o) ≡ true → list_any (misses t) (operands_by args (Some o)) ≡ false
data_misses t args Db h = misses_no_bytes t args
data_misses t args Dw h = misses_no_words t args
data_misses t args o h = cc

data_loads : (t : Setting) (args : List Operand) (o : Operation) → is_data_op (Some o) ≡ true → list_any (loads_code t) (operands_by args (Some o)) ≡ false
data_loads t args Db h = loads_no_bytes t args
data_loads t args Dw h = loads_no_words t args
data_loads t args o h = cc

no_operands : (args : List Operand) (o : Operation) → is_instruction_op (Some o) ≡ false → is_data_op (Some o) ≡ false → operands_by args (Some o) ≡ []
no_operands args Db h g = cc
no_operands args Dw h g = cc
no_operands args o h g = grind arith

-- ---- the operands' rules, by forms

form_foreign : (t : Setting) (args : List Operand) (o : Option Operation) (f : Form) → IsFormBy t args o f → form_breaks S1 f ≡ is_foreign_by t args o
form_foreign t args None f h = absurd h
form_foreign t args (Some o) Nothing h = sym (no_foreign t args o h.0)
form_foreign t args (Some o) (Instruction i) h = h.2
form_foreign t args (Some o) (Data d) h = sym (no_foreign t args o (data_alone o h.0))

form_misses : (t : Setting) (args : List Operand) (o : Option Operation) (f : Form) → IsFormBy t args o f → form_breaks S2 f ≡ list_any (misses t) (operands_by args o)
form_misses t args None f h = absurd h
form_misses t args (Some o) Nothing h = rw (no_operands args o h.0 h.1) refl
form_misses t args (Some o) (Instruction i) h = h.3
form_misses t args (Some o) (Data d) h = sym (data_misses t args o h.0)

form_computes : (t : Setting) (args : List Operand) (o : Option Operation) (f : Form) → IsFormBy t args o f → form_breaks S4 f ≡ list_any (computes t) (operands_by args o)
form_computes t args None f h = absurd h
form_computes t args (Some o) Nothing h = rw (no_operands args o h.0 h.1) refl
form_computes t args (Some o) (Instruction i) h = h.4
form_computes t args (Some o) (Data d) h = h.2

form_loads : (t : Setting) (args : List Operand) (o : Option Operation) (f : Form) → IsFormBy t args o f → form_breaks S5 f ≡ list_any (loads_code t) (operands_by args o)
form_loads t args None f h = absurd h
form_loads t args (Some o) Nothing h = rw (no_operands args o h.0 h.1) refl
form_loads t args (Some o) (Instruction i) h = h.5
form_loads t args (Some o) (Data d) h = sym (data_loads t args o h.0)

-- ---- the area

outside_by :
    (top at n : ℕ) → 0 < n → at < 0x10000 → top < 0x10000 → (b : Bool) → nat_lt at 0x100 ≡ b → (e : Bool) → nat_lt ((top - 2) - at) n ≡ e
    → (b || e) ≡ list_any (is_outside top) (counted_from at n)
outside_by top at n some fits small true low e past = sym (below_area top at n some (grind (arith, nat_tests)))
outside_by top at n some fits small false high true past = sym (outside top at n some (grind (arith, nat_tests)) fits small)
outside_by top at n some fits small false high false within = sym (inside top at n (grind (arith, nat_tests)) (grind (arith, nat_tests)) small)

outside_test : (top at n : ℕ) → at < 0x10000 → top < 0x10000 → (nat_lt 0 n && (nat_lt at 0x100 || nat_lt ((top - 2) - at) n)) ≡ list_any (is_outside top) (counted_from at n)
outside_test top at zero fits small = refl
outside_test top at (suc n) fits small =
    let some : nat_lt 0 (suc n) ≡ true = grind (arith, nat_tests) in
    rw some (outside_by top at (suc n) (omega arith) fits small (nat_lt at 0x100) refl (nat_lt ((top - 2) - at) (suc n)) refl)

-- ---- the first breach

module _ (rs : List WalkRow) (end : Walk) where
  cells_same : (i : Item) (r : WalkRow) → IsItem rs end i r → cells_of_item i ≡ cells_of r
  cells_same i r is = ap (λ a. counted_from a i.size) is.at ∙ ap (λ n. counted_from (address r) n) is.size

  outside_same : (top : ℕ) → top < 0x10000 → (i : Item) (r : WalkRow) → IsItem rs end i r → stands_outside top i ≡ row_stands_outside top r
  outside_same top small i r is = outside_test top i.at i.size is.small small ∙ ap (λ (xs : List ℕ). list_any (is_outside top) xs) (cells_same i r is)

  same_by : (rule : AsmRule) (i : Item) (r : WalkRow) (x : Option Item) (y : Option WalkRow) → i.line ≡ r.statement.line → refused_item rule x ≡ refused_at rule y → (b : Bool) → refused_item rule (cond b (Some i) x) ≡ refused_at rule (cond b (Some r) y)
  same_by rule i r x y line rest true = ap (λ (n : ℕ). Some (n, rule)) line
  same_by rule i r x y line rest false = rest

  find_same :
      (test : Item → Bool) (row_test : WalkRow → Bool) (rule : AsmRule) → ((i : Item) (r : WalkRow) → IsItem rs end i r → test i ≡ row_test r)
      → (is : List Item) (qs : List WalkRow) → AreItems rs end is qs → refused_item rule (find test is) ≡ refused_at rule (find row_test qs)
  find_same test row_test rule same [] [] h = refl
  find_same test row_test rule same [] (q ∷ qs) h = absurd h
  find_same test row_test rule same (i ∷ is) [] h = absurd h
  find_same test row_test rule same (i ∷ is) (q ∷ qs) h =
      rw (same i q h.0) (same_by rule i q (find test is) (find row_test qs) h.0.line (find_same test row_test rule same is qs h.1) (row_test q))

  overlap_same : (filled : List ℕ) (is : List Item) (qs : List WalkRow) → AreItems rs end is qs → refused_item S6 (overlap_from filled is) ≡ refused_at S6 (first_overlap filled qs)
  overlap_same filled [] [] h = refl
  overlap_same filled [] (q ∷ qs) h = absurd h
  overlap_same filled (i ∷ is) [] h = absurd h
  overlap_same filled (i ∷ is) (q ∷ qs) h =
      rw (cells_same i q h.0) (same_by S6 i q (overlap_from (cells_of q ++ filled) is) (first_overlap (cells_of q ++ filled) qs) h.0.line (overlap_same (cells_of q ++ filled) is qs h.1) (list_any (is_filled filled) (cells_of q)))

  pub no_start : (top : ℕ) → starts_at (starts_in rs) 0x100 ≡ false → Some (0, S3) ≡ layout_fault rs end top
  no_start top none = rw none refl

  pub faults_same :
      (is : List Item) (top : ℕ) → top < 0x10000 → AreItems rs end is (item_rows rs) → starts_at (starts_in rs) 0x100 ≡ true
      → option_or (refused_item S6 (overlap_from [] is)) (profile_fault top is) ≡ layout_fault rs end top
  faults_same is top small h start =
      rw (
        start,
        overlap_same [] is (item_rows rs) h,
        find_same (breaks top S7) (row_stands_outside top) S7 (outside_same top small) is (item_rows rs) h,
        find_same (breaks top S1) (is_foreign rs end) S1 (λ i r is. form_foreign (setting rs end r) r.statement.args (row_operation r) i.form is.form) is (item_rows rs) h,
        find_same (breaks top S2) (has_operand rs end misses) S2 (λ i r is. form_misses (setting rs end r) r.statement.args (row_operation r) i.form is.form) is (item_rows rs) h,
        find_same (breaks top S4) (has_operand rs end computes) S4 (λ i r is. form_computes (setting rs end r) r.statement.args (row_operation r) i.form is.form) is (item_rows rs) h,
        find_same (breaks top S5) (has_operand rs end loads_code) S5 (λ i r is. form_loads (setting rs end r) r.statement.args (row_operation r) i.form is.form) is (item_rows rs) h,
      ) refl
