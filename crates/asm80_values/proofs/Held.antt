-- What items hold: the instructions and the data cells of all rows, and where instructions start.
use Rattle.std.proofs.Common.{◌≡◌, ℕ, ◌==◌, ◌<◌, ◌&&◌, ◌||◌, Bool, true, false, cond, find, All, List, [], ◌∷◌, ◌++◌, map, filter, Option, Some, None, refl, sym, ap, subst, ◌∙◌}
use Rattle.std.specs.Prelude.{option_map}
use Rattle.std.specs.List.{list_any, filter_map, flat_map, cons_option}
use Rattle.std.specs.List.Sorted.{IsPermutation}
use Rattle.std.specs.Option.{option_or}
use Rattle.std.proofs.lemmas.Bool.{or_parts}
use Rattle.std.proofs.lemmas.Option.{none-some}
use Rattle.std.proofs.lemmas.List.Sorted.{IsPermutation-sym, Contains-permutation}
use Rattle.std.proofs.Math.Path.{fun_ext}
use Rattle.cells.specs.declared.Cell.{Cell}
use Rattle.i80.specs.declared.Instr80.{Instr80}
use Rattle.asm80_types.specs.declared.program.Placed.{Placed}
use Rattle.asm80_types.specs.Program.{Program, is_top, IsProgram}
use Rattle.asm80_types.specs.Tree.{Operand}
use Rattle.asm80_values.specs.declared.form.Form.{Form}
use Rattle.asm80_values.specs.declared.form.Form.TheVariants.{Nothing, Instruction, Data}
use Rattle.asm80_source_def.specs.declared.operation.Operation.{Operation}
use Rattle.asm80_source_def.specs.declared.operation.Operation.TheVariants.{Db, Dw}
use Rattle.asm80_source_def.specs.declared.rule.AsmRule.{AsmRule}
use Rattle.asm80_source_def.specs.declared.rule.AsmRule.TheVariants.{S1, S2, S3, S4, S5, S6, S7}
use Rattle.asm80_source_def.specs.Walk.{Walk, WalkRow, row_is_taken, row_operation}
use Rattle.asm80_source_def.specs.Items.{Setting, setting, address, item_rows, starts_in, starts_at, is_instruction_op, is_data_op, is_instruction, is_data, fills_cells, instruction_by, instruction_of, placed_row, placed, data_by, laid_from, data_of_row, data_cells}
use Rattle.asm80_source_def.specs.Layout.{layout_fault}
use Rattle.asm80_source_def.specs.Assembly.{HoldsProgram}
use Rattle.asm80_values.specs.declared.item.Item.{Item}
use Rattle.asm80_values.specs.Items.{IsFormBy, IsItem, AreItems, overlap_from, breaks, refused_item, profile_fault}
use Rattle.asm80_values.specs.Programs.{placed_by, placed_form, placed_item, data_form, data_item, is_instruction_form, starts_item, IsSound, NamesStarts, AreLawful}
use Rattle.asm80_values.proofs.Breaches.{data_alone, no_start, faults_same}
use Rattle.asm80_values.proofs.Chain.{or_none}
use Rattle.asm80_values.proofs.Naming.{are_named, are_coded}

-- ---- of an operation

instruction_alone : (o : Operation) → is_instruction_op (Some o) ≡ true → is_data_op (Some o) ≡ false
instruction_alone Db h = cc
instruction_alone Dw h = cc
instruction_alone o h = refl

no_cells : (t : Setting) (args : List Operand) (o : Option Operation) → is_data_op o ≡ false → data_by t args o ≡ []
no_cells t args None h = refl
no_cells t args (Some Db) h = cc
no_cells t args (Some Dw) h = cc
no_cells t args (Some o) h = refl

-- ---- of a form

placed_same_by : (at line : ℕ) (o : Option Instr80) → placed_by at line o ≡ option_map (λ (i : Instr80). record { at = at; line = line; instr = i }) o
placed_same_by at line None = refl
placed_same_by at line (Some i) = refl

form_placed :
    (t : Setting) (args : List Operand) (o : Option Operation) (f : Form) (at line : ℕ) → IsFormBy t args o f
    → placed_form at line f ≡ option_map (λ (i : Instr80). record { at = at; line = line; instr = i }) (cond (is_instruction_op o) (instruction_by t args o) None)
form_placed t args None f at line h = absurd h
form_placed t args (Some o) Nothing at line h = rw h.0 refl
form_placed t args (Some o) (Instruction i) at line h = rw (h.0, h.1) (placed_same_by at line (instruction_by t args (Some o)))
form_placed t args (Some o) (Data d) at line h = rw (data_alone o h.0) refl

form_cells : (t : Setting) (args : List Operand) (o : Option Operation) (f : Form) → IsFormBy t args o f → data_form f ≡ data_by t args o
form_cells t args None f h = absurd h
form_cells t args (Some o) Nothing h = sym (no_cells t args (Some o) h.1)
form_cells t args (Some o) (Instruction i) h = sym (no_cells t args (Some o) (instruction_alone o h.0))
form_cells t args (Some o) (Data d) h = h.1

form_starts : (t : Setting) (args : List Operand) (o : Option Operation) (f : Form) → IsFormBy t args o f → is_instruction_form f ≡ is_instruction_op o
form_starts t args None f h = absurd h
form_starts t args (Some o) Nothing h = sym h.0
form_starts t args (Some o) (Instruction i) h = sym h.0
form_starts t args (Some o) (Data d) h = sym (data_alone o h.0)

-- ---- of tests

taken_by : (t a b : Bool) → ((t && a) || (t && b)) ≡ true → t ≡ true
taken_by true a b h = refl
taken_by false a b h = h

refused_none : (rule : AsmRule) (o : Option Item) → refused_item rule o ≡ None → o ≡ None
refused_none rule None h = refl
refused_none rule (Some i) h = absurd (none-some (i.line, rule) (sym h))

module _ (rs : List WalkRow) (end : Walk) where
  -- ---- one row

  row_taken : (r : WalkRow) → fills_cells r ≡ true → row_is_taken r ≡ true
  row_taken r fills = taken_by (row_is_taken r) (is_instruction_op (row_operation r)) (is_data_op (row_operation r)) fills

  item_placed : (i : Item) (r : WalkRow) → fills_cells r ≡ true → IsItem rs end i r → placed_item i ≡ placed_row rs end r
  item_placed i r fills is =
      let by_taken : Bool → Option Placed = λ t. option_map (λ (x : Instr80). record { at = address r; line = r.statement.line; instr = x }) (cond (t && is_instruction_op (row_operation r)) (instruction_of rs end r) None) in
      ap (λ n. placed_form n i.line i.form) is.at ∙ ap (λ n. placed_form (address r) n i.form) is.line
      ∙ form_placed (setting rs end r) r.statement.args (row_operation r) i.form (address r) r.statement.line is.form
      ∙ sym (ap by_taken (row_taken r fills))

  item_cells : (i : Item) (r : WalkRow) → fills_cells r ≡ true → IsItem rs end i r → data_item i ≡ data_of_row rs end r
  item_cells i r fills is =
      let by_taken : Bool → List (ℕ × Cell) = λ t. laid_from (address r) (cond t (data_by (setting rs end r) r.statement.args (row_operation r)) []) in
      ap (λ n. laid_from n (data_form i.form)) is.at
      ∙ ap (laid_from (address r)) (form_cells (setting rs end r) r.statement.args (row_operation r) i.form is.form)
      ∙ sym (ap by_taken (row_taken r fills))

  item_starts : (i : Item) (r : WalkRow) (a : ℕ) → fills_cells r ≡ true → IsItem rs end i r → starts_item a i ≡ (is_instruction r && (address r == a))
  item_starts i r a fills is =
      ap (λ n. is_instruction_form i.form && (n == a)) is.at
      ∙ ap (λ b. b && (address r == a)) (form_starts (setting rs end r) r.statement.args (row_operation r) i.form is.form)
      ∙ sym (ap (λ t. (t && is_instruction_op (row_operation r)) && (address r == a)) (row_taken r fills))

  -- rows that fill no cells
  placed_none : (r : WalkRow) → fills_cells r ≡ false → placed_row rs end r ≡ None
  placed_none r fills =
      let by_test : Bool → Option Placed = λ b. option_map (λ (x : Instr80). record { at = address r; line = r.statement.line; instr = x }) (cond b (instruction_of rs end r) None) in
      ap by_test (or_parts (is_instruction r) (is_data r) fills).0

  cells_none_by : (r : WalkRow) (t : Bool) → (t && is_data_op (row_operation r)) ≡ false → laid_from (address r) (cond t (data_by (setting rs end r) r.statement.args (row_operation r)) []) ≡ []
  cells_none_by r true h = ap (laid_from (address r)) (no_cells (setting rs end r) r.statement.args (row_operation r) h)
  cells_none_by r false h = refl

  cells_none : (r : WalkRow) → fills_cells r ≡ false → data_of_row rs end r ≡ []
  cells_none r fills = cells_none_by r (row_is_taken r) (or_parts (is_instruction r) (is_data r) fills).1

  -- ---- all rows

  placed_step :
      (q : WalkRow) (kept : List WalkRow) (all : List Placed) → ((is : List Item) → AreItems rs end is kept → filter_map placed_item is ≡ all)
      → (b : Bool) → fills_cells q ≡ b → (is : List Item) → AreItems rs end is (cond b (q ∷ kept) kept) → filter_map placed_item is ≡ cons_option (placed_row rs end q) all
  placed_step q kept all more true fills [] h = absurd h
  placed_step q kept all more true fills (i ∷ is) h =
      ap (λ o. cons_option o (filter_map placed_item is)) (item_placed i q fills h.0) ∙ ap (cons_option (placed_row rs end q)) (more is h.1)
  placed_step q kept all more false fills is h = more is h ∙ sym (ap (λ o. cons_option o all) (placed_none q fills))

  placed_in_rows : (qs : List WalkRow) (is : List Item) → AreItems rs end is (filter fills_cells qs) → filter_map placed_item is ≡ filter_map (placed_row rs end) qs
  placed_in_rows [] [] h = refl
  placed_in_rows [] (i ∷ is) h = absurd h
  placed_in_rows (q ∷ qs) is h = placed_step q (filter fills_cells qs) (filter_map (placed_row rs end) qs) (placed_in_rows qs) (fills_cells q) refl is h

  cells_step :
      (q : WalkRow) (kept : List WalkRow) (all : List (ℕ × Cell)) → ((is : List Item) → AreItems rs end is kept → flat_map data_item is ≡ all)
      → (b : Bool) → fills_cells q ≡ b → (is : List Item) → AreItems rs end is (cond b (q ∷ kept) kept) → flat_map data_item is ≡ data_of_row rs end q ++ all
  cells_step q kept all more true fills [] h = absurd h
  cells_step q kept all more true fills (i ∷ is) h =
      ap (λ (cs : List (ℕ × Cell)). cs ++ flat_map data_item is) (item_cells i q fills h.0) ∙ ap (λ (cs : List (ℕ × Cell)). data_of_row rs end q ++ cs) (more is h.1)
  cells_step q kept all more false fills is h = more is h ∙ sym (ap (λ (cs : List (ℕ × Cell)). cs ++ all) (cells_none q fills))

  cells_in_rows : (qs : List WalkRow) (is : List Item) → AreItems rs end is (filter fills_cells qs) → flat_map data_item is ≡ flat_map (data_of_row rs end) qs
  cells_in_rows [] [] h = refl
  cells_in_rows [] (i ∷ is) h = absurd h
  cells_in_rows (q ∷ qs) is h = cells_step q (filter fills_cells qs) (flat_map (data_of_row rs end) qs) (cells_in_rows qs) (fills_cells q) refl is h

  pub placed_same : (is : List Item) → AreItems rs end is (item_rows rs) → filter_map placed_item is ≡ placed rs end
  placed_same is h = placed_in_rows rs is h

  pub cells_same : (is : List Item) → AreItems rs end is (item_rows rs) → flat_map data_item is ≡ data_cells rs end
  cells_same is h = cells_in_rows rs is h

  starts_step :
      (a : ℕ) (q : WalkRow) (kept left : List WalkRow) → ((is : List Item) → AreItems rs end is kept → list_any (starts_item a) is ≡ starts_at (map address left) a)
      → (x y : Bool) → is_instruction q ≡ x → is_data q ≡ y → (is : List Item) → AreItems rs end is (cond (x || y) (q ∷ kept) kept)
      → list_any (starts_item a) is ≡ starts_at (map address (cond x (q ∷ left) left)) a
  starts_step a q kept left more true y instr is_cells [] h = absurd h
  starts_step a q kept left more true y instr is_cells (i ∷ is) h =
      let fills : fills_cells q ≡ true = ap (λ b. b || is_data q) instr in
      ap (λ b. b || list_any (starts_item a) is) (item_starts i q a fills h.0 ∙ ap (λ b. b && (address q == a)) instr) ∙ ap (λ b. (address q == a) || b) (more is h.1)
  starts_step a q kept left more false true instr is_cells [] h = absurd h
  starts_step a q kept left more false true instr is_cells (i ∷ is) h =
      let fills : fills_cells q ≡ true = ap (λ b. b || is_data q) instr ∙ is_cells in
      ap (λ b. b || list_any (starts_item a) is) (item_starts i q a fills h.0 ∙ ap (λ b. b && (address q == a)) instr) ∙ more is h.1
  starts_step a q kept left more false false instr is_cells is h = more is h

  starts_in_rows : (a : ℕ) (qs : List WalkRow) (is : List Item) → AreItems rs end is (filter fills_cells qs) → list_any (starts_item a) is ≡ starts_at (map address (filter is_instruction qs)) a
  starts_in_rows a [] [] h = refl
  starts_in_rows a [] (i ∷ is) h = absurd h
  starts_in_rows a (q ∷ qs) is h =
      starts_step a q (filter fills_cells qs) (filter is_instruction qs) (starts_in_rows a qs) (is_instruction q) (is_data q) refl refl is h

  -- ---- the rules of the layout

  start_by : (top : ℕ) → layout_fault rs end top ≡ None → (b : Bool) → starts_at (starts_in rs) 0x100 ≡ b → b ≡ true
  start_by top none true e = refl
  start_by top none false e = absurd (none-some (0, S3) (sym (no_start rs end top e ∙ none)))

  pub lawful :
      (is : List Item) (top : ℕ) → is_top top ≡ true → top < 0x10000 → AreItems rs end is (item_rows rs) → layout_fault rs end top ≡ None → All IsSound is → AreLawful top is
  lawful is top allowed small h none sound =
      let start : starts_at (starts_in rs) 0x100 ≡ true = start_by top none (starts_at (starts_in rs) 0x100) refl in
      let all : (refused_item S6 (overlap_from [] is) ≡ None) × (profile_fault top is ≡ None) = or_none (refused_item S6 (overlap_from [] is)) (profile_fault top is) (faults_same rs end is top small h start ∙ none) in
      let area : (refused_item S7 (find (breaks top S7) is) ≡ None)
      × (option_or (refused_item S1 (find (breaks top S1) is)) (
      option_or (refused_item S2 (find (breaks top S2) is)) (
      option_or (refused_item S4 (find (breaks top S4) is))
      (refused_item S5 (find (breaks top S5) is)))) ≡ None) =
      or_none (refused_item S7 (find (breaks top S7) is)) _ all.1 in
      let profile : (refused_item S1 (find (breaks top S1) is) ≡ None)
      × (option_or (refused_item S2 (find (breaks top S2) is)) (
      option_or (refused_item S4 (find (breaks top S4) is))
      (refused_item S5 (find (breaks top S5) is))) ≡ None) =
      or_none (refused_item S1 (find (breaks top S1) is)) _ area.1 in
      let hits = or_none (refused_item S2 (find (breaks top S2) is)) _ profile.1 in
      let by_items : (λ a. starts_at (starts_in rs) a) ≡ (λ a. list_any (starts_item a) is) = fun_ext (λ a. sym (starts_in_rows a rs is h)) in
      record {
        is_top = allowed;
        sound = sound;
        start = starts_in_rows 0x100 rs is h ∙ start;
        apart = refused_none S6 (overlap_from [] is) all.0;
        within = refused_none S7 (find (breaks top S7) is) area.0;
        native = refused_none S1 (find (breaks top S1) is) profile.0;
        named = subst (λ (s : ℕ → Bool). All (NamesStarts s) is) by_items (are_named rs end top is (item_rows rs) h (refused_none S2 (find (breaks top S2) is) hits.0));
        coded = are_coded rs end is (item_rows rs) h;
      }

  -- ---- the program

  pub held :
      (is : List Item) (top : ℕ) (p : Program) → AreItems rs end is (item_rows rs) → IsProgram p → p.top ≡ top
      → IsPermutation (filter_map placed_item is) p.instrs → IsPermutation (flat_map data_item is) p.cells → HoldsProgram rs end top p
  held is top p h program is_top instrs cells =
      let moved : IsPermutation (placed rs end) p.instrs = rw (placed_same is h) at instrs in
      let moved_cells : IsPermutation (data_cells rs end) p.cells = rw (cells_same is h) at cells in
      record {
        lawful = program;
        instrs = λ x. (Contains-permutation p.instrs (placed rs end) x (IsPermutation-sym (placed rs end) p.instrs moved), Contains-permutation (placed rs end) p.instrs x moved);
        cells = λ x. (Contains-permutation p.cells (data_cells rs end) x (IsPermutation-sym (data_cells rs end) p.cells moved_cells), Contains-permutation (data_cells rs end) p.cells x moved_cells);
        is_top = is_top;
      }
