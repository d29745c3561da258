-- What the operands of each row see, along the second walk.
use Rattle.std.proofs.Common.{◌≡◌, ℕ, ◌≤◌, Bool, true, false, cond, List, [], ◌∷◌, length, filter, Option, Some, None, option_map, refl, sym, ap, subst, ◌∙◌, arith}
use Rattle.std.specs.Option.{option_or}
use Rattle.cells.proofs.Options.{if_none}
use Rattle.asm80_types.specs.Tree.{Statement}
use Rattle.asm80_source_def.specs.declared.operation.Operation.{Operation}
use Rattle.asm80_source_def.specs.declared.operation.Operation.TheVariants.{Equ, Set}
use Rattle.asm80_source_def.specs.declared.rule.AsmRule.{AsmRule}
use Rattle.asm80_source_def.specs.declared.rule.AsmRule.TheVariants.{V1, V2, V4, V5, V6, V7}
use Rattle.asm80_source_def.specs.Names.{Name, named, is_settable, defined}
use Rattle.asm80_source_def.specs.Walk.{Walk, WalkRow, operation_in, is_taken, meaning_in, kind_of_label, definition, names_by, after_by, walk_after, ends, rows_from, walk_after_all, at_start, rows, walked, row_is_taken}
use Rattle.asm80_source_def.specs.FirstFaults.{breaks_v6, label_clashes, label_overflows, breaks_v5, breaks_v1, breaks_v4, rule_of_taken, rule_of_row, with_line, first_fault, rule_if}
use Rattle.asm80_source_def.specs.Operands.{meaning_by, meaning_seen}
use Rattle.asm80_values.specs.Second.{set_by, names_set}
use Rattle.asm80_values.proofs.SetNames.{Made, made, Distinct, distinct_made}
use Rattle.asm80_values.proofs.SetAgain.{room_made, Stays, stays-refl, stays_made, fixed, Beside, beside_label, beside_set, beside_start, seen_by}

-- ---- no fault

pub or_none : {X : Type 0} (x y : Option X) → option_or x y ≡ None → (x ≡ None) × (y ≡ None)
or_none None y h = (refl, h)
or_none (Some x) y h = absurd cc

pub line_none : (line : ℕ) (o : Option AsmRule) → with_line line o ≡ None → o ≡ None
line_none line None h = refl
line_none line (Some r) h = absurd cc

abbrev pub LabelIsGood : Walk → Statement → Option (List ℕ) → Type 0
LabelIsGood w s o = (label_clashes w s o ≡ false) × (label_overflows w s o ≡ false)

taken_good : (w : Walk) (s : Statement) → rule_of_taken w s ≡ None → LabelIsGood w s s.label
taken_good w s h =
    let first = if_none (label_clashes w s s.label) V2 (rule_if (label_overflows w s s.label) V7 (rule_if (breaks_v5 s (operation_in s)) V5 (rule_if (breaks_v1 w s (operation_in s)) V1 (rule_if (breaks_v4 w s (operation_in s)) V4 None)))) h in
    let second = if_none (label_overflows w s s.label) V7 (rule_if (breaks_v5 s (operation_in s)) V5 (rule_if (breaks_v1 w s (operation_in s)) V1 (rule_if (breaks_v4 w s (operation_in s)) V4 None))) first.1 in
    (first.0, second.0)

row_good : (r : WalkRow) (later : List WalkRow) (end : Walk) → rule_of_row r later end ≡ None → row_is_taken r ≡ true → LabelIsGood r.before r.statement r.statement.label
row_good r later end h taken =
    let rest = if_none (breaks_v6 r later end) V6 (cond (row_is_taken r) (rule_of_taken r.before r.statement) None) h in
    taken_good r.before r.statement (sym (ap (λ b. cond b (rule_of_taken r.before r.statement) None) taken) ∙ rest.1)

-- ---- names of the first walk

pub record Grown (before end : List Name) : Type 0 where
  pub stays : Stays before end
  pub distinct : Distinct before → Distinct end
  pub room : length before ≤ 8192 → length end ≤ 8192

grown-refl : (names : List Name) → Grown names names
grown-refl names = record { stays = stays-refl names; distinct = λ d. d; room = λ le. le }

grown_label : (w : Walk) (s : Statement) (o : Option (List ℕ)) (end : List Name) → LabelIsGood w s o → Grown (names_by w s o) end → Grown w.names end
grown_label w s None end good h = h
grown_label w s (Some text) end good h =
    let m : Made w.names (definition w s text) (defined w.names (definition w s text)) = made w.names (definition w s text) good.0 good.1 in
    record {
      stays = stays_made w.names (definition w s text) (defined w.names (definition w s text)) end m h.stays;
      distinct = λ d. h.distinct (distinct_made w.names (definition w s text) (defined w.names (definition w s text)) m d);
      room = λ le. h.room (room_made w.names (definition w s text) (defined w.names (definition w s text)) m le);
    }

grown_by : (w : Walk) (s : Statement) (end : List Name) (b : Bool) → (b ≡ true → LabelIsGood w s s.label) → Grown (after_by b w s).names end → Grown w.names end
grown_by w s end false good h = h
grown_by w s end true good h = grown_label w s s.label end (good refl) h

walk_by : (end0 : Walk) (w next : Walk) (ss : List Statement) → (first_fault (rows_from next ss) end0 ≡ None → Grown next.names (walk_after_all next ss).names) → (e : Bool) → first_fault (cond e [] (rows_from next ss)) end0 ≡ None → Grown next.names (cond e next (walk_after_all next ss)).names
walk_by end0 w next ss rest true h = grown-refl next.names
walk_by end0 w next ss rest false h = rest h

pub walk_grown : (end0 : Walk) (ss : List Statement) (w : Walk) → first_fault (rows_from w ss) end0 ≡ None → Grown w.names (walk_after_all w ss).names
walk_grown end0 [] w h = grown-refl w.names
walk_grown end0 (s ∷ ss) w h =
    let r : WalkRow = record { statement = s; before = w } in
    let later : List WalkRow = cond (ends w s) [] (rows_from (walk_after w s) ss) in
    let split = or_none (with_line s.line (rule_of_row r later end0)) (first_fault later end0) h in
    grown_by w s (walk_after_all w (s ∷ ss)).names (is_taken w s) (λ taken. row_good r later end0 (line_none s.line (rule_of_row r later end0) split.0) taken)
    (walk_by end0 w (walk_after w s) ss (walk_grown end0 ss (walk_after w s)) (ends w s) split.1)

-- ---- one row of the second walk

set_none : (r : WalkRow) (names : List Name) (o : Option Operation) → set_by r names o None ≡ names
set_none r names None = refl
set_none r names (Some Set) = refl
set_none r names (Some o) = refl

abbrev is_set : Option Operation → Bool
is_set (Some Set) = true
is_set o = false

set_true : (r : WalkRow) (names : List Name) (text : List ℕ) (o : Option Operation) → is_set o ≡ true → set_by r names o (Some text) ≡ defined names (definition r.before r.statement text)
set_true r names text None h = absurd cc
set_true r names text (Some Set) h = refl
set_true r names text (Some o) h = absurd cc

set_false : (r : WalkRow) (names : List Name) (text : List ℕ) (o : Option Operation) → is_set o ≡ false → set_by r names o (Some text) ≡ names
set_false r names text None h = refl
set_false r names text (Some Set) h = absurd cc
set_false r names text (Some o) h = refl

kind_is : (o : Option Operation) → is_settable (kind_of_label o) ≡ is_set o
kind_is None = refl
kind_is (Some Equ) = refl
kind_is (Some Set) = refl
kind_is (Some o) = refl

row_text :
    (r : WalkRow) (names end : List Name) (text : List ℕ) → LabelIsGood r.before r.statement (Some text) → Stays (names_by r.before r.statement (Some text)) end → length end ≤ 8192 → Beside names r.before.names end
    → (b : Bool) → is_set (operation_in r.statement) ≡ b → Beside (set_by r names (operation_in r.statement) (Some text)) (names_by r.before r.statement (Some text)) end
row_text r names end text good stays few beside true set =
    let n : Name = definition r.before r.statement text in
    let m : Made r.before.names n (defined r.before.names n) = made r.before.names n good.0 good.1 in
    rw (set_true r names text (operation_in r.statement) set) (beside_set names r.before.names n (defined r.before.names n) end m good.0 stays (kind_is (operation_in r.statement) ∙ set) few beside)
row_text r names end text good stays few beside false set =
    let n : Name = definition r.before r.statement text in
    let m : Made r.before.names n (defined r.before.names n) = made r.before.names n good.0 good.1 in
    rw (set_false r names text (operation_in r.statement) set) (beside_label names r.before.names n (defined r.before.names n) end m stays (kind_is (operation_in r.statement) ∙ set) beside)

row_label :
    (r : WalkRow) (names end : List Name) (o : Option (List ℕ)) → LabelIsGood r.before r.statement o → Stays (names_by r.before r.statement o) end → length end ≤ 8192 → Beside names r.before.names end
    → Beside (set_by r names (operation_in r.statement) o) (names_by r.before r.statement o) end
row_label r names end None good stays few beside = rw (set_none r names (operation_in r.statement)) beside
row_label r names end (Some text) good stays few beside = row_text r names end text good stays few beside (is_set (operation_in r.statement)) refl

-- ---- all rows

-- each row's operands see these names, set again as the rows before say
abbrev pub Sees : List Name → Walk → List WalkRow → Type 0
Sees names end [] = Unit {0}
Sees names end (r ∷ rs) = ((t : List ℕ) → meaning_in names t ≡ meaning_seen end r.before t) × Sees (names_set r names) end rs

meaning_cond : (b : Bool) (x : Option Name) (n : Name) → option_map (λ (m : Name). m.meaning) (cond b x (Some n)) ≡ cond b (option_map (λ (m : Name). m.meaning) x) (Some n.meaning)
meaning_cond true x n = refl
meaning_cond false x n = refl

meaning_of_seen : (before : List Name) (o : Option Name) (t : List ℕ) → option_map (λ (m : Name). m.meaning) (seen_by before o t) ≡ meaning_by before o t
meaning_of_seen before None t = refl
meaning_of_seen before (Some n) t = meaning_cond (is_settable n.kind) (named before t) n

beside_meaning : (names : List Name) (w end : Walk) (t : List ℕ) → Beside names w.names end.names → meaning_in names t ≡ meaning_seen end w t
beside_meaning names w end t h = ap (option_map (λ (m : Name). m.meaning)) (h.same t) ∙ meaning_of_seen w.names (named end.names t) t

sees_tail :
    (end0 end next : Walk) (ss : List Statement)
    → ((names : List Name) → first_fault (rows_from next ss) end0 ≡ None → (walk_after_all next ss).names ≡ end.names → Beside names next.names end.names → Sees names end (filter row_is_taken (rows_from next ss)))
    → (e : Bool) → first_fault (cond e [] (rows_from next ss)) end0 ≡ None → (cond e next (walk_after_all next ss)).names ≡ end.names
    → (names : List Name) → Beside names next.names end.names → Sees names end (filter row_is_taken (cond e [] (rows_from next ss)))
sees_tail end0 end next ss rest true h is names beside = tt
sees_tail end0 end next ss rest false h is names beside = rest names h is beside

sees_row :
    (r : WalkRow) (end : Walk) (names : List Name) (later : List WalkRow) → (b : Bool) → (b ≡ true → LabelIsGood r.before r.statement r.statement.label) → Stays (after_by b r.before r.statement).names end.names → length end.names ≤ 8192
    → Beside names r.before.names end.names → ((next : List Name) → Beside next (after_by b r.before r.statement).names end.names → Sees next end later) → Sees names end (cond b (r ∷ later) later)
sees_row r end names later false good stays few beside rest = rest names beside
sees_row r end names later true good stays few beside rest =
    (λ t. beside_meaning names r.before end t beside, rest (names_set r names) (row_label r names end.names r.statement.label (good refl) stays few beside))

sees_from :
    (end0 end : Walk) (ss : List Statement) (w : Walk) (names : List Name) → first_fault (rows_from w ss) end0 ≡ None → (walk_after_all w ss).names ≡ end.names → length end.names ≤ 8192 → Beside names w.names end.names
    → Sees names end (filter row_is_taken (rows_from w ss))
sees_from end0 end [] w names h is few beside = tt
sees_from end0 end (s ∷ ss) w names h is few beside =
    let r : WalkRow = record { statement = s; before = w } in
    let later : List WalkRow = cond (ends w s) [] (rows_from (walk_after w s) ss) in
    let split = or_none (with_line s.line (rule_of_row r later end0)) (first_fault later end0) h in
    let grown : Grown (walk_after w s).names (walk_after_all w (s ∷ ss)).names = walk_by end0 w (walk_after w s) ss (walk_grown end0 ss (walk_after w s)) (ends w s) split.1 in
    let Staying : List Name → Type 0 = λ names. Stays (walk_after w s).names names in
    sees_row r end names (filter row_is_taken later) (is_taken w s) (λ taken. row_good r later end0 (line_none s.line (rule_of_row r later end0) split.0) taken) (subst Staying is grown.stays) few beside
    (sees_tail end0 end (walk_after w s) ss (λ names h is beside. sees_from end0 end ss (walk_after w s) names h is few beside) (ends w s) split.1 is)

pub sees_all : (ss : List Statement) → first_fault (rows ss) (walked ss) ≡ None → Sees (fixed (walked ss).names) (walked ss) (filter row_is_taken (rows ss))
sees_all ss h =
    let grown : Grown [] (walked ss).names = walk_grown (walked ss) ss at_start h in
    sees_from (walked ss) (walked ss) ss at_start (fixed (walked ss).names) h refl (grown.room (omega arith)) (beside_start (walked ss).names (grown.distinct tt))
