-- The state behind one statement more.
use Rattle.std.proofs.Common.{◌≡◌, ℕ, ◌+◌, ◌<◌, inl, inr, drop, drop-cons, add-one, arith, List, [], ◌∷◌, ◌++◌, length, map, get_or, Bool, true, false, refl, sym, ap, subst, ◌∙◌, append_assoc}
use Rattle.std.specs.Prelude.{filter}
use Rattle.std.proofs.lemmas.List.{append-nil, length-map, get_or-map, get_or_default}
use Rattle.std.proofs.lemmas.Bool.{cases_Bool}
use Rattle.asm80_types.specs.declared.stmt.Stmt80.{Stmt80}
use Rattle.asm80_types.specs.Tree.{Statement, statement_of}
use Rattle.asm80_source_def.specs.Walk.{Walk, WalkRow, is_taken, walk_after, ends, rows_from, walk_after_all, rows, walked, row_is_taken}
use Rattle.asm80_source_def.specs.FirstFaults.{first_fault}
use Rattle.asm80_first_walk.specs.declared.walked.Taken.{Taken}
use Rattle.asm80_first_walk.specs.Walked.{IsRowOf, Stand}
use Rattle.asm80_first_walk.specs.State.{State, walk_of, taken_row, Steps, Done}
use Rattle.asm80_first_walk.proofs.Verdicts.{verdict, verdict_stays, verdict_at_end}

-- The state is reached, and these statements are left.
pub record Reaches (statements : List Stmt80) (s : State) (left : List Statement) : Type 0 where
  pub before : List WalkRow
  pub stand : Stand statements s.rows before
  pub taken : filter row_is_taken (rows (map statement_of statements)) ≡ before ++ filter row_is_taken (rows_from (walk_of s) left)
  pub end : walked (map statement_of statements) ≡ walk_after_all (walk_of s) left
  pub fault : first_fault (rows (map statement_of statements)) (walked (map statement_of statements)) ≡ verdict s (rows_from (walk_of s) left) (walk_after_all (walk_of s) left)

stand_more : (statements : List Stmt80) (ts : List Taken) (rs : List WalkRow) (t : Taken) (r : WalkRow) → Stand statements ts rs → IsRowOf statements t r → Stand statements (ts ++ t ∷ []) (rs ++ r ∷ [])
stand_more statements [] [] t r h k = (k, tt)
stand_more statements [] (q ∷ rs) t r h k = absurd h
stand_more statements (u ∷ ts) [] t r h k = absurd h
stand_more statements (u ∷ ts) (q ∷ rs) t r h k = (h.0, stand_more statements ts rs t r h.1 k)

-- the walk behind a statement
record Follows (w : Walk) (s : Statement) (more left : List Statement) : Type 0 where
  rows : rows_from w (s ∷ more) ≡ record { statement = s; before = w } ∷ rows_from (walk_after w s) left
  end : walk_after_all w (s ∷ more) ≡ walk_after_all (walk_after w s) left

goes_on : (w : Walk) (s : Statement) (more : List Statement) → ends w s ≡ false → Follows w s more more
goes_on w s more e = record { rows = rw e refl; end = rw e refl }

comes_to_end : (w : Walk) (s : Statement) (more : List Statement) → ends w s ≡ true → Follows w s more []
comes_to_end w s more e = record { rows = rw e refl; end = rw e refl }

module _ (statements : List Stmt80) (index : ℕ) (s : Statement) (old new : State) (more left : List Statement) (h : Reaches statements old (s ∷ more)) (k : Steps index s old new) (f : Follows (walk_of old) s more left) (within : index < length statements) (is : (d : Stmt80) → statement_of (get_or statements index d) ≡ s) where
  abbrev row_now : WalkRow
  row_now = record { statement = s; before = walk_of old }

  rows_now : rows_from (walk_of old) (s ∷ more) ≡ row_now ∷ rows_from (walk_of new) left
  rows_now = f.rows ∙ ap (λ (w : Walk). row_now ∷ rows_from w left) (sym k.walk)

  end_now : walk_after_all (walk_of old) (s ∷ more) ≡ walk_after_all (walk_of new) left
  end_now = f.end ∙ ap (λ (w : Walk). walk_after_all w left) (sym k.walk)

  stands_now : IsRowOf statements (taken_row index (walk_of old) s) row_now
  stands_now = record { within = within; statement = is; at = refl; operation = refl; meaning = refl }

  fault_now : first_fault (rows (map statement_of statements)) (walked (map statement_of statements)) ≡ verdict new (rows_from (walk_of new) left) (walk_after_all (walk_of new) left)
  fault_now =
      h.fault
      ∙ ap (λ (rs : List WalkRow). verdict old rs (walk_after_all (walk_of old) (s ∷ more))) rows_now
      ∙ ap (λ (w : Walk). verdict old (row_now ∷ rows_from (walk_of new) left) w) end_now
      ∙ verdict_stays index s old new k left

  taken_now : filter row_is_taken (rows (map statement_of statements)) ≡ h.before ++ filter row_is_taken (row_now ∷ rows_from (walk_of new) left)
  taken_now = h.taken ∙ ap (λ (rs : List WalkRow). h.before ++ filter row_is_taken rs) rows_now

  reached_by : (b : Bool) → is_taken (walk_of old) s ≡ b → Reaches statements new left
  reached_by true e = record {
    before = h.before ++ row_now ∷ [];
    stand = rw (k.rows, e) (stand_more statements old.rows h.before (taken_row index (walk_of old) s) row_now h.stand stands_now);
    taken = (rw e at taken_now) ∙ sym (append_assoc h.before (row_now ∷ []) (filter row_is_taken (rows_from (walk_of new) left)));
    end = h.end ∙ end_now;
    fault = fault_now;
  }
  reached_by false e = record {
    before = h.before;
    stand = rw (k.rows, e) h.stand;
    taken = rw e at taken_now;
    end = h.end ∙ end_now;
    fault = fault_now;
  }

reached : (statements : List Stmt80) (index : ℕ) (s : Statement) (old new : State) (more left : List Statement) → Reaches statements old (s ∷ more) → Steps index s old new → Follows (walk_of old) s more left → index < length statements → ((d : Stmt80) → statement_of (get_or statements index d) ≡ s) → Reaches statements new left
reached statements index s old new more left h k f within is = elim (cases_Bool (is_taken (walk_of old) s)) [
  | inl e ↦ reached_by statements index s old new more left h k f within is true e
  | inr e ↦ reached_by statements index s old new more left h k f within is false e
]

done : (statements : List Stmt80) (s : State) → Reaches statements s [] → Done statements s
done statements s h = record {
  fault = h.fault ∙ verdict_at_end s;
  names = ap (λ (w : Walk). w.names) (sym h.end);
  taken = subst (λ (rs : List WalkRow). Stand statements s.rows rs) (sym (h.taken ∙ append-nil h.before)) h.stand;
}

-- ---- in the loop over the statements

module _ (statements : List Stmt80) (i : ℕ) (x : Stmt80) (old new : State) (lt : i < length statements) (is : x ≡ get_or statements i x) (h : Reaches statements old (drop i (map statement_of statements))) (k : Steps i (statement_of x) old new) where
  left_now : drop i (map statement_of statements) ≡ statement_of x ∷ drop (i + 1) (map statement_of statements)
  left_now = rw add-one (drop-cons (map statement_of statements) i (statement_of x) (omega (arith, length-map statements statement_of))) ∙ ap (λ (s : Statement). s ∷ drop (i + 1) (map statement_of statements)) (get_or-map statement_of statements i x (statement_of x) lt ∙ ap statement_of (sym is))

  reaches_now : Reaches statements old (statement_of x ∷ drop (i + 1) (map statement_of statements))
  reaches_now = rw left_now at h

  is_now : (d : Stmt80) → statement_of (get_or statements i d) ≡ statement_of x
  is_now d = ap statement_of (get_or_default statements i d x lt ∙ sym is)

  pub reaches_next : ends (walk_of old) (statement_of x) ≡ false → Reaches statements new (drop (i + 1) (map statement_of statements))
  reaches_next e = reached statements i (statement_of x) old new _ _ reaches_now k (goes_on (walk_of old) (statement_of x) _ e) lt is_now

  pub done_at_end : ends (walk_of old) (statement_of x) ≡ true → Done statements new
  done_at_end e = done statements new (reached statements i (statement_of x) old new _ [] reaches_now k (comes_to_end (walk_of old) (statement_of x) _ e) lt is_now)
