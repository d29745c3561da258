-- Along the second walk, by the index of the next row.
use Rattle.std.proofs.Common.{◌≡◌, ℕ, ◌+◌, suc, Bool, ◌<◌, ◌≤◌, length, List, [], ◌∷◌, ◌++◌, drop, get_or, map, filter, Ok, Err, sym, ap, subst, ◌∙◌, add-one, append-nil, drop-cons, drop_of_length-le}
use Rattle.std.specs.Option.{option_to_list}
use Rattle.asm80_types.specs.declared.stmt.Stmt80.{Stmt80}
use Rattle.asm80_types.specs.Tree.{statement_of}
use Rattle.base.specs.Addresses.{IsSetOf}
use Rattle.asm80_first_walk.specs.declared.walked.Taken.{Taken}
use Rattle.asm80_first_walk.specs.declared.walked.AsmFault.{AsmFault}
use Rattle.asm80_first_walk.specs.declared.walked.AsmFault.TheVariants.{Refused, Memory}
use Rattle.asm80_first_walk.specs.Walked.{IsRowOf as StandsForRow, Stand}
use Rattle.asm80_source_def.specs.Names.{Name}
use Rattle.asm80_source_def.specs.Walk.{WalkRow, rows, walked}
use Rattle.asm80_source_def.specs.Operands.{second_fault}
use Rattle.asm80_source_def.specs.Items.{fills_cells, item_rows as rows_that_fill, starts_in}
use Rattle.asm80_values.specs.declared.item.Item.{Item}
use Rattle.asm80_values.specs.Items.{AreItems}
use Rattle.asm80_values.specs.Second.{AddsItem, AreItemsOf, AreRefused}
use Rattle.asm80_values.proofs.Along.{Along, along_step, along_fault}

stands_within : (statements : List Stmt80) (t : Taken) (ts : List Taken) (left : List WalkRow) → Stand statements (t ∷ ts) left → t.statement < length statements
stands_within statements t ts [] stand = absurd stand
stands_within statements t ts (r ∷ left) stand = stand.0.within

pub index_within :
    (statements : List Stmt80) (ts : List Taken) (i : ℕ) (d : Taken) (names : List Name) (found : List Item)
    → i < length ts → Along statements (drop i ts) names found → (get_or ts i d).statement < length statements
index_within statements ts i d names found within along =
    let Rest : List Taken → Type 0 = λ us. Stand statements us along.left in
    stands_within statements (get_or ts i d) (drop (suc i) ts) along.left (subst Rest (drop-cons ts i d within) along.stand)

-- the row at an index of the rows that are taken, and its statement
module _
    (statements : List Stmt80) (ts : List Taken) (i : ℕ) (d : Taken) (s : Stmt80) (within : i < length ts) (is : s ≡ get_or statements (get_or ts i d).statement s)
    (names : List Name) (found : List Item) (along : Along statements (drop i ts) names found) (flags : List Bool) (starts : IsSetOf flags (starts_in (rows (map statement_of statements)))) where
  here : Along statements (get_or ts i d ∷ drop (suc i) ts) names found
  here =
      let Rest : List Taken → Type 0 = λ us. Along statements us names found in
      subst Rest (drop-cons ts i d within) along

  same : (r : WalkRow) → StandsForRow statements (get_or ts i d) r → statement_of s ≡ r.statement
  same r stands = ap statement_of is ∙ stands.statement s

  -- the rows that it may stand for
  abbrev Is : WalkRow → Type 0
  Is r = (others : List Stmt80) × StandsForRow others (get_or ts i d) r × (statement_of s ≡ r.statement)

  is_row : (r : WalkRow) → StandsForRow statements (get_or ts i d) r → Is r
  is_row r stands = (statements, stands, same r stands)

  pub index_step :
      (next : List Name) (more : List Item) → AddsItem Is names flags found next more (Ok tt)
      → Along statements (drop (i + 1) ts) next more
  index_step next more added =
      let Rest : ℕ → List Item → Type 0 = λ k items. Along statements (drop k ts) next items in
      let step = along_step statements (get_or ts i d) (drop (suc i) ts) names flags starts found added.0 next here (λ r stands. added.2 r (is_row r stands)) (λ r stands. added.3 r (is_row r stands)) in
      subst (λ (items : List Item). Rest (i + 1) items) (sym added.1) (subst (λ (k : ℕ). Rest k (found ++ option_to_list added.0)) (sym (add-one i)) step)

  pub index_fault : (fault : AsmFault) (next : List Name) (more : List Item) → AddsItem Is names flags found next more (Err fault) → AreRefused statements fault
  index_fault (Refused line rule) next more item = along_fault statements (get_or ts i d) (drop (suc i) ts) names flags starts found line rule here (λ r stands. item r (is_row r stands))
  index_fault Memory next more item = tt

-- ---- at the end

end_by :
    (statements : List Stmt80) (found : List Item) (left : List WalkRow) → Stand statements [] left
    → second_fault (walked (map statement_of statements)) (rows (map statement_of statements)) ≡ second_fault (walked (map statement_of statements)) left
    → ((is : List Item) → AreItems (rows (map statement_of statements)) (walked (map statement_of statements)) is (filter fills_cells left) → AreItems (rows (map statement_of statements)) (walked (map statement_of statements)) (found ++ is) (rows_that_fill (rows (map statement_of statements))))
    → AreItemsOf statements found
end_by statements found [] stand fault more =
    let Whole : List Item → Type 0 = λ xs. AreItems (rows (map statement_of statements)) (walked (map statement_of statements)) xs (rows_that_fill (rows (map statement_of statements))) in
    (fault, subst Whole (append-nil found) (more [] tt))
end_by statements found (r ∷ left) stand fault more = absurd stand

pub index_end : (statements : List Stmt80) (ts : List Taken) (i : ℕ) (names : List Name) (found : List Item) → length ts ≤ i → Along statements (drop i ts) names found → AreItemsOf statements found
index_end statements ts i names found le along =
    let Rest : List Taken → Type 0 = λ us. Along statements us names found in
    let a = subst Rest (drop_of_length-le ts le) along in
    end_by statements found a.left a.stand a.fault a.more
