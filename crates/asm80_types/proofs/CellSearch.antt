-- Looking an address up in data cells.
use Rattle.std.proofs.Common.{◌≡◌, ℕ, zero, suc, ◌+◌, ◌<◌, ◌≤◌, ◌≢◌, ◌==◌, eqb, false, cond, List, [], ◌∷◌, length, get_or, Some, None, Ok, Err, refl, sym, ap, ◌∙◌, inl, inr, arith}
use Rattle.std.specs.List.Sorted.{IsBinarySearchResult, IsNonDecreasingBy}
use Rattle.std.specs.Ordering.{nat_cmp, ordering_index}
use Rattle.std.proofs.lemmas.Bool.{cases_lt}
use Rattle.std.proofs.lemmas.Bool.Decides.{nat_tests}
use Rattle.std.proofs.lemmas.Cmp.{ranked}
use Rattle.cells.specs.declared.Cell.{Cell}
use Rattle.asm80_types.specs.declared.program.Placed.{Placed}
use Rattle.asm80_types.specs.Program.{cell_in, CellsAreLaid}

-- the addresses rise
above-cells : (xs : List Placed) (cs : List (ℕ × Cell)) (from limit j : ℕ) (d : ℕ × Cell) → CellsAreLaid xs from limit cs → j < length cs → from ≤ (get_or cs j d).0
above-cells xs [] from limit j d laid lt = absurd (omega arith)
above-cells xs (c ∷ cs) from limit zero d laid lt = laid.0
above-cells xs (c ∷ cs) from limit (suc j) d laid lt = omega (arith, laid.0, above-cells xs cs (c.0 + 1) limit j d laid.3 (omega arith))

rising-cells : (xs : List Placed) (cs : List (ℕ × Cell)) (from limit i j : ℕ) (d : ℕ × Cell) → CellsAreLaid xs from limit cs → i ≤ j → j < length cs → (get_or cs i d).0 ≤ (get_or cs j d).0
rising-cells xs [] from limit i j d laid le lt = absurd (omega arith)
rising-cells xs (c ∷ cs) from limit zero zero d laid le lt = omega arith
rising-cells xs (c ∷ cs) from limit zero (suc j) d laid le lt = omega (arith, above-cells xs cs (c.0 + 1) limit j d laid.3 (omega arith))
rising-cells xs (c ∷ cs) from limit (suc i) zero d laid le lt = absurd (omega arith)
rising-cells xs (c ∷ cs) from limit (suc i) (suc j) d laid le lt = rising-cells xs cs (c.0 + 1) limit i j d laid.3 (omega arith) (omega arith)

-- a cell that stands at the address is the one that is found
cell_in-here : (xs : List Placed) (cs : List (ℕ × Cell)) (from limit a k : ℕ) (d : ℕ × Cell) → CellsAreLaid xs from limit cs → k < length cs → (get_or cs k d).0 ≡ a → cell_in cs a ≡ Some (get_or cs k d).1
cell_in-here xs [] from limit a k d laid lt here = absurd (omega arith)
cell_in-here xs (c ∷ cs) from limit a zero d laid lt here = grind (arith, nat_tests)
cell_in-here xs (c ∷ cs) from limit a (suc k) d laid lt here =
    let past = above-cells xs cs (c.0 + 1) limit k d laid.3 (omega arith) in
    let differs : eqb c.0 a ≡ false = grind (arith, nat_tests) in
    rw differs (cell_in-here xs cs (c.0 + 1) limit a k d laid.3 (omega arith) here)

-- where no cell stands at the address, none is found
cell_in-nowhere : (cs : List (ℕ × Cell)) (a : ℕ) → ((k : ℕ) (d : ℕ × Cell) → k < length cs → (get_or cs k d).0 ≢ a) → cell_in cs a ≡ None
cell_in-nowhere [] a nowhere = refl
cell_in-nowhere (c ∷ cs) a nowhere =
    let differs = nowhere 0 c (omega arith) in
    let rest = cell_in-nowhere cs a (λ k d lt. nowhere (suc k) d (omega arith)) in
    grind (arith, nat_tests)

-- past the area there is none
pub no_cell : (instrs : List Placed) (from limit a : ℕ) (cs : List (ℕ × Cell)) → CellsAreLaid instrs from limit cs → limit ≤ a → cell_in cs a ≡ None
no_cell instrs from limit a [] h le = refl
no_cell instrs from limit a (c ∷ cs) h le =
    let lt : c.0 < limit = h.1 in
    let ne : (c.0 == a) ≡ false = grind (arith, nat_tests) in
    ap (λ b. cond b (Some c.1) (cell_in cs a)) ne ∙ no_cell instrs (c.0 + 1) limit a cs h.3 le

-- what a search by halves finds
module _ (xs : List Placed) (cs : List (ℕ × Cell)) (from limit a : ℕ) (laid : CellsAreLaid xs from limit cs) where
  comparisons_rise : IsNonDecreasingBy (λ (c : ℕ × Cell). ordering_index (nat_cmp c.0 a)) cs
  comparisons_rise i j d le lt = let rise = rising-cells xs cs from limit i j d laid le lt in grind (arith, nat_tests)

  pub cell_in-found : (k : ℕ) (d : ℕ × Cell) → k < length cs → IsBinarySearchResult (λ (c : ℕ × Cell). nat_cmp c.0 a) cs (Ok k) → cell_in cs a ≡ Some (get_or cs k d).1
  cell_in-found k d lt found = cell_in-here xs cs from limit a k d laid lt (ranked _ a _ (sym (found d)))

  pub cell_in-absent : (k : ℕ) → IsBinarySearchResult (λ (c : ℕ × Cell). nat_cmp c.0 a) cs (Err k) → cell_in cs a ≡ None
  cell_in-absent k found = cell_in-nowhere cs a (λ j d lt here. elim (cases_lt j k) [
    | inl before ↦ let below : (get_or cs j d).0 < a = ranked _ a _ (sym ((found comparisons_rise).0 j d (omega arith) before)) in omega arith
    | inr past ↦ let above : a < (get_or cs j d).0 = ranked _ a _ (sym ((found comparisons_rise).1 j d past lt)) in omega arith
  ])

-- each is within the area, and there are no more of them than addresses
pub cell_at-laid : (xs : List Placed) (cs : List (ℕ × Cell)) (from limit k : ℕ) (d : ℕ × Cell) → CellsAreLaid xs from limit cs → k < length cs → (from ≤ (get_or cs k d).0) × ((get_or cs k d).0 < limit)
cell_at-laid xs [] from limit k d laid lt = absurd (omega arith)
cell_at-laid xs (c ∷ cs) from limit zero d laid lt = (laid.0, laid.1)
cell_at-laid xs (c ∷ cs) from limit (suc k) d laid lt =
    let rest = cell_at-laid xs cs (c.0 + 1) limit k d laid.3 (omega arith) in
    (omega (arith, laid.0, rest.0), rest.1)

pub length-cells : (xs : List Placed) (cs : List (ℕ × Cell)) (from limit : ℕ) → CellsAreLaid xs from limit cs → from ≤ limit → from + length cs ≤ limit
length-cells xs [] from limit laid le = omega arith
length-cells xs (c ∷ cs) from limit laid le =
    omega (arith, laid.0, length-cells xs cs (c.0 + 1) limit laid.3 (omega (arith, laid.1)))
