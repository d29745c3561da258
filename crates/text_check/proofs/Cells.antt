-- The data cells one by one, and the byte of an image's cell, found by halves.
use Rattle.std.proofs.Common.{◌≡◌, ◌≢◌, ◌∙◌, ◌↔◌, ℕ, zero, suc, ◌+◌, ◌-◌, ◌<◌, ◌≤◌, ◌==◌, Bool, true, false, cond, List, [], ◌∷◌, length, get_or, Option, Some, None, Ok, Err, refl, sym, ap, subst, arith, ◌⊎◌, inl, inr}
use Rattle.std.specs.List.Sorted.{IsBinarySearchResult, IsNonDecreasingBy, IsStrictlyIncreasing}
use Rattle.std.specs.Prelude.{IsTrue, drop}
use Rattle.std.proofs.Math.Seq.{drop-cons}
use Rattle.std.proofs.lemmas.List.{drop_all}
use Rattle.std.specs.Ordering.{nat_cmp, ordering_index}
use Rattle.std.specs.Map.{keys_of}
use Rattle.std.proofs.lemmas.Bool.{cases_lt, eqb-true, eq-eqb}
use Rattle.std.proofs.lemmas.Bool.Decides.{nat_tests}
use Rattle.std.proofs.lemmas.Cmp.{ranked}
use Rattle.std.proofs.lemmas.Map.Keys.{sorted_from_strictly_increasing, below_from_sorted}
use Rattle.cells.specs.declared.Cell.{Cell}
use Rattle.asm86_line_types.specs.Image.{Image}
use Rattle.asm80_types.specs.declared.program.Placed.{Placed}
use Rattle.asm80_types.specs.Program.{Program, IsProgram, cell_in, CellsAreLaid}
use Rattle.simulation_def.specs.Matches.{first_or, byte_at}
use Rattle.text_check.specs.Parts.{CellStands, DataStandIn}

-- ---- cells one by one

abbrev pub AllStand : Image → List (ℕ × Cell) → Type 0
AllStand image [] = Unit {0}
AllStand image (c ∷ cs) = CellStands image c.0 c.1 × AllStand image cs

all_stand : (image : Image) (cs : List (ℕ × Cell)) → AllStand image cs → (a : ℕ) (c : Cell) → cell_in cs a ≡ Some c → CellStands image a c
all_stand image [] all a c h = absurd (cc)
all_stand image (x ∷ xs) all a c h = by_test (x.0 == a) refl h (all_stand image xs all.1 a c)
  where
    value_is : (v w : Cell) → ◌≡◌ {A = Option Cell} (Some v) (Some w) → v ≡ w
    value_is v w e = cc

    by_test : (t : Bool) → (x.0 == a) ≡ t → cond t (Some x.1) (cell_in xs a) ≡ Some c → (cell_in xs a ≡ Some c → CellStands image a c) → CellStands image a c
    by_test true e g later = subst (λ (n : ℕ). CellStands image n c) (eqb-true x.0 a e) (subst (λ (v : Cell). CellStands image x.0 v) (value_is x.1 c g) all.0)
    by_test false e g later = later g

-- a cell that is found among laid ones stands from their place up
found_from : (instrs : List Placed) (from limit a : ℕ) (c : Cell) (cs : List (ℕ × Cell)) → CellsAreLaid instrs from limit cs → cell_in cs a ≡ Some c → from ≤ a
found_from instrs from limit a c [] laid h = absurd (cc)
found_from instrs from limit a c (x ∷ xs) laid h = by_test (x.0 == a) refl h (found_from instrs (x.0 + 1) limit a c xs laid.3)
  where
    by_test : (t : Bool) → (x.0 == a) ≡ t → cond t (Some x.1) (cell_in xs a) ≡ Some c → (cell_in xs a ≡ Some c → x.0 + 1 ≤ a) → from ≤ a
    by_test true e g later = let same = eqb-true x.0 a e in let above = laid.0 in omega (arith, same, above)
    by_test false e g later = let above = laid.0 in let more = later g in omega (arith, above, more)

each_stands : (image : Image) (instrs : List Placed) (from limit : ℕ) (cs : List (ℕ × Cell)) → CellsAreLaid instrs from limit cs → ((a : ℕ) (c : Cell) → cell_in cs a ≡ Some c → CellStands image a c) → AllStand image cs
each_stands image instrs from limit [] laid h = tt
each_stands image instrs from limit (x ∷ xs) laid h = (
  h x.0 x.1 (ap (λ t. cond t (Some x.1) (cell_in xs x.0)) (eq-eqb x.0 x.0 refl)),
  each_stands image instrs (x.0 + 1) limit xs laid.3 (λ a c e. h a c (further a c e)),
)
  where
    further : (a : ℕ) (c : Cell) → cell_in xs a ≡ Some c → cond (x.0 == a) (Some x.1) (cell_in xs a) ≡ Some c
    further a c e =
        let past = found_from instrs (x.0 + 1) limit a c xs laid.3 e in
        let differs : (x.0 == a) ≡ false = grind (arith, nat_tests) in
        ap (λ t. cond t (Some x.1) (cell_in xs a)) differs ∙ e

pub data_stand_by_all : (p : Program) (image : Image) → IsProgram p → DataStandIn p image ↔ AllStand image p.cells
data_stand_by_all p image is = (
  λ h. each_stands image p.instrs 0x100 (p.top - 2) p.cells is.cells h,
  λ all a c e. all_stand image p.cells all a c e,
)

pub not_true : (b : Bool) → b ≡ false → IsTrue b → ⊥
not_true b e h = cc

-- a cell that does not stand
pub one_not : (p : Program) (image : Image) (cs : List (ℕ × Cell)) (i : ℕ) (d : ℕ × Cell) → IsProgram p → cs ≡ p.cells → i < length cs → AllStand image (drop i cs) ↔ AllStand image cs → (CellStands image (get_or cs i d).0 (get_or cs i d).1 → ⊥) → DataStandIn p image → ⊥
one_not p image cs i d is e lt inv fails h =
    let all = subst (AllStand image) (sym e) ((data_stand_by_all p image is).0 h) in
    fails ((subst (AllStand image) (drop-cons cs i d lt) (inv.1 all)).0)

-- all cells have been looked at
pub all_do : (p : Program) (image : Image) (cs : List (ℕ × Cell)) (i : ℕ) → IsProgram p → cs ≡ p.cells → length cs ≤ i → AllStand image (drop i cs) ↔ AllStand image cs → DataStandIn p image
all_do p image cs i is e le inv = (data_stand_by_all p image is).1 (subst (AllStand image) e (inv.0 (subst (AllStand image) (sym (drop_all i cs le)) tt)))

-- ---- the byte of an image's cell

-- each address is below the next
abbrev pub Rising : List (ℕ × ℕ) → Type 0
Rising cs = (i j : ℕ) (d : ℕ × ℕ) → i < j → j < length cs → (get_or cs i d).0 < (get_or cs j d).0

key_at : (cs : List (ℕ × ℕ)) (k : ℕ) (d : ℕ × ℕ) → get_or (keys_of cs) k d.0 ≡ (get_or cs k d).0
key_at [] k d = refl
key_at (c ∷ cs) zero d = refl
key_at (c ∷ cs) (suc k) d = key_at cs k d

keys_count : (cs : List (ℕ × ℕ)) → length (keys_of cs) ≡ length cs
keys_count [] = refl
keys_count (c ∷ cs) = ap suc (keys_count cs)

pub rising : (cs : List (ℕ × ℕ)) → IsStrictlyIncreasing (keys_of cs) → Rising cs
rising cs h i j d before within =
    let below = below_from_sorted (keys_of cs) i j d.0 (sorted_from_strictly_increasing (keys_of cs) h) before (let count = keys_count cs in omega (arith, count, within)) in
    subst (λ n. n < (get_or cs j d).0) (key_at cs i d) (subst (λ n. get_or (keys_of cs) i d.0 < n) (key_at cs j d) below)

rest_rises : (c : ℕ × ℕ) (cs : List (ℕ × ℕ)) → Rising (c ∷ cs) → Rising cs
rest_rises c cs r i j d before within = r (suc i) (suc j) d (omega arith) (omega arith)

byte_nowhere : (cs : List (ℕ × ℕ)) (a : ℕ) → ((k : ℕ) (d : ℕ × ℕ) → k < length cs → (get_or cs k d).0 ≢ a) → byte_at cs a ≡ None
byte_nowhere [] a nowhere = refl
byte_nowhere (c ∷ cs) a nowhere =
    let differs = nowhere 0 c (omega arith) in
    let test : (c.0 == a) ≡ false = grind (arith, nat_tests) in
    ap (λ o. first_or o (cond (c.0 == a) (Some c.1) None)) (byte_nowhere cs a (λ k d lt. nowhere (suc k) d (omega arith)))
    ∙ ap (λ t. cond t (Some c.1) None) test

byte_here : (cs : List (ℕ × ℕ)) (a k : ℕ) (d : ℕ × ℕ) → Rising cs → k < length cs → (get_or cs k d).0 ≡ a → byte_at cs a ≡ Some (get_or cs k d).1
byte_here [] a k d r lt here = absurd (omega arith)
byte_here (c ∷ cs) a zero d r lt here =
    let test : (c.0 == a) ≡ true = grind (arith, nat_tests) in
    ap (λ o. first_or o (cond (c.0 == a) (Some c.1) None)) (byte_nowhere cs a (λ k e l. let above = r 0 (suc k) e (omega arith) (omega arith) in omega (arith, above, here)))
    ∙ ap (λ t. cond t (Some c.1) None) test
byte_here (c ∷ cs) a (suc k) d r lt here =
    ap (λ o. first_or o (cond (c.0 == a) (Some c.1) None)) (byte_here cs a k d (rest_rises c cs r) (omega arith) here)

module _ (cs : List (ℕ × ℕ)) (a : ℕ) (r : Rising cs) where
  comparisons_rise : IsNonDecreasingBy (λ (c : ℕ × ℕ). ordering_index (nat_cmp c.0 a)) cs
  comparisons_rise i j d le lt = by_cases (cases_lt i j)
    where
      by_cases : (i < j) ⊎ (j ≤ i) → ordering_index (nat_cmp (get_or cs i d).0 a) ≤ ordering_index (nat_cmp (get_or cs j d).0 a)
      by_cases (inl before) = let below = r i j d before lt in grind (arith, nat_tests)
      by_cases (inr same) = let equal : i ≡ j = omega arith in subst (λ k. ordering_index (nat_cmp (get_or cs i d).0 a) ≤ ordering_index (nat_cmp (get_or cs k d).0 a)) equal (omega arith)

  pub byte_found : (k : ℕ) (d : ℕ × ℕ) → k < length cs → IsBinarySearchResult (λ (c : ℕ × ℕ). nat_cmp c.0 a) cs (Ok k) → byte_at cs a ≡ Some (get_or cs k d).1
  byte_found k d lt found = byte_here cs a k d r lt (ranked _ a _ (sym (found d)))

  pub byte_absent : (k : ℕ) → IsBinarySearchResult (λ (c : ℕ × ℕ). nat_cmp c.0 a) cs (Err k) → byte_at cs a ≡ None
  byte_absent k found = byte_nowhere cs a (λ j d lt here. elim (cases_lt j k) [
    | inl before ↦ let below : (get_or cs j d).0 < a = ranked _ a _ (sym ((found comparisons_rise).0 j d (omega arith) before)) in omega arith
    | inr past ↦ let above : a < (get_or cs j d).0 = ranked _ a _ (sym ((found comparisons_rise).1 j d past lt)) in omega arith
  ])
