-- The eight cells below SP, one after the other.
use Rattle.std.proofs.Common.{◌≡◌, ◌≢◌, ℕ, ◌+◌, ◌-◌, ◌%◌, ◌<◌, ◌≤◌, ◌==◌, ◌&&◌, not, nat_lt, refl, sym, ap, ◌∙◌, arith, Bool, true, false, cond}
use mathlib.Core.Path.{fun_ext}
use Rattle.std.proofs.lemmas.Bool.Decides.{nat_tests}
use Rattle.cells.specs.declared.Cell.{Cell}
use Rattle.cells.specs.declared.Cell.TheVariants.{Junk}
use Rattle.dialogue.specs.Words.{wrap}
use Rattle.cpu80_tagged.specs.Memory.{put}
use Rattle.cpu80_tagged.specs.Reply.{spoiled_cells}

-- how far a cell is below SP
abbrev pub below : ℕ → ℕ → ℕ
below sp a = wrap (sp + (0xFFFF - a))

-- the cell so far below SP
abbrev pub cell_below : ℕ → ℕ → ℕ
cell_below sp k = (sp + (0x10000 - (k + 1))) % 0x10000

below-cell : (sp k : ℕ) → sp < 0x10000 → k < 8 → below sp (cell_below sp k) ≡ k
below-cell sp k h g = omega arith

cell-below : (sp k a : ℕ) → sp < 0x10000 → k < 8 → a < 0x10000 → below sp a ≡ k → a ≡ cell_below sp k
cell-below sp k a h g i e = omega arith

lt-next : (d k : ℕ) → d ≢ k → nat_lt d k ≡ nat_lt d (k + 1)
lt-next d k h = grind (arith, nat_tests)

lt-same : (d k : ℕ) → d ≡ k → nat_lt d (k + 1) ≡ true
lt-same d k h = grind (arith, nat_tests)

-- another cell than the next one below SP is spoiled by one cell more where it was
other : (closed : ℕ → Bool) (m : ℕ → Cell) (sp k a : ℕ) → ((b : ℕ) → 0x10000 ≤ b → closed b ≡ true) → sp < 0x10000 → k < 8 → a ≢ cell_below sp k → spoiled_cells k closed sp m a ≡ spoiled_cells (k + 1) closed sp m a
other closed m sp k a past h g ne = by_place (nat_lt a 0x10000) refl
  where
    by_place : (t : Bool) → nat_lt a 0x10000 ≡ t → spoiled_cells k closed sp m a ≡ spoiled_cells (k + 1) closed sp m a
    by_place true e =
        let within : a < 0x10000 = grind (arith, nat_tests) in
        let far : below sp a ≢ k = λ same. ne (cell-below sp k a h g within same) in
        ap (λ t. cond (t && not (closed a)) Junk (m a)) (lt-next (below sp a) k far)
    by_place false e =
        let beyond : 0x10000 ≤ a = grind (arith, nat_tests) in
        let shut : closed a ≡ true = past a beyond in
        outside (nat_lt (below sp a) k) (nat_lt (below sp a) (k + 1)) (closed a) shut
      where
        outside : (t u c : Bool) → c ≡ true → cond (t && not c) Junk (m a) ≡ cond (u && not c) Junk (m a)
        outside true true c e = refl
        outside true false c e = ap (λ b. cond (not b) Junk (m a)) e
        outside false true c e = sym (ap (λ b. cond (not b) Junk (m a)) e)
        outside false false c e = refl

pub spoil_more : (closed : ℕ → Bool) (m : ℕ → Cell) (sp k : ℕ) → ((b : ℕ) → 0x10000 ≤ b → closed b ≡ true) → sp < 0x10000 → k < 8 → closed (cell_below sp k) ≡ false → put (spoiled_cells k closed sp m) (cell_below sp k) Junk ≡ spoiled_cells (k + 1) closed sp m
spoil_more closed m sp k past h g open_cell = fun_ext (λ a. by_test a (a == cell_below sp k) refl)
  where
    by_test : (a : ℕ) (b : Bool) → (a == cell_below sp k) ≡ b → cond b Junk (spoiled_cells k closed sp m a) ≡ spoiled_cells (k + 1) closed sp m a
    by_test a true e =
        let at : a ≡ cell_below sp k = grind (arith, nat_tests) in
        let near : below sp a ≡ k = ap (below sp) at ∙ below-cell sp k h g in
        let shut : closed a ≡ false = ap closed at ∙ open_cell in
        sym (ap (λ t. cond (t && not (closed a)) Junk (m a)) (lt-same (below sp a) k near) ∙ ap (λ c. cond (not c) Junk (m a)) shut)
    by_test a false e = let ne : a ≢ cell_below sp k = grind (arith, nat_tests) in other closed m sp k a past h g ne

pub spoil_none : (closed : ℕ → Bool) (m : ℕ → Cell) (sp k : ℕ) → ((b : ℕ) → 0x10000 ≤ b → closed b ≡ true) → sp < 0x10000 → k < 8 → closed (cell_below sp k) ≡ true → spoiled_cells k closed sp m ≡ spoiled_cells (k + 1) closed sp m
spoil_none closed m sp k past h g shut = fun_ext (λ a. by_test a (a == cell_below sp k) refl)
  where
    by_test : (a : ℕ) (b : Bool) → (a == cell_below sp k) ≡ b → spoiled_cells k closed sp m a ≡ spoiled_cells (k + 1) closed sp m a
    by_test a true e =
        let at : a ≡ cell_below sp k = grind (arith, nat_tests) in
        let closed_here : closed a ≡ true = ap closed at ∙ shut in
        both (nat_lt (below sp a) k) (nat_lt (below sp a) (k + 1)) (closed a) closed_here
      where
        both : (t u c : Bool) → c ≡ true → cond (t && not c) Junk (m a) ≡ cond (u && not c) Junk (m a)
        both true true c e = refl
        both true false c e = ap (λ b. cond (not b) Junk (m a)) e
        both false true c e = sym (ap (λ b. cond (not b) Junk (m a)) e)
        both false false c e = refl
    by_test a false e = let ne : a ≢ cell_below sp k = grind (arith, nat_tests) in other closed m sp k a past h g ne

pub spoil_first : (closed : ℕ → Bool) (m : ℕ → Cell) (sp : ℕ) → m ≡ spoiled_cells 0 closed sp m
spoil_first closed m sp = fun_ext (λ a. by_test a (nat_lt (below sp a) 0) (grind (arith, nat_tests)))
  where
    by_test : (a : ℕ) (b : Bool) → b ≡ false → m a ≡ cond (b && not (closed a)) Junk (m a)
    by_test a b e = sym (ap (λ t. cond (t && not (closed a)) Junk (m a)) e)
