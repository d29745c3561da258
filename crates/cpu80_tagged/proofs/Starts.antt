-- The cells of a program that are starts, and those past 64K at the start: closed, no start, and of none is anything known.
use Rattle.std.proofs.Common.{◌≡◌, ℕ, ◌-◌, ◌<◌, ◌≤◌, ◌+◌, List, [], ◌∷◌, ◌++◌, length, get_or, ap, ◌∙◌, arith, true, below_more, length-append, None, Some, is_some, Bool, false, cond, ltb, ◌||◌, ◌==◌, refl, sym, subst}
use Rattle.std.proofs.lemmas.Bool.Decides.{nat_tests}
use Rattle.std.proofs.lemmas.Bool.{ltb-true, ltb-false}
use Rattle.std.proofs.lemmas.List.{get_or_append_left, get_or_past, get_or_push}
use Rattle.cells.specs.declared.Cell.TheVariants.{Junk}
use Rattle.asm80_types.specs.Program.{Program, IsProgram, cell_at, placed_in, covers, is_covered, is_code, is_start}
use Rattle.asm80_types.specs.declared.program.Placed.{Placed}
use Rattle.cpu80_tagged.specs.declared.area.CellUse.{CellUse}
use Rattle.cpu80_tagged.specs.declared.area.CellUse.TheVariants.{Closed}
use Rattle.cpu80_tagged.specs.Area.{is_closed_use, is_start_use}
use Rattle.asm80_types.proofs.CellSearch.{no_cell}
use Rattle.asm80_types.proofs.Lookup.{length80-positive}
use Rattle.asm80_types.proofs.Standing.{start_range}
use Rattle.cpu80_tagged.specs.Memory.{is_closed}
use Rattle.cpu80_tagged.specs.Start.{start_cell80, cell_or_junk}

closed_past : (p : Program) (a : ℕ) → p.top ≤ a → is_closed p a ≡ true
closed_past p a h = grind (arith, nat_tests)

-- past 64K no instruction starts
no_start_past : (p : Program) (a : ℕ) → IsProgram p → 0x10000 ≤ a → is_start p a ≡ false
no_start_past p a g le = by_test (is_start p a) refl
  where
    by_test : (b : Bool) → is_start p a ≡ b → b ≡ false
    by_test false e = refl
    by_test true e = absurd (omega (arith, (start_range p a g e).1))

-- where an instruction starts, the cell is one of it
covered_by_rest : (x : Placed) (xs : List Placed) (a : ℕ) → (is_some (placed_in xs a) ≡ true → is_covered xs a ≡ true) → (b : Bool) → (x.at == a) ≡ b → is_some (cond b (Some x) (placed_in xs a)) ≡ true → (covers x a || is_covered xs a) ≡ true
covered_by_rest x xs a rest true e t = let long = length80-positive x.instr in grind (arith, nat_tests)
covered_by_rest x xs a rest false e t = let found = rest t in grind (arith, nat_tests)

start_covered : (xs : List Placed) (a : ℕ) → is_some (placed_in xs a) ≡ true → is_covered xs a ≡ true
start_covered [] a h = absurd (cc)
start_covered (x ∷ xs) a h = covered_by_rest x xs a (start_covered xs a) (x.at == a) refl h

-- at an open cell no instruction starts
pub no_start_open : (p : Program) (a : ℕ) → is_closed p a ≡ false → is_start p a ≡ false
no_start_open p a h = by_test (is_start p a) refl
  where
    by_test : (b : Bool) → is_start p a ≡ b → b ≡ false
    by_test false e = refl
    by_test true e = let code : is_code p a ≡ true = start_covered p.instrs a e in grind (arith, nat_tests)

pub start_past : (p : Program) (page : List ℕ) (a : ℕ) → IsProgram p → p.top ≤ 0xFF00 → 0x10000 ≤ a → start_cell80 p page a ≡ Junk
start_past p page a h top le =
    let none : cell_at p a ≡ None = no_cell p.instrs 0x100 (p.top - 2) a p.cells h.cells (omega arith) in
    let junk : cell_or_junk (cell_at p a) ≡ Junk = ap cell_or_junk none in
    grind (arith, nat_tests)

-- what is kept of a cell: whether it is closed, and whether an instruction starts there
pub record IsUseOf (p : Program) (a : ℕ) (u : CellUse) : Type 0 where
  pub closed : is_closed_use u ≡ is_closed p a
  pub start : is_start_use u ≡ is_start p a

pub use_past : (p : Program) (a : ℕ) → IsProgram p → p.top ≤ 0xFF00 → 0x10000 ≤ a → IsUseOf p a Closed
use_past p a h top le = record {
  closed = sym (closed_past p a (omega arith));
  start = sym (no_start_past p a h le);
}

-- one item more of a list that is filled in order
pub record Filled {X : Type 0} (d : X) (is_good : ℕ → X → Type 0) (xs : List X) (n : ℕ) : Type 0 where
  pub size : length xs ≡ n
  pub each : (a : ℕ) → a < n → is_good a (get_or xs a d)

pub filled_more : {X : Type 0} (d : X) (is_good : ℕ → X → Type 0) (xs more : List X) (v : X) (n : ℕ) → Filled d is_good xs n → more ≡ xs ++ v ∷ [] → is_good n v → Filled d is_good more (n + 1)
filled_more d is_good xs more v n h e good = record {
  size = ap length e ∙ simp length-append (ap (λ k. k + 1) h.size);
  each = below_more _ _ (λ a lt. let within : a < length xs = omega (arith, h.size) in subst (is_good a) (sym (ap (λ ys. get_or ys a d) e ∙ get_or_append_left xs (v ∷ []) d a within)) (h.each a lt))
      (subst (is_good n) (sym (ap (λ ys. get_or ys n d) e ∙ get_or_push xs v d n h.size)) good);
}

-- a list that is filled to the end, with what holds past it
pub filled_all : {X : Type 0} (d : X) (is_good : ℕ → X → Type 0) (xs : List X) (n m : ℕ) → Filled d is_good xs n → n ≡ m → ((a : ℕ) → m ≤ a → is_good a d) → (a : ℕ) → is_good a (get_or xs a d)
filled_all d is_good xs n m h e past a = by_place (ltb a m) refl
  where
    by_place : (b : Bool) → ltb a m ≡ b → is_good a (get_or xs a d)
    by_place true lt = h.each a (let below = ltb-true a m lt in omega arith)
    by_place false le =
        let beyond = ltb-false a m le in
        subst (is_good a) (sym (get_or_past xs a d (let size = h.size in omega arith))) (past a beyond)
