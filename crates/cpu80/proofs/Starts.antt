-- Memory at the start, which is filled in order.
use Rattle.std.proofs.Common.{◌≡◌, ℕ, ◌-◌, ◌<◌, ◌≤◌, ◌+◌, List, [], ◌∷◌, ◌++◌, length, get_or, refl, ap, ◌∙◌, sym, arith, Bool, true, false, below_more, length-append, None, nat_lt}
use mathlib.Core.Path.{fun_ext}
use Rattle.std.proofs.lemmas.Bool.Decides.{nat_tests}
use Rattle.std.proofs.lemmas.List.{get_or_append_left, get_or_push, get_or_past}
use Rattle.asm80_types.specs.Program.{Program, IsProgram, cell_at}
use Rattle.asm80_types.proofs.CellSearch.{no_cell}
use Rattle.cpu80.specs.Start.{datum_or, start_byte}

-- past 64K there are zeros
start_past : (p : Program) (page fill : List ℕ) (a : ℕ) → IsProgram p → p.top ≤ 0xFF00 → length fill ≡ 0x10000 → 0x10000 ≤ a → start_byte p page fill a ≡ 0
start_past p page fill a h top size le =
    let none : cell_at p a ≡ None = no_cell p.instrs 0x100 (p.top - 2) a p.cells h.cells (omega arith) in
    let past : get_or fill a 0 ≡ 0 = get_or_past fill a 0 (omega arith) in
    let zero : datum_or (cell_at p a) (get_or fill a 0) ≡ 0 = ap (λ o. datum_or o (get_or fill a 0)) none ∙ past in
    grind (arith, nat_tests)

pub record Filled (f : ℕ → ℕ) (bytes : List ℕ) (n : ℕ) : Type 0 where
  pub size : length bytes ≡ n
  pub each : (a : ℕ) → a < n → get_or bytes a 0 ≡ f a

-- one byte more
pub filled_more : (f : ℕ → ℕ) (bytes more : List ℕ) (v n : ℕ) → Filled f bytes n → more ≡ bytes ++ v ∷ [] → v ≡ f n → Filled f more (n + 1)
filled_more f bytes more v n h e is = record {
  size = ap length e ∙ simp length-append (ap (λ k. k + 1) h.size);
  each = below_more _ _ (λ a lt. let within : a < length bytes = omega (arith, h.size) in ap (λ xs. get_or xs a 0) e ∙ get_or_append_left bytes (v ∷ []) 0 a within ∙ h.each a lt)
      (ap (λ xs. get_or xs n 0) e ∙ get_or_push bytes v 0 n h.size ∙ is);
}

-- all of them
pub filled : (p : Program) (page fill bytes : List ℕ) → IsProgram p → p.top ≤ 0xFF00 → length fill ≡ 0x10000 → Filled (start_byte p page fill) bytes 0x10000 → (λ a. get_or bytes a 0) ≡ start_byte p page fill
filled p page fill bytes g top size h = fun_ext (λ a. by_place a (nat_lt a 0x10000) refl)
  where
    by_place : (a : ℕ) (b : Bool) → nat_lt a 0x10000 ≡ b → get_or bytes a 0 ≡ start_byte p page fill a
    by_place a true e = h.each a (grind (arith, nat_tests))
    by_place a false e =
        let le : 0x10000 ≤ a = grind (arith, nat_tests) in
        get_or_past bytes a 0 (omega (arith, h.size)) ∙ sym (start_past p page fill a g top size le)
