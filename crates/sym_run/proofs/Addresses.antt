-- The addresses of a block as far as they are filled in.
use Rattle.std.proofs.Common.{◌≡◌, ◌∙◌, ℕ, zero, suc, ◌+◌, ◌-◌, ◌<◌, List, [], ◌∷◌, ◌++◌, length, take, drop, Option, Some, None, IsSome, refl, sym, ap, subst, arith, append-nil, append_assoc}
use Rattle.std.specs.Prelude.{slice_set}
use Rattle.std.proofs.lemmas.Grind.{take-set_at}
use Rattle.std.proofs.lemmas.List.{drop-take}
use Rattle.i80.specs.declared.Instr80.{Instr80}
use Rattle.i80.specs.Columns.{length80}
use Rattle.asm80_types.specs.Program.{Program, instr_at}
use Rattle.sym_block_def.specs.Block80.{instrs_from, addresses_from, address_after_all}
use Rattle.sym_block_def.proofs.Instructions.{some_there, first_is, shorter}

-- so many instructions are left, from this address on, and the others have their addresses in front
pub record Filled (p : Program) (first count at left : ℕ) (filled : List ℕ) : Type 0 where
  pub rest : filled ++ addresses_from at (instrs_from p at left) ≡ addresses_from first (instrs_from p first count)
  pub after : address_after_all at (instrs_from p at left) ≡ address_after_all first (instrs_from p first count)
  pub whole : length (instrs_from p at left) ≡ left

-- an instruction is there where one is left
pub is_there : (p : Program) (first count at left : ℕ) (filled : List ℕ) → Filled p first count at left filled → 0 < left → IsSome (instr_at p at)
is_there p first count at zero filled d le = absurd (omega arith)
is_there p first count at (suc n) filled d le = some_there (instr_at p at) (λ i. instrs_from p (at + length80 i) n) n d.whole

pub not_none : (o : Option Instr80) → IsSome o → o ≡ None → ⊥
not_none None h e = absurd (cc)
not_none (Some i) h e = absurd (cc)

one_more : (p : Program) (first count at n : ℕ) (filled : List ℕ) (i : Instr80) → Filled p first count at (suc n) filled → instr_at p at ≡ Some i → Filled p first count (at + length80 i) n (filled ++ at ∷ [])
one_more p first count at n filled i d h =
    let others = instrs_from p (at + length80 i) n in
    let is = first_is p at n i h in
    record {
      rest = append_assoc filled (at ∷ []) (addresses_from (at + length80 i) others) ∙ sym (ap (λ l. filled ++ addresses_from at l) is) ∙ d.rest;
      after = sym (ap (address_after_all at) is) ∙ d.after;
      whole = shorter i others n (sym (ap length is) ∙ d.whole);
    }

-- an address more is filled in
pub fills : (p : Program) (first count at next done : ℕ) (xs : List ℕ) (i : Instr80) → Filled p first count at (count - done) (take done xs) → instr_at p at ≡ Some i → next ≡ at + length80 i → done < count → done < length xs → Filled p first count next (count - (done + 1)) (take (done + 1) (slice_set xs done at))
fills p first count at next done xs i d h e few short =
    let less : count - done ≡ suc (count - (done + 1)) = omega arith in
    let step = one_more p first count at (count - (done + 1)) (take done xs) i (subst (λ n. Filled p first count at n (take done xs)) less d) h in
    subst (λ a. Filled p first count a (count - (done + 1)) (take (done + 1) (slice_set xs done at))) (sym e)
    (subst (λ l. Filled p first count (at + length80 i) (count - (done + 1)) l) (sym (take-set_at xs done (done + 1) at refl short)) step)

-- all are filled in
pub all_later : (p : Program) (first count at : ℕ) (xs : List ℕ) → Filled p first count at (count - count) (take count xs) → 0 < count → take (count - 1) (drop 1 xs) ≡ drop 1 (addresses_from first (instrs_from p first count))
all_later p first count at xs d some =
    let none : count - count ≡ 0 = omega arith in
    let one : count ≡ 1 + (count - 1) = omega arith in
    let all : take count xs ≡ addresses_from first (instrs_from p first count) =
    sym (append-nil (take count xs)) ∙ sym (ap (λ n. take count xs ++ addresses_from at (instrs_from p at n)) none) ∙ d.rest in
    sym (drop-take 1 (count - 1) xs) ∙ ap (λ n. drop 1 (take n xs)) (sym one) ∙ ap (drop 1) all

pub all_after : (p : Program) (first count at : ℕ) (filled : List ℕ) → Filled p first count at (count - count) filled → at ≡ address_after_all first (instrs_from p first count)
all_after p first count at filled d =
    let none : count - count ≡ 0 = omega arith in
    sym (ap (λ n. address_after_all at (instrs_from p at n)) none) ∙ d.after
