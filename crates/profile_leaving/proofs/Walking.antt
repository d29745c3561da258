-- From block to block, and what is listed of one.
use Rattle.std.proofs.Common.{◌≡◌, ◌∙◌, ℕ, zero, suc, ◌+◌, ◌-◌, ◌<◌, ◌≤◌, Bool, true, false, cond, List, [], ◌∷◌, ◌++◌, length, get_or, Option, Some, None, refl, sym, ap, subst, arith, ◌↔◌}
use Rattle.std.specs.Prelude.{drop, is_some}
use Rattle.std.specs.Option.{unwrap_or}
use Rattle.std.specs.List.{flat_map, cons_option}
use Rattle.std.proofs.lemmas.List.{drop_all, append-nil, append_assoc}
use Rattle.std.proofs.lemmas.Bool.{true≢false, false≢true}
use Rattle.cells.specs.declared.Rule.TheVariants.{P1, P9}
use Rattle.i80.specs.declared.Instr80.{Instr80}
use Rattle.i80.specs.declared.Instr80.TheVariants.{Jmp, Jif, Call, Cif}
use Rattle.i80.specs.Columns.{length80, ends80}
use Rattle.asm80_types.specs.Program.{Program, instr_at, is_start}
use Rattle.asm80_types.proofs.Lookup.{start_is}
use Rattle.flow.specs.Blocks.{blocks, leaders, block_at, place_after, IsStraight, BlocksCut}
use Rattle.flow.proofs.Indexed.{block_at_index}
use Rattle.sym_terms.specs.Term.{Term, Num}
use Rattle.profile_leaving.specs.declared.departure.Departure.{Departure}
use Rattle.profile_leaving.specs.Leaving.{number_in, known_function, is_unlisted, asking, going_on, by_rule, or_else, leaving_where, leaving_at, leaving_from, leaving}

-- ---- the number of a term

pub number_found : (t : Term) (result : Option ℕ) → ((n : ℕ) → (result ≡ Some n) ↔ (t ≡ Num n)) → result ≡ number_in t
number_found (Num n) result h = (h n).1 refl
number_found t None h = refl
number_found t (Some m) h = absurd (false≢true (ap (λ x. is_some (number_in x)) ((h m).0 refl)))

pub some_before : (n : ℕ) → (n ≡ 0 → ⊥) → 0 < n
some_before zero h = absurd (h refl)
some_before (suc n) h = omega arith

-- ---- a block

asks_none : (i : Instr80) → ends80 i ≡ false → asking i ≡ None
asks_none (Jmp g) e = absurd (true≢false e)
asks_none (Jif c g) e = absurd (true≢false e)
asks_none (Call g) e = absurd (true≢false e)
asks_none (Cif c g) e = absurd (true≢false e)
asks_none i e = refl

-- an instruction that goes on to the next one is no place
within_none : (p : Program) (at : ℕ) (function : Option ℕ) (i : Instr80) → ends80 i ≡ false → is_start p (at + length80 i) ≡ true → leaving_where p at function (Some i) ≡ None
within_none p at function i e start =
    by_unlisted (is_unlisted function)
    ∙ ap (λ b. by_rule at P1 (cond b None (going_on function i))) start
  where
    by_unlisted : (b : Bool) →
        or_else (by_rule at P9 (cond b (asking i) None)) (by_rule at P1 (cond (is_start p (at + length80 i)) None (going_on function i)))
        ≡ by_rule at P1 (cond (is_start p (at + length80 i)) None (going_on function i))
    by_unlisted true = ap (λ o. or_else (by_rule at P9 o) (by_rule at P1 (cond (is_start p (at + length80 i)) None (going_on function i)))) (asks_none i e)
    by_unlisted false = refl

-- the instruction after so many, where another one comes next
goes_next : (p : Program) (a n k : ℕ) → IsStraight p a n → suc k < n → (function : Option ℕ) → leaving_where p (place_after p a k) function (instr_at p (place_after p a k)) ≡ None
goes_next p a zero k h lt function = absurd (omega (arith, lt))
goes_next p a (suc zero) k h lt function = absurd (omega (arith, lt))
goes_next p a (suc (suc n)) zero h lt function = ap (leaving_where p a function) h.1 ∙ within_none p a function h.0 (h.2 (omega arith)) (start_is p (a + length80 h.0) h.3.0 h.3.1)
goes_next p a (suc (suc n)) (suc k) h lt function = rw (h.1) (goes_next p (a + length80 h.0) (suc n) k h.3 (omega (arith, lt)) function)

-- only the last instruction may be listed
pub last_alone : (p : Program) (a n : ℕ) (place : Option Departure) → IsStraight p a n → 0 < n → place ≡ leaving_at p a (n - 1) → leaving_from p a 0 n ≡ cons_option place []
last_alone p a n place h some e = from 0 n (omega arith) some
  where
    from : (before left : ℕ) → before + left ≡ n → 0 < left → leaving_from p a before left ≡ cons_option place []
    from before zero same some = absurd (omega (arith, some))
    from before (suc zero) same some =
        let is : n - 1 ≡ before = omega (arith, same) in
        ap (λ o. cons_option o []) (ap (leaving_at p a) (sym is) ∙ sym e)
    from before (suc (suc left)) same some =
        ap (λ o. cons_option o (leaving_from p a (suc before) (suc left))) (goes_next p a n before h (omega (arith, same)) (known_function p a before))
        ∙ from (suc before) (suc left) (omega (arith, same)) (omega arith)

-- ---- the blocks that are left

abbrev listed : Program → List (ℕ × ℕ) → List Departure
listed p bs = flat_map (λ (b : ℕ × ℕ). leaving_from p b.0 0 b.1) bs

-- what was found is followed by what is listed of the blocks that are left
abbrev pub IsFound : Program → ℕ → List Departure → Type 0
IsFound p i found = found ++ listed p (drop i (blocks p)) ≡ leaving p

-- the block that comes next
pub record IsNext (p : Program) (i leader count : ℕ) : Type 0 where
  pub rest : drop i (blocks p) ≡ (leader, count) ∷ drop (i + 1) (blocks p)
  pub straight : IsStraight p leader count
  pub some : 0 < count
  pub few : count ≤ 16

pub next_block : (p q : Program) → BlocksCut p → (ls : List ℕ) (i : ℕ) (found : Option ℕ) (count : ℕ) → q ≡ p → ls ≡ leaders q → i < length ls → found ≡ block_at q (get_or ls i 0) → count ≡ unwrap_or found 0 → IsNext p i (get_or ls i 0) count
next_block p q cut ls i found count same items lt f c =
    let b = block_at_index p ls i 0 (items ∙ ap leaders same) lt in
    let leader = get_or ls i 0 in
    let is : count ≡ b.0 = c ∙ ap (λ o. unwrap_or o 0) (f ∙ ap (λ r. block_at r leader) same ∙ cut.found leader b.0 b.1.block) in
    let sizes = cut.sizes leader b.0 b.1.block in
    subst (IsNext p i leader) (sym is)
    (record { rest = b.1.rest; straight = cut.straight leader b.0 b.1.block; some = sizes.0; few = sizes.1 })

-- what is found of one block more
pub found_more : (p : Program) (i leader count : ℕ) (found more : List Departure) → IsNext p i leader count → leaving_from p leader 0 count ≡ more → IsFound p i found → IsFound p (i + 1) (found ++ more)
found_more p i leader count found more next e h =
    append_assoc found more (listed p (drop (i + 1) (blocks p)))
    ∙ ap (λ l. found ++ (l ++ listed p (drop (i + 1) (blocks p)))) (sym e)
    ∙ ap (λ l. found ++ listed p l) (sym next.rest)
    ∙ h

pub none_found : (p : Program) (i leader count : ℕ) (found : List Departure) → IsNext p i leader count → leaving_from p leader 0 count ≡ [] → IsFound p i found → IsFound p (i + 1) found
none_found p i leader count found next e h = subst (IsFound p (i + 1)) (append-nil found) (found_more p i leader count found [] next e h)

pub all_found : (p : Program) (i : ℕ) (found : List Departure) → length (blocks p) ≤ i → IsFound p i found → found ≡ leaving p
all_found p i found le h = sym (append-nil found) ∙ ap (λ l. found ++ listed p l) (sym (drop_all i (blocks p) le)) ∙ h
