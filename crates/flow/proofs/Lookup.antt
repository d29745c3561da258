-- Looking a leader up.
use Rattle.std.proofs.Common.{◌≡◌, ℕ, suc, ◌-◌, ◌<◌, ◌≤◌, Bool, true, false, eqb, List, [], ◌∷◌, length, get_or, map, Some, None, Result, Ok, Err, MatchResult, refl, sym, ap, ◌∙◌, ⊎_elim, arith}
use Rattle.std.specs.List.Sorted.{IsBinarySearchResult}
use Rattle.std.specs.Ordering.{nat_cmp}
use Rattle.std.proofs.lemmas.Bool.{cases_lt, eqb-true}
use Rattle.std.proofs.lemmas.List.{length-map, get_or-map}
use Rattle.std.proofs.lemmas.List.Sorted.{searched}
use Rattle.asm80_types.specs.Program.{Program, IsProgram}
use Rattle.asm80_types.proofs.Lookup.{rising-laid}
use Rattle.flow.specs.Blocks.{extent, blocks, leaders, leader_of, count_in, block_at}
use Rattle.flow.proofs.Cuts.{offset, offset-rises, block}
use Rattle.flow.proofs.Extents.{cut, no_placed, leader_placed, block_found}
use Rattle.flow.proofs.Laid.{at_place}

length-leaders : (p : Program) → length (leaders p) ≡ length (cut p)
length-leaders p = length-map (blocks p) (λ (b : ℕ × ℕ). b.0) ∙ length-map (cut p) extent

leader_at : (p : Program) (i : ℕ) → i < length (cut p) → get_or (leaders p) i 0 ≡ leader_of (block (cut p) i)
leader_at p i lt =
    get_or-map (λ (b : ℕ × ℕ). b.0) (blocks p) i (0, 0) 0 (omega (arith, lt, length-map (cut p) extent))
    ∙ ap (λ (e : ℕ × ℕ). e.0) (get_or-map extent (cut p) i [] (0, 0) lt)

-- they rise
leaders_rise : (p : Program) → IsProgram p → (i j : ℕ) → i ≤ j → j < length (leaders p) → get_or (leaders p) i 0 ≤ get_or (leaders p) j 0
leaders_rise p is i j le lt =
    let ltj : j < length (cut p) = omega (arith, lt, length-leaders p) in
    let lti : i < length (cut p) = omega (arith, ltj, le) in
    let x = leader_placed p is i lti in
    let y = leader_placed p is j ltj in
    let higher = rising-laid p.instrs 0x100 (p.top - 2) (offset (cut p) i) (offset (cut p) j) is.instrs (offset-rises (cut p) i j le) y.0 in
    omega (arith, higher, leader_at p i lti, leader_at p j ltj, x.1, y.1, at_place p.instrs (offset (cut p) i) no_placed x.0, at_place p.instrs (offset (cut p) j) no_placed y.0)

count_step : (b : ℕ × ℕ) (bs : List (ℕ × ℕ)) (a : ℕ) (t : Bool) → eqb b.0 a ≡ t → (b.0 ≡ a → ⊥) → count_in bs a ≡ None → count_in (b ∷ bs) a ≡ None
count_step b bs a true e not rest = absurd (not (eqb-true b.0 a e))
count_step b bs a false e not rest = rw e rest

count_none : (bs : List (ℕ × ℕ)) (a : ℕ) → ((k : ℕ) → k < length bs → get_or (map (λ (b : ℕ × ℕ). b.0) bs) k 0 ≡ a → ⊥) → count_in bs a ≡ None
count_none [] a none = refl
count_none (b ∷ bs) a none = count_step b bs a (eqb b.0 a) refl (none 0 (omega arith)) (count_none bs a (λ k lt. none (suc k) (omega arith)))

pub block_searched : (p : Program) → IsProgram p → (a : ℕ) (r : Result ℕ ℕ) → IsBinarySearchResult (λ y. nat_cmp y a) (leaders p) r → MatchResult r (λ k. (k < length (cut p)) × (Some (length (block (cut p) k)) ≡ block_at p a)) (λ k. None ≡ block_at p a)
block_searched p is a r found = by_result r (searched (leaders p) a r found (leaders_rise p is))
  where
    by_result : (r : Result ℕ ℕ) → MatchResult r (λ i. (i < length (leaders p)) × (get_or (leaders p) i 0 ≡ a)) (λ i. (i ≤ length (leaders p)) × ((k : ℕ) → k < i → get_or (leaders p) k 0 < a) × ((k : ℕ) → i ≤ k → k < length (leaders p) → a < get_or (leaders p) k 0)) → MatchResult r (λ k. (k < length (cut p)) × (Some (length (block (cut p) k)) ≡ block_at p a)) (λ k. None ≡ block_at p a)
    by_result (Ok k) h =
        let lt : k < length (cut p) = omega (arith, h.0, length-leaders p) in
        (lt, sym (ap (block_at p) (sym h.1 ∙ leader_at p k lt) ∙ block_found p is k lt))
    by_result (Err i) h = sym (count_none (blocks p) a (λ k lt same.
        let within : k < length (leaders p) = omega (arith, lt, length-map (blocks p) (λ (b : ℕ × ℕ). b.0)) in
        ⊎_elim
        (λ below. omega (arith, h.1 k below, same))
        (λ past. omega (arith, h.2 k past within, same))
        (cases_lt k i)))

pub count_at : (p : Program) (k d : ℕ) → k < length (cut p) → get_or (map (λ (b : ℕ × ℕ). b.1) (blocks p)) k d ≡ length (block (cut p) k)
count_at p k d lt =
    get_or-map (λ (b : ℕ × ℕ). b.1) (blocks p) k (0, 0) d (omega (arith, lt, length-map (cut p) extent))
    ∙ ap (λ (e : ℕ × ℕ). e.1) (get_or-map extent (cut p) k [] (0, 0) lt)
