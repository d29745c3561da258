-- Looking an address up in instructions that are laid one after the other.
use Rattle.std.proofs.Common.{◌≡◌, ℕ, zero, suc, ◌+◌, ◌-◌, ◌<◌, ◌≤◌, Bool, true, false, cond, ltb, leb, eqb, List, [], ◌∷◌, length, get_or, Option, Some, None, Result, Ok, Err, MatchResult, refl, sym, ap, ◌∙◌, arith}
use Rattle.std.specs.List.Sorted.{IsBinarySearchResult}
use Rattle.std.specs.Ordering.{nat_cmp}
use Rattle.std.proofs.lemmas.List.{length-map}
use Rattle.std.proofs.lemmas.Bool.{leb-true, eqb-true, and_parts}
use Rattle.std.proofs.lemmas.Bool.Decides.{nat_tests}
use Rattle.std.specs.Prelude.{◌%◌, ◌==◌, nat_le, ◌&&◌, is_some}
use Rattle.std.proofs.lemmas.List.Sorted.{searched}
use Rattle.i80.specs.declared.Instr80.{Instr80}
use Rattle.i80.specs.declared.Instr80.TheVariants.{Nop}
use Rattle.i80.specs.Columns.{length80}
use Rattle.asm80_types.specs.declared.program.Placed.{Placed}
use Rattle.asm80_types.specs.Program.{Program, placed_in, instr_of_placed, instr_at, is_start, or_before, last_from, is_covered, starts_of, IsLast, IsInstructionLaid, AreLaid, is_top}

-- where the first starts past an address, none is the last before it
pub last_from-none : (xs : List Placed) (a : ℕ) → (0 < length xs → leb (get_or (starts_of xs) 0 0) a ≡ false) → last_from xs a ≡ None
last_from-none [] a past = refl
last_from-none (x ∷ xs) a past = let h : leb x.at a ≡ false = past (omega arith) in rw h refl

-- the last of those that start at an address or before it
pub last_from-some :
    (xs : List Placed) (a k : ℕ) (d : Placed) → k < length xs
    → ((j : ℕ) → j < suc k → leb (get_or (starts_of xs) j 0) a ≡ true)
    → (suc k < length xs → leb (get_or (starts_of xs) (suc k) 0) a ≡ false)
    → last_from xs a ≡ Some (get_or xs k d)
last_from-some [] a k d lt before past = absurd (omega arith)
last_from-some (x ∷ xs) a zero d lt before past =
    let h : leb x.at a ≡ true = before 0 (omega arith) in
    rw (h, last_from-none xs a (λ lt. past (omega arith))) refl
last_from-some (x ∷ xs) a (suc k) d lt before past =
    let h : leb x.at a ≡ true = before 0 (omega arith) in
    rw (h, last_from-some xs a k d (omega arith) (λ j lt. before (suc j) (omega arith)) (λ lt. past (omega arith))) refl

pub length80-positive : (i : Instr80) → 1 ≤ length80 i
length80-positive Nop = omega arith
length80-positive i = omega arith

-- an instruction that is found is not below the place from which they are laid
pub placed_above : (xs : List Placed) (from limit a : ℕ) (x : Placed) → AreLaid from limit xs → placed_in xs a ≡ Some x → from ≤ a
placed_above [] from limit a x laid found = absurd (cc)
placed_above (y ∷ ys) from limit a x laid found = by_place (y.at == a) refl found (placed_above ys (y.at + length80 y.instr) limit a x laid.3)
  where
    by_place : (t : Bool) → (y.at == a) ≡ t → cond t (Some y) (placed_in ys a) ≡ Some x → (placed_in ys a ≡ Some x → y.at + length80 y.instr ≤ a) → from ≤ a
    by_place true same f later = let here = eqb-true y.at a same in omega (arith, here, laid.0)
    by_place false differs f later = omega (arith, laid.0, later f)

-- where an instruction is found, one starts
pub start_is : (p : Program) (a : ℕ) (i : Instr80) → instr_at p a ≡ Some i → is_start p a ≡ true
start_is p a i found = by_placed (placed_in p.instrs a) found
  where
    by_placed : (o : Option Placed) → instr_of_placed o ≡ Some i → is_some o ≡ true
    by_placed None e = absurd (cc)
    by_placed (Some x) e = refl

pub laid_at : (xs : List Placed) (from limit k : ℕ) (d : Placed) → AreLaid from limit xs → k < length xs → IsInstructionLaid from limit (get_or xs k d)
laid_at [] from limit k d laid lt = absurd (omega arith)
laid_at (x ∷ xs) from limit zero d laid lt = record { above = laid.0; below = laid.1; good = laid.2 }
laid_at (x ∷ xs) from limit (suc k) d laid lt =
    let rest = laid_at xs (x.at + length80 x.instr) limit k d laid.3 (omega arith) in
    record { above = omega (arith, laid.0, rest.above); below = rest.below; good = rest.good }

-- the addresses rise
pub above-laid : (xs : List Placed) (from limit j : ℕ) → AreLaid from limit xs → j < length xs → from ≤ get_or (starts_of xs) j 0
above-laid [] from limit j laid lt = absurd (omega arith)
above-laid (x ∷ xs) from limit zero laid lt = laid.0
above-laid (x ∷ xs) from limit (suc j) laid lt = omega (arith, laid.0, above-laid xs (x.at + length80 x.instr) limit j laid.3 (omega arith))

pub rising-laid : (xs : List Placed) (from limit i j : ℕ) → AreLaid from limit xs → i ≤ j → j < length xs → get_or (starts_of xs) i 0 ≤ get_or (starts_of xs) j 0
rising-laid [] from limit i j laid le lt = absurd (omega arith)
rising-laid (x ∷ xs) from limit zero zero laid le lt = omega arith
rising-laid (x ∷ xs) from limit zero (suc j) laid le lt = omega (arith, above-laid xs (x.at + length80 x.instr) limit j laid.3 (omega arith))
rising-laid (x ∷ xs) from limit (suc i) zero laid le lt = absurd (omega arith)
rising-laid (x ∷ xs) from limit (suc i) (suc j) laid le lt = rising-laid xs (x.at + length80 x.instr) limit i j laid.3 (omega arith) (omega arith)

-- below the place, none
last_from-below : (xs : List Placed) (from limit a : ℕ) → AreLaid from limit xs → a < from → last_from xs a ≡ None
last_from-below xs from limit a laid lt = last_from-none xs a (λ some. let h = above-laid xs from limit 0 laid some in grind (arith, nat_tests))

-- the instruction, if it starts at the very address
abbrev pub exactly : ℕ → Option Placed → Option Placed
exactly a None = None
exactly a (Some x) = cond (eqb x.at a) (Some x) None

-- the cells of the instruction
abbrev pub covered_by : ℕ → Option Placed → Bool
covered_by a None = false
covered_by a (Some x) = ltb a (x.at + length80 x.instr)

-- one step of both looks, by how the first instruction's address stands to the address looked up
placed_step :
    (x : Placed) (xs : List Placed) (a : ℕ) → (a < x.at + length80 x.instr → last_from xs a ≡ None) → placed_in xs a ≡ exactly a (last_from xs a)
    → (b : Bool) → leb x.at a ≡ b → (e : Bool) → eqb x.at a ≡ e → placed_in (x ∷ xs) a ≡ exactly a (last_from (x ∷ xs) a)
placed_step x xs a none rest true le true same =
    let here : a < x.at + length80 x.instr = grind (arith, nat_tests, length80-positive x.instr) in
    rw (le, none here, same) refl
placed_step x xs a none rest true le false differs = rw (le, differs) (rest ∙ sym (exactly-or_before a (last_from xs a) x differs))
  where
    exactly-or_before : (a : ℕ) (r : Option Placed) (x : Placed) → eqb x.at a ≡ false → exactly a (or_before r x) ≡ exactly a r
    exactly-or_before a None x differs = rw differs refl
    exactly-or_before a (Some y) x differs = refl
placed_step x xs a none rest false gt true same = grind (arith, nat_tests)
placed_step x xs a none rest false gt false differs =
    let before : a < x.at + length80 x.instr = grind (arith, nat_tests) in
    rw (gt, differs) (rest ∙ ap (exactly a) (none before))

pub placed_in-last : (xs : List Placed) (from limit a : ℕ) → AreLaid from limit xs → placed_in xs a ≡ exactly a (last_from xs a)
placed_in-last [] from limit a laid = refl
placed_in-last (x ∷ xs) from limit a laid =
    placed_step x xs a (last_from-below xs (x.at + length80 x.instr) limit a laid.3) (placed_in-last xs (x.at + length80 x.instr) limit a laid.3) (leb x.at a) refl (eqb x.at a) refl

-- a cell of a later instruction is past the cells of the first
covered_step :
    (x : Placed) (xs : List Placed) (a : ℕ) (r : Option Placed) → last_from xs a ≡ r → (a < x.at + length80 x.instr → last_from xs a ≡ None)
    → is_covered xs a ≡ covered_by a r → (b : Bool) → leb x.at a ≡ b → is_covered (x ∷ xs) a ≡ covered_by a (last_from (x ∷ xs) a)
covered_step x xs a None is none rest true le = grind (arith, nat_tests)
covered_step x xs a (Some y) is none rest true le = grind (arith, nat_tests)
covered_step x xs a r is none rest false gt = grind (arith, nat_tests)

pub is_covered-last : (xs : List Placed) (from limit a : ℕ) → AreLaid from limit xs → is_covered xs a ≡ covered_by a (last_from xs a)
is_covered-last [] from limit a laid = refl
is_covered-last (x ∷ xs) from limit a laid =
    covered_step x xs a (last_from xs a) refl (last_from-below xs (x.at + length80 x.instr) limit a laid.3) (is_covered-last xs (x.at + length80 x.instr) limit a laid.3) (leb x.at a) refl

pub last_from-at : (xs : List Placed) (from limit a k : ℕ) (d : Placed) → AreLaid from limit xs → IsLast xs a k → last_from xs a ≡ Some (get_or xs k d)
last_from-at xs from limit a k d laid last =
    last_from-some xs a k d last.within
    (λ j lt. let h = rising-laid xs from limit j k laid (omega arith) last.within in let u = last.upto in grind (arith, nat_tests))
    (λ lt. let h = last.past lt in grind (arith, nat_tests))

pub length-starts : (xs : List Placed) → length (starts_of xs) ≡ length xs
length-starts xs = length-map xs (λ (x : Placed). x.at)

-- the next instruction starts past this one
pub past-laid : (xs : List Placed) (from limit k : ℕ) → AreLaid from limit xs → suc k < length xs → get_or (starts_of xs) k 0 < get_or (starts_of xs) (suc k) 0
past-laid [] from limit k laid lt = absurd (omega arith)
past-laid (x ∷ xs) from limit zero laid lt = omega (arith, length80-positive x.instr, above-laid xs (x.at + length80 x.instr) limit 0 laid.3 (omega arith))
past-laid (x ∷ xs) from limit (suc k) laid lt = past-laid xs (x.at + length80 x.instr) limit k laid.3 (omega arith)

-- one that starts at the very address is the last that starts there or before it
pub last_here : (xs : List Placed) (from limit a k : ℕ) → AreLaid from limit xs → k < length xs → get_or (starts_of xs) k 0 ≡ a → IsLast xs a k
last_here xs from limit a k laid within same = record { within = within; upto = omega (arith, same); past = λ lt. omega (arith, same, past-laid xs from limit k laid lt) }

-- what a search by halves finds: the place of the address, or the gap that it falls into
module _ (xs : List Placed) (from limit a : ℕ) (laid : AreLaid from limit xs) where
  pub searched_starts :
      (r : Result ℕ ℕ) → IsBinarySearchResult (λ y. nat_cmp y a) (starts_of xs) r
      → MatchResult r (λ k. IsLast xs a k) (λ n. (n ≡ 0 → last_from xs a ≡ None) × (0 < n → IsLast xs a (n - 1)))
  searched_starts r found = by_result r (searched (starts_of xs) a r found rising)
    where
      rising : (i j : ℕ) → i ≤ j → j < length (starts_of xs) → get_or (starts_of xs) i 0 ≤ get_or (starts_of xs) j 0
      rising i j le lt = rising-laid xs from limit i j laid le (omega (arith, length-starts xs))

      by_result :
          (r : Result ℕ ℕ)
          → MatchResult r (λ i. (i < length (starts_of xs)) × (get_or (starts_of xs) i 0 ≡ a)) (λ i. (i ≤ length (starts_of xs)) × ((k : ℕ) → k < i → get_or (starts_of xs) k 0 < a) × ((k : ℕ) → i ≤ k → k < length (starts_of xs) → a < get_or (starts_of xs) k 0))
          → MatchResult r (λ k. IsLast xs a k) (λ n. (n ≡ 0 → last_from xs a ≡ None) × (0 < n → IsLast xs a (n - 1)))
      by_result (Ok k) (within, same) = last_here xs from limit a k laid (omega (arith, within, length-starts xs)) same
      by_result (Err n) (within, below, above) = (
        λ none. last_from-none xs a (λ some. let h = above 0 (omega arith) (omega (arith, length-starts xs)) in grind (arith, nat_tests)),
        λ some. record { within = omega (arith, length-starts xs); upto = omega (arith, below (n - 1) (omega arith)); past = λ lt. above (suc (n - 1)) (omega arith) (omega (arith, length-starts xs)) },
      )

-- no more of them than cells
pub length-laid : (xs : List Placed) (from limit : ℕ) → AreLaid from limit xs → from ≤ limit → from + length xs ≤ limit
length-laid [] from limit laid le = omega arith
length-laid (x ∷ xs) from limit laid le =
    omega (arith, laid.0, length80-positive x.instr, length-laid xs (x.at + length80 x.instr) limit laid.3 laid.1)

-- the tops lie between the lowest and the highest
pub top_range : (t : ℕ) → is_top t ≡ true → (0x1000 ≤ t) × (t ≤ 0xFF00)
top_range t h =
    let bounds = and_parts (nat_le 0x1000 t) (nat_le t 0xFF00) (and_parts (t % 0x100 == 0) (nat_le 0x1000 t && nat_le t 0xFF00) h).1 in
    (leb-true 0x1000 t bounds.0, leb-true t 0xFF00 bounds.1)
