-- Instructions that are laid one after the other.
use Rattle.std.proofs.Common.{◌≡◌, ℕ, zero, suc, ◌+◌, ◌<◌, ◌≤◌, Bool, true, false, eqb, List, [], ◌∷◌, length, get_or, Some, refl, ⊎_elim, arith}
use Rattle.std.specs.Prelude.{is_some}
use Rattle.std.proofs.lemmas.Bool.{eqb-true, eq-eqb, ne_eqb, cases_lt}
use Rattle.std.proofs.lemmas.List.{get_or-map}
use Rattle.i80.specs.Columns.{length80}
use Rattle.asm80_types.specs.declared.program.Placed.{Placed}
use Rattle.asm80_types.specs.Program.{AreLaid, starts_of, placed_in}
use Rattle.asm80_types.proofs.Lookup.{above-laid, rising-laid, length80-positive}
use Rattle.flow.specs.Blocks.{end_of}

-- an instruction is found at its address
pub found_here : (xs : List Placed) (from limit k : ℕ) (d : Placed) → AreLaid from limit xs → k < length xs → placed_in xs (get_or xs k d).at ≡ Some (get_or xs k d)
found_here [] from limit k d laid lt = absurd (omega arith)
found_here (x ∷ xs) from limit zero d laid lt = let same : eqb x.at x.at ≡ true = eq-eqb x.at x.at refl in rw same
found_here (x ∷ xs) from limit (suc k) d laid lt =
    let past : x.at + length80 x.instr ≤ get_or (starts_of xs) k 0 = above-laid xs (x.at + length80 x.instr) limit k laid.3 (omega arith) in
    let at : get_or (starts_of xs) k 0 ≡ (get_or xs k d).at = get_or-map (λ (y : Placed). y.at) xs k d 0 (omega arith) in
    let longer : 1 ≤ length80 x.instr = length80-positive x.instr in
    let differs : eqb x.at (get_or xs k d).at ≡ false = ne_eqb x.at (get_or xs k d).at (λ same. omega arith) in
    rw differs (found_here xs (x.at + length80 x.instr) limit k d laid.3 (omega arith))

-- one starts at an address exactly where the address is among the starts
start_step : (x : Placed) (xs : List Placed) (a : ℕ) (b : Bool) → eqb x.at a ≡ b → is_some (placed_in xs a) ≡ true → is_some (placed_in (x ∷ xs) a) ≡ true
start_step x xs a true e rest = rw e
start_step x xs a false e rest = rw e rest

pub start_found : (xs : List Placed) (a k : ℕ) → k < length xs → get_or (starts_of xs) k 0 ≡ a → is_some (placed_in xs a) ≡ true
start_found [] a k lt at = absurd (omega arith)
start_found (x ∷ xs) a zero lt at = let same : eqb x.at a ≡ true = eq-eqb x.at a at in rw same
start_found (x ∷ xs) a (suc k) lt at = start_step x xs a (eqb x.at a) refl (start_found xs a k (omega arith) at)

abbrev StartsAt : List Placed → ℕ → Type 0
StartsAt xs a = (k : ℕ) × (k < length xs) × (get_or (starts_of xs) k 0 ≡ a)

found_step : (x : Placed) (xs : List Placed) (a : ℕ) (b : Bool) → eqb x.at a ≡ b → (is_some (placed_in xs a) ≡ true → StartsAt xs a) → is_some (placed_in (x ∷ xs) a) ≡ true → StartsAt (x ∷ xs) a
found_step x xs a true e rest h = (0, omega arith, eqb-true x.at a e)
found_step x xs a false e rest h = let later = rest (rw e at h) in (suc later.0, omega (arith, later.1), later.2)

pub found_start : (xs : List Placed) (a : ℕ) → is_some (placed_in xs a) ≡ true → (k : ℕ) × (k < length xs) × (get_or (starts_of xs) k 0 ≡ a)
found_start [] a h = absurd (cc)
found_start (x ∷ xs) a h = found_step x xs a (eqb x.at a) refl (found_start xs a) h

-- each starts behind the end of the one before
pub behind_each : (xs : List Placed) (from limit k : ℕ) (d : Placed) → AreLaid from limit xs → suc k < length xs → end_of (get_or xs k d) ≤ get_or (starts_of xs) (suc k) 0
behind_each [] from limit k d laid lt = absurd (omega arith)
behind_each (x ∷ xs) from limit zero d laid lt = above-laid xs (x.at + length80 x.instr) limit 0 laid.3 (omega arith)
behind_each (x ∷ xs) from limit (suc k) d laid lt = behind_each xs (x.at + length80 x.instr) limit k d laid.3 (omega arith)

pub at_place : (xs : List Placed) (k : ℕ) (d : Placed) → k < length xs → get_or (starts_of xs) k 0 ≡ (get_or xs k d).at
at_place xs k d lt = get_or-map (λ (x : Placed). x.at) xs k d 0 lt

pub strictly : (xs : List Placed) (from limit i j : ℕ) (d : Placed) → AreLaid from limit xs → i < j → j < length xs → get_or (starts_of xs) i 0 < get_or (starts_of xs) j 0
strictly xs from limit i j d laid lt within =
    let next = behind_each xs from limit i d laid (omega (arith, lt, within)) in
    let later = rising-laid xs from limit (suc i) j laid lt within in
    omega (arith, next, later, at_place xs i d (omega (arith, lt, within)), length80-positive (get_or xs i d).instr)

-- no two start at one address
pub one_place : (xs : List Placed) (from limit i j : ℕ) (d : Placed) → AreLaid from limit xs → i < length xs → j < length xs → get_or (starts_of xs) i 0 ≡ get_or (starts_of xs) j 0 → i ≡ j
one_place xs from limit i j d laid lti ltj same =
    ⊎_elim
    (λ lt. absurd (omega (arith, strictly xs from limit i j d laid lt ltj, same)))
    (λ ge. ⊎_elim (λ lt. absurd (omega (arith, strictly xs from limit j i d laid lt lti, same))) (λ le. omega (arith, ge, le)) (cases_lt j i))
    (cases_lt i j)

-- one that starts where another ends is the next
pub next_place : (xs : List Placed) (from limit k : ℕ) (d : Placed) → AreLaid from limit xs → k < length xs → is_some (placed_in xs (end_of (get_or xs k d))) ≡ true → (suc k < length xs) × (get_or (starts_of xs) (suc k) 0 ≡ end_of (get_or xs k d))
next_place xs from limit k d laid lt start =
    let at = found_start xs (end_of (get_or xs k d)) start in
    let here = at_place xs k d lt in
    let longer = length80-positive (get_or xs k d).instr in
    let past : k < at.0 = ⊎_elim (λ h. h) (λ le. absurd (omega (arith, rising-laid xs from limit at.0 k laid le lt, at.2, here, longer))) (cases_lt k at.0) in
    let within : suc k < length xs = omega (arith, past, at.1) in
    (within, omega (arith, behind_each xs from limit k d laid within, rising-laid xs from limit (suc k) at.0 laid past at.1, at.2))
