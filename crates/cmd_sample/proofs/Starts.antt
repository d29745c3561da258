-- Where the instructions of the made source begin, and that its lines do not overlap.
use Rattle.std.proofs.Common.{◌≡◌, ℕ, zero, suc, ◌+◌, ◌<◌, ◌≤◌, ◌⊎◌, inl, inr, ◌==◌, ◌||◌, Bool, true, false, cond, List, [], ◌∷◌, ◌++◌, map, refl, ap, subst, arith}
use Rattle.std.proofs.lemmas.Bool.{cases_lt, eq-eqb, or_right}
use Rattle.asm80_source_def.specs.Operations.{operation_table}
use Rattle.asm80_source_def.specs.Walk.{Walk, WalkRow}
use Rattle.asm80_source_def.specs.Items.{is_instruction, fills_cells, address, starts_in, starts_at}
use Rattle.cmd_sample.proofs.Labels.{start_of, names_to}
use Rattle.cmd_sample.proofs.Spots.{walk_at, Spot, walk_of, row_of, rows_of, Goes, stays, steps, grows}
use Rattle.cmd_sample.proofs.Faultless.{AreSpaced, none, more, past}
use Rattle.cmd_sample.proofs.Chain.{call_spot, calls_to, jump_spot, base_of, routine_spots, routines_to, org_spot, end_spot, inner_spots}

-- ---- starts

-- one of the lines is an instruction at the address
pub data Starts : ℕ → List Spot → Type 0 where
  here : {x : Spot} {xs : List Spot} → ((l : ℕ) → is_instruction (row_of l x) ≡ true) → Starts x.at (x ∷ xs)
  later : {a : ℕ} {x : Spot} {xs : List Spot} → Starts a xs → Starts a (x ∷ xs)

starts_left : {a : ℕ} {xs : List Spot} (ys : List Spot) → Starts a xs → Starts a (xs ++ ys)
starts_left ys (here is) = here is
starts_left ys (later s) = later (starts_left ys s)

starts_right : {a : ℕ} (xs : List Spot) {ys : List Spot} → Starts a ys → Starts a (xs ++ ys)
starts_right [] s = s
starts_right (x ∷ xs) s = later (starts_right xs s)

first_by : (b : Bool) (r : WalkRow) (rs : List WalkRow) → b ≡ true → starts_at (map address (cond b (r ∷ rs) rs)) (address r) ≡ true
first_by b r rs e = rw e (ap (λ t. t || starts_at (map address rs) (address r)) (eq-eqb (address r) (address r) refl))

later_by : (b : Bool) (r : WalkRow) (rs : List WalkRow) (a : ℕ) → starts_at (map address rs) a ≡ true → starts_at (map address (cond b (r ∷ rs) rs)) a ≡ true
later_by false r rs a e = e
later_by true r rs a e = or_right (address r == a) (starts_at (map address rs) a) e

pub is_start : {a : ℕ} {xs : List Spot} → Starts a xs → (l : ℕ) → starts_at (starts_in (rows_of l xs)) a ≡ true
is_start (here {x} {xs} is) l = first_by (is_instruction (row_of l x)) (row_of l x) _ (is l)
is_start (later {a} {x} {xs} s) l = later_by (is_instruction (row_of l x)) (row_of l x) _ a (is_start s (suc l))

-- the first call stands at 100H
first_call : (n : ℕ) → 0 < n → Starts 0x100 (calls_to n)
unfolding calls_to operation_table
first_call zero some = absurd (omega arith)
first_call (suc zero) some = here (λ l. refl)
first_call (suc (suc n)) some = starts_left (call_spot (suc n) ∷ []) (first_call (suc n) (omega arith))

-- the routines and their loops
module _ (at : ℕ → ℕ) (base : ℕ) (known : (k a : ℕ) → Starts (at a) (routine_spots (names_to base k) (suc k) a)) where
  routine_starts : (n j : ℕ) → j < n → Starts (at (start_of base j)) (routines_to base n)
  unfolding routines_to
  routine_starts zero j less = absurd (omega arith)
  routine_starts (suc n) j less = by (cases_lt j n) (λ before. routine_starts n j before)
    where
      by : ((j < n) ⊎ (n ≤ j)) → ((j < n) → Starts (at (start_of base j)) (routines_to base n)) → Starts (at (start_of base j)) (routines_to base n ++ routine_spots (names_to base n) (suc n) (start_of base n))
      by (inl before) rest = starts_left (routine_spots (names_to base n) (suc n) (start_of base n)) (rest before)
      by (inr last) rest =
          let e : n ≡ j = omega arith in
          starts_right (routines_to base n) (subst (λ i. Starts (at (start_of base i)) (routine_spots (names_to base n) (suc n) (start_of base n))) e (known n (start_of base n)))

enters : (base k a : ℕ) → Starts a (routine_spots (names_to base k) (suc k) a)
unfolding operation_table
enters base k a = here (λ l. refl)

loops : (base k a : ℕ) → Starts (a + 5) (routine_spots (names_to base k) (suc k) a)
unfolding operation_table
loops base k a = later (later (here (λ l. refl)))

-- ---- in the whole source

abbrev pub all_spots : ℕ → List Spot
all_spots K = org_spot ∷ (inner_spots K ++ end_spot K ∷ [])

abbrev pub all_rows : ℕ → List WalkRow
all_rows K = rows_of 1 (all_spots K)

in_all : {a : ℕ} (K : ℕ) → Starts a (inner_spots K) → starts_at (starts_in (all_rows K)) a ≡ true
in_all K s = is_start (later {x = org_spot} (starts_left (end_spot K ∷ []) s)) 1

pub begins : (K : ℕ) → 0 < K → starts_at (starts_in (all_rows K)) 0x100 ≡ true
begins K some = in_all K (starts_left (jump_spot K ∷ routines_to (base_of K) K) (first_call K some))

pub routine_begins : (K j : ℕ) → j < K → starts_at (starts_in (all_rows K)) (start_of (base_of K) j) ≡ true
routine_begins K j less = in_all K (starts_right (calls_to K) (later {x = jump_spot K} (routine_starts (λ a. a) (base_of K) (enters (base_of K)) K j less)))

pub loop_begins : (K j : ℕ) → j < K → starts_at (starts_in (all_rows K)) (start_of (base_of K) j + 5) ≡ true
loop_begins K j less = in_all K (starts_right (calls_to K) (later {x = jump_spot K} (routine_starts (λ a. a + 5) (base_of K) (loops (base_of K)) K j less)))

-- ---- no overlap

spaced_along :
    {w u : Walk} {xs : List Spot} (z : Spot) (from limit : ℕ) → Goes w xs u → ((l : ℕ) → fills_cells (row_of l z) ≡ false) → (l : ℕ) → from ≤ w.at → u.at ≤ limit
    → AreSpaced from limit (rows_of l (xs ++ z ∷ []))
spaced_along z from limit stays last l le below = past (last l) none
spaced_along z from limit (steps {x} {xs} leads g) last l le below =
    let behind : x.at + x.size ≤ limit = omega (arith, leads.next, grows g) in
    more le (leads.size l) behind (spaced_along z (x.at + x.size) limit g last (suc l) (omega (arith, leads.next)) below)

pub are_spaced : (K limit : ℕ) → Goes (walk_at 0x100 []) (inner_spots K) (walk_of (end_spot K)) → start_of (base_of K) K ≤ limit → AreSpaced 0x100 limit (all_rows K)
unfolding operation_table
are_spaced K limit g below = past refl (spaced_along (end_spot K) 0x100 limit g (λ l. refl) 2 (omega arith) below)
