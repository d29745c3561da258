-- A program has no more instructions than its source has statements.
use Rattle.std.proofs.Common.{◌≡◌, ℕ, suc, ◌+◌, ◌-◌, ◌<◌, ◌≤◌, ◌⊎◌, inl, inr, Bool, true, false, cond, nat_le, List, [], ◌∷◌, length, Option, Some, None, refl, ap, subst, arith}
use Rattle.std.specs.List.{Contains, filter_map, cons_option}
use Rattle.std.proofs.lemmas.Bool.Decides.{nat_tests}
use Rattle.std.proofs.lemmas.List.Elements.{All-contains, All-cons, Contains-append_right, Contains-append_cases, Contains-append_left, Contains-push}
use Rattle.i80.specs.Columns.{length80}
use Rattle.asm80_types.specs.declared.program.Placed.{Placed}
use Rattle.asm80_types.specs.Program.{Program, AreLaid}
use Rattle.asm80_types.proofs.Lookup.{length80-positive}
use Rattle.asm80_types.specs.Tree.{Statement}
use Rattle.asm80_source_def.specs.Walk.{Walk, WalkRow, at_start, ends, walk_after, rows_from, rows, walked}
use Rattle.asm80_source_def.specs.Items.{placed_row, placed}
use Rattle.asm80_source_def.specs.Assembly.{IsAssembled}

-- ---- those at a place or behind it

abbrev count_from : ℕ → List Placed → ℕ
count_from n [] = 0
count_from n (y ∷ ys) = cond (nat_le n y.at) 1 0 + count_from n ys

one_at_most : (n : ℕ) (y : Placed) → cond (nat_le n y.at) 1 0 ≤ 1
one_at_most n y = by (nat_le n y.at)
  where
    by : (b : Bool) → cond b 1 0 ≤ 1
    by true = omega arith
    by false = omega arith

fewer_at : (n m a : ℕ) → n ≤ m → cond (nat_le m a) 1 0 ≤ cond (nat_le n a) 1 0
fewer_at n m a le = by (nat_le m a) (nat_le n a) refl refl
  where
    by : (s t : Bool) → nat_le m a ≡ s → nat_le n a ≡ t → cond s 1 0 ≤ cond t 1 0
    by false t e f = by_zero t
      where
        by_zero : (u : Bool) → 0 ≤ cond u 1 0
        by_zero true = omega arith
        by_zero false = omega arith
    by true true e f = omega arith
    by true false e f = absurd (grind (arith, nat_tests))

count_most : (n : ℕ) (ys : List Placed) → count_from n ys ≤ length ys
count_most n [] = omega arith
count_most n (y ∷ ys) = omega (arith, one_at_most n y, count_most n ys)

count_falls : (n m : ℕ) (ys : List Placed) → n ≤ m → count_from m ys ≤ count_from n ys
count_falls n m [] le = omega arith
count_falls n m (y ∷ ys) le = omega (arith, fewer_at n m y.at le, count_falls n m ys le)

only : (x z : Placed) → Contains (x ∷ []) z → x ≡ z
only x z h = All-contains (λ (y : Placed). x ≡ y) (x ∷ []) z (All-cons (λ (y : Placed). x ≡ y) x [] refl (λ k d lt. absurd (omega arith))) h

count_here : (y : Placed) (m : ℕ) → y.at < m → cond (nat_le m y.at) 1 0 + 1 ≤ cond (nat_le y.at y.at) 1 0
count_here y m less = by (nat_le m y.at) (nat_le y.at y.at) refl refl
  where
    by : (s t : Bool) → nat_le m y.at ≡ s → nat_le y.at y.at ≡ t → cond s 1 0 + 1 ≤ cond t 1 0
    by false true e f = omega arith
    by false false e f = absurd (grind (arith, nat_tests))
    by true t e f = absurd (grind (arith, nat_tests))

-- one that is among them is counted at its place, and not behind it
count_less : (x : Placed) (m : ℕ) (ys : List Placed) → Contains ys x → x.at < m → count_from m ys + 1 ≤ count_from x.at ys
count_less x m [] h less = absurd (omega (arith, h.1))
count_less x m (y ∷ ys) h less = by (Contains-append_cases (y ∷ []) ys x h) (λ c. count_less x m ys c less)
  where
    by : Contains (y ∷ []) x ⊎ Contains ys x → (Contains ys x → count_from m ys + 1 ≤ count_from x.at ys) → count_from m (y ∷ ys) + 1 ≤ count_from x.at (y ∷ ys)
    by (inl a) rest =
        let at : y.at ≡ x.at = ap (λ (z : Placed). z.at) (only y x a) in
        subst (λ n. count_from m (y ∷ ys) + 1 ≤ count_from n (y ∷ ys)) at (omega (arith, count_here y m (omega arith), count_falls y.at m ys (omega arith)))
    by (inr b) rest = omega (arith, rest b, fewer_at x.at m y.at (omega arith))

-- instructions one after the other are no more than those among which they are
laid_count : (xs : List Placed) (from limit : ℕ) (ys : List Placed) → AreLaid from limit xs → ((x : Placed) → Contains xs x → Contains ys x) → length xs ≤ count_from from ys
laid_count [] from limit ys laid among = omega arith
laid_count (x ∷ xs) from limit ys laid among =
    let next = x.at + length80 x.instr in
    let rest = laid_count xs next limit ys laid.3 (λ y h. among y (Contains-append_right (x ∷ []) xs y h)) in
    let here = among x (Contains-append_left (x ∷ []) xs x (Contains-push [] x)) in
    omega (arith, rest, laid.0, count_less x next ys here (omega (arith, length80-positive x.instr)), count_falls from x.at ys laid.0)

-- ---- rows and statements

given_most : (f : WalkRow → Option Placed) (rs : List WalkRow) → length (filter_map f rs) ≤ length rs
given_most f [] = omega arith
given_most f (r ∷ rs) = by (f r) (given_most f rs)
  where
    by : (o : Option Placed) → length (filter_map f rs) ≤ length rs → length (cons_option o (filter_map f rs)) ≤ suc (length rs)
    by None h = omega arith
    by (Some x) h = omega arith

rows_most : (w : Walk) (ss : List Statement) → length (rows_from w ss) ≤ length ss
rows_most w [] = omega arith
rows_most w (s ∷ ss) = by (ends w s) (rows_most (walk_after w s) ss)
  where
    by : (b : Bool) → length (rows_from (walk_after w s) ss) ≤ length ss → suc (length (cond b [] (rows_from (walk_after w s) ss))) ≤ suc (length ss)
    by true h = omega arith
    by false h = omega arith

pub instructions_most : (ss : List Statement) (top : ℕ) (p : Program) → IsAssembled ss top p → length p.instrs ≤ length ss
instructions_most ss top p h =
    let ys = placed (rows ss) (walked ss) in
    let most = laid_count p.instrs 0x100 (p.top - 2) ys h.program.lawful.instrs (λ x c. (h.program.instrs x).0 c) in
    omega (arith, most, count_most 0x100 ys, given_most (placed_row (rows ss) (walked ss)) (rows ss), rows_most at_start ss)
