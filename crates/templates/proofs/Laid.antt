-- A text's lines, from the last one to the first.
use Rattle.std.proofs.Common.{◌≡◌, ℕ, zero, suc, ◌+◌, ◌-◌, ◌<◌, ◌≤◌, List, [], ◌∷◌, length, take, drop, get_or, refl, subst, arith}
use Rattle.asm86_line_types.specs.declared.line.Line86.{Line86}
use Rattle.asm86_line_types.specs.Layout.{size_of, sizes_of}
use Rattle.asm86_line_types.specs.Image.{statements}

size_next : (lines : List Line86) (k : ℕ) (d : Line86) → k < length lines → sizes_of (statements (take (suc k) lines)) ≡ sizes_of (statements (take k lines)) + size_of (get_or lines k d).stmt
size_next [] k d lt = absurd (omega (arith, lt))
size_next (x ∷ xs) zero d lt = omega arith
size_next (x ∷ xs) (suc k) d lt = let more = size_next xs k d (omega arith) in omega (arith, more)

next_drop : (lines : List Line86) (k : ℕ) (d : Line86) → k < length lines → statements (drop k lines) ≡ (get_or lines k d).stmt ∷ statements (drop (suc k) lines)
next_drop [] k d lt = absurd (omega (arith, lt))
next_drop (x ∷ xs) zero d lt = refl
next_drop (x ∷ xs) (suc k) d lt = next_drop xs k d (omega arith)

-- the sizes before a line, and its own
pub size_before : (lines : List Line86) (r : ℕ) (d : Line86) → 0 < r → r ≤ length lines → sizes_of (statements (take r lines)) ≡ sizes_of (statements (take (r - 1) lines)) + size_of (get_or lines (r - 1) d).stmt
size_before lines r d some within =
    let e : suc (r - 1) ≡ r = omega arith in
    subst (λ (n : ℕ). sizes_of (statements (take n lines)) ≡ sizes_of (statements (take (r - 1) lines)) + size_of (get_or lines (r - 1) d).stmt) e
    (size_next lines (r - 1) d (omega arith))

-- the line before some is the first of those from it on
pub one_before : (lines : List Line86) (r : ℕ) (d : Line86) → 0 < r → r ≤ length lines → statements (drop (r - 1) lines) ≡ (get_or lines (r - 1) d).stmt ∷ statements (drop r lines)
one_before lines r d some within =
    let e : suc (r - 1) ≡ r = omega arith in
    subst (λ (n : ℕ). statements (drop (r - 1) lines) ≡ (get_or lines (r - 1) d).stmt ∷ statements (drop n lines)) e
    (next_drop lines (r - 1) d (omega arith))
