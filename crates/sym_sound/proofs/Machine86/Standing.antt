-- Which statements stand at which place of a code, and the offsets of their labels.
use Rattle.std.proofs.Common.{◌≡◌, ℕ, ◌+◌, ◌<◌, List, [], ◌∷◌, ◌++◌, length, Some, ap, ◌∙◌, subst, arith, append_assoc, length-append, true, cond}
use Rattle.std.proofs.Math.Seq.{get_or-append_seam}
use Rattle.std.proofs.lemmas.Option.{slice_get-get_or}
use Rattle.i86.specs.Code.{HasBytes}
use Rattle.asm86_line_types.specs.declared.line.Label.{Label}
use Rattle.asm86_line_types.specs.declared.line.Stmt86.{Stmt86}
use Rattle.asm86_line_types.specs.Layout.{size_of, sizes_of, marks, offset_from, bytes_at, code_from}
use Rattle.asm86_line_types.proofs.Sizes.{length_bytes}

pub bytes_front : (code : List ℕ) (at : ℕ) (a b : List ℕ) → HasBytes code at (a ++ b) → HasBytes code at a
bytes_front code at [] b h = tt
bytes_front code at (x ∷ a) b h = (h.0, bytes_front code (at + 1) a b h.1)

pub bytes_back : (code : List ℕ) (at : ℕ) (a b : List ℕ) → HasBytes code at (a ++ b) → HasBytes code (at + length a) b
bytes_back code at [] b h = let e : at ≡ at + 0 = omega arith in subst (λ n. HasBytes code n b) e h
bytes_back code at (x ∷ a) b h =
    let e : at + 1 + length a ≡ at + length (x ∷ a) = omega arith in
    subst (λ n. HasBytes code n b) e (bytes_back code (at + 1) a b h.1)

-- bytes after others stand behind them
pub bytes_all : (bs pre : List ℕ) → HasBytes (pre ++ bs) (length pre) bs
bytes_all [] pre = tt
bytes_all (b ∷ bs) pre =
    let within : length pre < length (pre ++ b ∷ bs) = omega (arith, length-append pre (b ∷ bs)) in
    let here = slice_get-get_or (pre ++ b ∷ bs) (length pre) b within ∙ ap Some (get_or-append_seam pre b bs b) in
    let n : length (pre ++ b ∷ []) ≡ length pre + 1 = omega (arith, length-append pre (b ∷ [])) in
    let rest = bytes_all bs (pre ++ b ∷ []) in
    let rest' = subst (λ l. HasBytes l (length (pre ++ b ∷ [])) bs) (append_assoc pre (b ∷ []) bs) rest in
    (here, subst (λ m. HasBytes (pre ++ b ∷ bs) m bs) n rest')

-- these statements stand in the code from this place on
abbrev pub StandAll : List ℕ → (Label → ℕ) → ℕ → List Stmt86 → Type 0
StandAll code off at [] = Unit {0}
StandAll code off at (x ∷ xs) = HasBytes code at (bytes_at off at x) × StandAll code off (at + size_of x) xs

pub stand_all : (code : List ℕ) (off : Label → ℕ) (at : ℕ) (xs : List Stmt86) → HasBytes code at (code_from off at xs) → StandAll code off at xs
stand_all code off at [] h = tt
stand_all code off at (x ∷ xs) h =
    let back = bytes_back code at (bytes_at off at x) (code_from off (at + size_of x) xs) h in
    (bytes_front code at (bytes_at off at x) _ h, stand_all code off (at + size_of x) xs (subst (λ n. HasBytes code (at + n) (code_from off (at + size_of x) xs)) (length_bytes off at x) back))

pub stand_back : (code : List ℕ) (off : Label → ℕ) (at : ℕ) (xs ys : List Stmt86) → StandAll code off at (xs ++ ys) → StandAll code off (at + sizes_of xs) ys
stand_back code off at [] ys h = let e : at ≡ at + 0 = omega arith in subst (λ n. StandAll code off n ys) e h
stand_back code off at (x ∷ xs) ys h =
    let e : at + size_of x + sizes_of xs ≡ at + (size_of x + sizes_of xs) = omega arith in
    subst (λ n. StandAll code off n ys) e (stand_back code off (at + size_of x) xs ys h.1)

-- a label that stands here has this offset
pub offset_here : (at : ℕ) (l : Label) (x : Stmt86) (xs : List Stmt86) → marks l x ≡ true → offset_from at (x ∷ xs) l ≡ Some at
offset_here at l x xs h = ap (λ b. cond b (Some at) (offset_from (at + size_of x) xs l)) h
