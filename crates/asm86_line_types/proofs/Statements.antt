-- What holds of each statement of a text, and a label that stands at none of them.
use Rattle.std.proofs.Common.{◌≡◌, ℕ, ◌+◌, Bool, true, false, cond, List, [], ◌∷◌, ◌++◌, Some, refl, ap, ◌∙◌, arith}
use Rattle.asm86_line_types.specs.declared.line.Label.{Label}
use Rattle.asm86_line_types.specs.declared.line.Stmt86.{Stmt86}
use Rattle.asm86_line_types.specs.Layout.{size_of, sizes_of, marks, offset_from}
use Rattle.asm86_line_types.specs.Image.{count_marks}

abbrev pub Each : (Stmt86 → Type 0) → List Stmt86 → Type 0
Each P [] = Unit {0}
Each P (x ∷ xs) = P x × Each P xs

-- no statement is this label
abbrev pub MarksNot : Label → List Stmt86 → Type 0
MarksNot l xs = Each (λ x. marks l x ≡ false) xs

-- a label that is counted nowhere stands nowhere
pub uncounted : (l : Label) (xs : List Stmt86) → count_marks l xs ≡ 0 → MarksNot l xs
uncounted l [] h = tt
uncounted l (x ∷ xs) h = by_mark (marks l x) refl h (uncounted l xs)
  where
    by_mark : (t : Bool) → marks l x ≡ t → cond t 1 0 + count_marks l xs ≡ 0 → (count_marks l xs ≡ 0 → MarksNot l xs) → (marks l x ≡ false) × MarksNot l xs
    by_mark true e g rest = absurd (omega (arith, g))
    by_mark false e g rest = (e, rest (omega (arith, g)))

-- a label that does not stand in a list is looked for behind it
pub offset_past : (at : ℕ) (l : Label) (xs ys : List Stmt86) → MarksNot l xs → offset_from at (xs ++ ys) l ≡ offset_from (at + sizes_of xs) ys l
offset_past at l [] ys h = let e : at ≡ at + 0 = omega arith in ap (λ n. offset_from n ys l) e
offset_past at l (x ∷ xs) ys h =
    let e : at + size_of x + sizes_of xs ≡ at + (size_of x + sizes_of xs) = omega arith in
    ap (λ b. cond b (Some at) (offset_from (at + size_of x) (xs ++ ys) l)) h.0 ∙ offset_past (at + size_of x) l xs ys h.1 ∙ ap (λ n. offset_from n ys l) e
