-- Statements one after the other: labels, offsets and bytes of two lists joined.
use Rattle.std.proofs.Common.{◌≡◌, ℕ, ◌+◌, ◌≤◌, Bool, true, false, cond, List, [], ◌∷◌, ◌++◌, Option, None, Some, is_some, unwrap_or, refl, sym, ap, subst, ◌∙◌, append_assoc, arith}
use Rattle.asm86_line_types.specs.declared.line.Label.{Label}
use Rattle.asm86_line_types.specs.declared.line.Stmt86.{Stmt86}
use Rattle.asm86_line_types.specs.declared.line.Stmt86.TheVariants.{Mark}
use Rattle.asm86_line_types.specs.Layout.{same_label, size_of, sizes_of, marked, is_label, marks, offset_from, offset_of, place_of, bytes_at, code_from}
use Rattle.asm86_line_types.specs.Image.{offset_in, count_marks, IsDefinedOnce, AllDefined, UsesDefined, used_in, short_reaches, AllReach, labels_before, labels_from}
use Rattle.asm86_line_types.proofs.Labels.{same_label_is, same_label_self}
use Rattle.asm86_line_types.proofs.Sizes.{count_marks-append}
use Rattle.asm86.specs.Places.{label_place}

labels_before-append : (m : Option Label) (at : ℕ) (ys zs : List (Label × ℕ)) → labels_before m at (ys ++ zs) ≡ labels_before m at ys ++ zs
labels_before-append None at ys zs = refl
labels_before-append (Some l) at ys zs = refl

pub labels_from-append : (at : ℕ) (xs ys : List Stmt86) → labels_from at (xs ++ ys) ≡ labels_from at xs ++ labels_from (at + sizes_of xs) ys
labels_from-append at [] ys = let e : at ≡ at + 0 = omega arith in ap (λ n. labels_from n ys) e
labels_from-append at (x ∷ xs) ys =
    let e : (at + size_of x) + sizes_of xs ≡ at + (size_of x + sizes_of xs) = omega arith in
    ap (labels_before (marked x) at) (labels_from-append (at + size_of x) xs ys ∙ ap (λ n. labels_from (at + size_of x) xs ++ labels_from n ys) e)
    ∙ labels_before-append (marked x) at (labels_from (at + size_of x) xs) (labels_from (at + (size_of x + sizes_of xs)) ys)

pub code_from-append : (off : Label → ℕ) (at : ℕ) (xs ys : List Stmt86) → code_from off at (xs ++ ys) ≡ code_from off at xs ++ code_from off (at + sizes_of xs) ys
code_from-append off at [] ys = let e : at ≡ at + 0 = omega arith in ap (λ n. code_from off n ys) e
code_from-append off at (x ∷ xs) ys =
    let e : (at + size_of x) + sizes_of xs ≡ at + (size_of x + sizes_of xs) = omega arith in
    ap (λ bs. bytes_at off at x ++ bs) (code_from-append off (at + size_of x) xs ys ∙ ap (λ n. code_from off (at + size_of x) xs ++ code_from off n ys) e)
    ∙ sym (append_assoc (bytes_at off at x) (code_from off (at + size_of x) xs) (code_from off (at + (size_of x + sizes_of xs)) ys))

-- the offset of a label is that in the list of labels
offset_step : (m : Option Label) (at : ℕ) (l : Label) (r : Option ℕ) (rest : List (Label × ℕ)) → r ≡ offset_in rest l → cond (is_label l m) (Some at) r ≡ offset_in (labels_before m at rest) l
offset_step None at l r rest e = e
offset_step (Some k) at l r rest e = ap (λ o. cond (same_label k l) (Some at) o) e

pub offset_is : (at : ℕ) (xs : List Stmt86) (l : Label) → offset_from at xs l ≡ offset_in (labels_from at xs) l
offset_is at [] l = refl
offset_is at (x ∷ xs) l = offset_step (marked x) at l (offset_from (at + size_of x) xs l) (labels_from (at + size_of x) xs) (offset_is (at + size_of x) xs l)

pub has_place : (labels : List (Label × ℕ)) (xs : List Stmt86) (l : Label) → labels ≡ labels_from 0 xs → is_some (offset_in labels l) ≡ is_some (offset_of xs l)
has_place labels xs l e = ap (λ ls. is_some (offset_in ls l)) e ∙ ap is_some (sym (offset_is 0 xs l))

-- the places of a text are those in its list of labels
pub places : (xs : List Stmt86) → label_place (labels_from 0 xs) ≡ place_of xs
places xs = λ i l. unwrap_or (sym (offset_is 0 xs l) i) 0

-- a place is within the code
place_step : (m : Option Label) (at from to : ℕ) (l : Label) (rest : List (Label × ℕ)) → from ≤ to → at ≤ to → label_place rest l ≤ to → label_place (labels_before m at rest) l ≤ to
place_step None at from to l rest some here h = h
place_step (Some k) at from to l rest some here h = by_test (same_label k l)
  where
    by_test : (t : Bool) → unwrap_or (cond t (Some at) (offset_in rest l)) 0 ≤ to
    by_test true = here
    by_test false = h

pub place_within : (at : ℕ) (xs : List Stmt86) (l : Label) → label_place (labels_from at xs) l ≤ at + sizes_of xs
place_within at [] l = omega arith
place_within at (x ∷ xs) l =
    let h = place_within (at + size_of x) xs l in
    place_step (marked x) at at (at + (size_of x + sizes_of xs)) l (labels_from (at + size_of x) xs) (omega arith) (omega arith) (omega (arith, h))

-- how often a label is defined, where it has an offset and where it has none
absent_step : (t : Bool) (at n : ℕ) (r : Option ℕ) → cond t (Some at) r ≡ None → (r ≡ None → n ≡ 0) → cond t 1 0 + n ≡ 0
absent_step true at n r h k = cc
absent_step false at n r h k = let e = k h in omega (arith, e)

pub absent : (at : ℕ) (xs : List Stmt86) (l : Label) → offset_from at xs l ≡ None → count_marks l xs ≡ 0
absent at [] l h = refl
absent at (x ∷ xs) l h = absent_step (marks l x) at (count_marks l xs) (offset_from (at + size_of x) xs l) h (absent (at + size_of x) xs l)

present_step : (t : Bool) (at n a : ℕ) (r : Option ℕ) → cond t (Some at) r ≡ Some a → (r ≡ Some a → 1 ≤ n) → 1 ≤ cond t 1 0 + n
present_step true at n a r h k = omega arith
present_step false at n a r h k = let e = k h in omega (arith, e)

pub present : (at a : ℕ) (xs : List Stmt86) (l : Label) → offset_from at xs l ≡ Some a → 1 ≤ count_marks l xs
present at a [] l h = cc
present at a (x ∷ xs) l h = present_step (marks l x) at (count_marks l xs) a (offset_from (at + size_of x) xs l) h (present (at + size_of x) a xs l)

-- a label that is not there may be defined
pub defined_more : (xs : List Stmt86) (l : Label) → IsDefinedOnce xs → offset_from 0 xs l ≡ None → IsDefinedOnce (xs ++ Mark l ∷ [])
defined_more xs l once none k = by_test (same_label l k) refl
  where
    by_test : (t : Bool) → same_label l k ≡ t → count_marks k (xs ++ Mark l ∷ []) ≤ 1
    by_test true e =
        let joined = count_marks-append k xs (Mark l ∷ []) in
        let one : ◌≡◌ {A = ℕ} (cond (same_label l k) 1 0) 1 = ap (λ b. cond {A = ℕ} b 1 0) e in
        let zero : count_marks k xs ≡ 0 = absent 0 xs k (ap (offset_from 0 xs) (sym (same_label_is l k e)) ∙ none) in
        omega (arith, joined, one, zero)
    by_test false e =
        let joined = count_marks-append k xs (Mark l ∷ []) in
        let none : ◌≡◌ {A = ℕ} (cond (same_label l k) 1 0) 0 = ap (λ b. cond {A = ℕ} b 1 0) e in
        let most = once k in
        omega (arith, joined, none, most)

-- one that is there may not
pub defined_again : (xs : List Stmt86) (l : Label) (a : ℕ) → offset_from 0 xs l ≡ Some a → IsDefinedOnce (xs ++ Mark l ∷ []) → ⊥
defined_again xs l a some once =
    let joined = count_marks-append l xs (Mark l ∷ []) in
    let one : ◌≡◌ {A = ℕ} (cond (same_label l l) 1 0) 1 = ap (λ b. cond {A = ℕ} b 1 0) (same_label_self l) in
    let least = present 0 a xs l some in
    let most = once l in
    omega (arith, joined, one, least, most)

-- a statement that is no label leaves the labels
pub defined_still : (xs : List Stmt86) (x : Stmt86) → marked x ≡ None → IsDefinedOnce xs → IsDefinedOnce (xs ++ x ∷ [])
defined_still xs x none once l =
    let joined = count_marks-append l xs (x ∷ []) in
    let zero : ◌≡◌ {A = ℕ} (cond (marks l x) 1 0) 0 = ap (λ m. cond {A = ℕ} (is_label l m) 1 0) none in
    let most = once l in
    omega (arith, joined, zero, most)

-- the rules at a list with one statement more, and at the front of a list
pub uses_more : (all xs : List Stmt86) (x : Stmt86) → UsesDefined all xs → AllDefined all (used_in x) → UsesDefined all (xs ++ x ∷ [])
uses_more all [] x h d = (d, tt)
uses_more all (y ∷ ys) x h d = (h.0, uses_more all ys x h.1 d)

pub uses_front : (all xs ys : List Stmt86) → UsesDefined all (xs ++ ys) → UsesDefined all xs
uses_front all [] ys h = tt
uses_front all (x ∷ xs) ys h = (h.0, uses_front all xs ys h.1)

pub uses_last : (all xs : List Stmt86) (x : Stmt86) → UsesDefined all (xs ++ x ∷ []) → AllDefined all (used_in x)
uses_last all [] x h = h.0
uses_last all (y ∷ ys) x h = uses_last all ys x h.1

pub reach_more : (off : Label → ℕ) (at : ℕ) (xs : List Stmt86) (x : Stmt86) → AllReach off at xs → short_reaches off (at + sizes_of xs) x ≡ true → AllReach off at (xs ++ x ∷ [])
reach_more off at [] x h r = let e : at + 0 ≡ at = omega arith in (subst (λ n. short_reaches off n x ≡ true) e r, tt)
reach_more off at (y ∷ ys) x h r =
    let e : at + (size_of y + sizes_of ys) ≡ (at + size_of y) + sizes_of ys = omega arith in
    (h.0, reach_more off (at + size_of y) ys x h.1 (subst (λ n. short_reaches off n x ≡ true) e r))

pub reach_front : (off : Label → ℕ) (at : ℕ) (xs ys : List Stmt86) → AllReach off at (xs ++ ys) → AllReach off at xs
reach_front off at [] ys h = tt
reach_front off at (x ∷ xs) ys h = (h.0, reach_front off (at + size_of x) xs ys h.1)

pub reach_last : (off : Label → ℕ) (at : ℕ) (xs : List Stmt86) (x : Stmt86) → AllReach off at (xs ++ x ∷ []) → short_reaches off (at + sizes_of xs) x ≡ true
reach_last off at [] x h = let e : at ≡ at + 0 = omega arith in subst (λ n. short_reaches off n x ≡ true) e h.0
reach_last off at (y ∷ ys) x h =
    let e : (at + size_of y) + sizes_of ys ≡ at + (size_of y + sizes_of ys) = omega arith in
    subst (λ n. short_reaches off n x ≡ true) e (reach_last off (at + size_of y) ys x h.1)

pub once_front : (xs ys : List Stmt86) → IsDefinedOnce (xs ++ ys) → IsDefinedOnce xs
once_front xs ys once l = let joined = count_marks-append l xs ys in let most = once l in omega (arith, joined, most)
