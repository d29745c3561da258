-- What holds of each statement of a text, and the labels that stand in it.
use Rattle.std.proofs.Common.{◌≡◌, ℕ, ◌+◌, List, [], ◌∷◌, ◌++◌, Option, Some, refl, Bool, false, cond, true}
use Rattle.std.specs.Prelude.{is_some}
use Rattle.asm86_line_types.specs.declared.line.Label.{Label}
use Rattle.asm86_line_types.specs.declared.line.Stmt86.{Stmt86}
use Rattle.asm86_line_types.specs.Layout.{size_of, marks, offset_from}
use Rattle.asm86_line_types.proofs.Statements.{Each, MarksNot}
use Rattle.asm86_line_reader.specs.ReadBack.{has_line}
use Rattle.templates.specs.Style.{without_last, without_first_if, without_last_if}

pub each-append : (P : Stmt86 → Type 0) (xs ys : List Stmt86) → Each P xs → Each P ys → Each P (xs ++ ys)
each-append P [] ys h g = g
each-append P (x ∷ xs) ys h g = (h.0, each-append P xs ys h.1 g)

-- what holds of each holds of those that are left where the first or the last is left out
pub each-first : (P : Stmt86 → Type 0) (left_out : Bool) (xs : List Stmt86) → Each P xs → Each P (without_first_if left_out xs)
each-first P true [] h = tt
each-first P true (x ∷ xs) h = h.1
each-first P false xs h = h

each-but_last : (P : Stmt86 → Type 0) (xs : List Stmt86) → Each P xs → Each P (without_last xs)
each-but_last P [] h = tt
each-but_last P (x ∷ []) h = tt
each-but_last P (x ∷ (y ∷ ys)) h = (h.0, each-but_last P (y ∷ ys) h.1)

pub each-last : (P : Stmt86 → Type 0) (left_out : Bool) (xs : List Stmt86) → Each P xs → Each P (without_last_if left_out xs)
each-last P true xs h = each-but_last P xs h
each-last P false xs h = h

pub each-map : (P Q : Stmt86 → Type 0) → ((x : Stmt86) → P x → Q x) → (xs : List Stmt86) → Each P xs → Each Q xs
each-map P Q f [] h = tt
each-map P Q f (x ∷ xs) h = (f x h.0, each-map P Q f xs h.1)

-- each has a written line
abbrev pub HaveLines : List Stmt86 → Type 0
HaveLines xs = Each (λ x. has_line x ≡ true) xs

pub marks_not-append : (l : Label) (xs ys : List Stmt86) → MarksNot l xs → MarksNot l ys → MarksNot l (xs ++ ys)
marks_not-append l = each-append (λ x. marks l x ≡ false)

-- a label that stands in a list stands where more statements come before it
some_step : (t : Bool) (at : ℕ) (o : Option ℕ) → is_some o ≡ true → is_some (cond t (Some at) o) ≡ true
some_step true at o h = refl
some_step false at o h = h

pub stands_behind : (l : Label) (ys : List Stmt86) → ((at : ℕ) → is_some (offset_from at ys l) ≡ true) → (xs : List Stmt86) (at : ℕ) → is_some (offset_from at (xs ++ ys) l) ≡ true
stands_behind l ys h [] at = h at
stands_behind l ys h (x ∷ xs) at = some_step (marks l x) at (offset_from (at + size_of x) (xs ++ ys) l) (stands_behind l ys h xs (at + size_of x))
