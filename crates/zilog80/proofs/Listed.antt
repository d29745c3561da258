-- The words that are operations, as one list.
use Rattle.std.proofs.Common.{◌≡◌, ℕ, ◌≤◌, List, [], ◌∷◌, ◌++◌, map, length, ltb, true, false, ◌||◌, refl, ap, ◌∙◌, arith, inl, inr}
use Rattle.std.specs.List.{list_any, list_all}
use Rattle.std.proofs.lemmas.Bool.{ltb-true}
use Rattle.std.proofs.lemmas.List.Folds.{list_any-append}
use Rattle.std.specs.Str.{bytes_eq}
use Rattle.zilog80.specs.Operands.{Class}
use Rattle.zilog80.specs.Table.{bare_rows, unary_rows, binary_rows}
use Rattle.zilog80.specs.Words.{directives, is_directive, is_bare, is_unary, is_operation}
use Rattle.zilog80.proofs.Among.{two_cases, passes, named}

-- the word of a row is some word if the words of the rows have it
of_rows : {X : Type 0} (word : X → List ℕ) (rows : List X) (w : List ℕ) → list_any (λ n. bytes_eq n w) (map word rows) ≡ list_any (λ r. bytes_eq (word r) w) rows
of_rows word [] w = refl
of_rows word (r ∷ rows) w = ap (λ b. bytes_eq (word r) w || b) (of_rows word rows w)

bares : List (List ℕ)
bares = map (λ (r : List ℕ × List ℕ). r.0) bare_rows

unaries : List (List ℕ)
unaries = map (λ (r : List ℕ × Class × List ℕ). r.0) unary_rows

binaries : List (List ℕ)
binaries = map (λ (r : List ℕ × Class × Class × List ℕ). r.0) binary_rows

unfoldable pub words : List (List ℕ)
words = directives ++ (map (λ (r : List ℕ × List ℕ). r.0) bare_rows ++ (map (λ (r : List ℕ × Class × List ℕ). r.0) unary_rows ++ map (λ (r : List ℕ × Class × Class × List ℕ). r.0) binary_rows))

pub words_are : (w : List ℕ) → list_any (λ n. bytes_eq n w) words ≡ is_operation w
unfolding words bares unaries binaries
words_are w =
    list_any-append (λ n. bytes_eq n w) directives (bares ++ (unaries ++ binaries))
    ∙ ap (λ b. is_directive w || b) (list_any-append (λ n. bytes_eq n w) bares (unaries ++ binaries))
    ∙ ap (λ b. is_directive w || (b || list_any (λ n. bytes_eq n w) (unaries ++ binaries))) (of_rows (λ (r : List ℕ × List ℕ). r.0) bare_rows w)
    ∙ ap (λ b. is_directive w || (is_bare w || b)) (list_any-append (λ n. bytes_eq n w) unaries binaries)
    ∙ ap (λ b. is_directive w || (is_bare w || (b || list_any (λ n. bytes_eq n w) binaries))) (of_rows (λ (r : List ℕ × Class × List ℕ). r.0) unary_rows w)
    ∙ ap (λ b. is_directive w || (is_bare w || (is_unary w || b))) (of_rows (λ (r : List ℕ × Class × Class × List ℕ). r.0) binary_rows w)

-- each has more than one letter

all_longer : list_all (λ v. ltb 1 (length v)) words ≡ true
unfolding words directives bare_rows unary_rows binary_rows
all_longer = refl

pub one_letter : (w : List ℕ) → length w ≤ 1 → is_operation w ≡ false
one_letter w le = elim (two_cases (is_operation w)) [
  | inl is ↦ let longer = ltb-true 1 (length w) (passes (λ v. ltb 1 (length v)) words w all_longer (named words w (words_are w ∙ is))) in absurd (omega arith)
  | inr not_one ↦ not_one
]
