-- Words that lie by their first letters are those of a list, if two tests say so.
use Rattle.std.proofs.Common.{◌≡◌, ℕ, zero, suc, ◌-◌, List, [], ◌∷◌, Bool, true, false, ◌&&◌, ◌||◌, Some, None, refl, sym, ap, ◌∙◌, ◌⊎◌, inl, inr, Bor}
use Rattle.std.specs.List.{list_any, list_all, slice_get}
use Rattle.std.specs.Str.{bytes_eq}
use Rattle.std.proofs.lemmas.Option.{same_Some}
use Rattle.std.proofs.lemmas.Slice.Eq.{bytes_eq-Decides}
use Rattle.asm80_types.specs.Words.{Lists, is_among, is_by_letter, are_by_letter}

both : (a b : Bool) → (a && b) ≡ true → (a ≡ true) × (b ≡ true)
both true true e = (refl, refl)
both true false e = absurd cc
both false b e = absurd cc

either : (a b : Bool) → (a || b) ≡ true → (a ≡ true) ⊎ (b ≡ true)
either true b e = inl refl
either false b e = inr e

same : (a b : Bool) → (a ≡ true → b ≡ true) → (b ≡ true → a ≡ true) → a ≡ b
same true b f g = sym (f refl)
same false true f g = g refl
same false false f g = refl

-- what all words of a list pass passes a name that is one of them
named : {X : Type 0} (word : X → List ℕ) (test : List ℕ → Bool) (xs : List X) (name : List ℕ) → list_any (λ x. bytes_eq (word x) name) xs ≡ true → list_all (λ x. test (word x)) xs ≡ true → test name ≡ true
named word test [] name e all = absurd cc
named word test (x ∷ xs) name e all =
    let parts = both (test (word x)) (list_all (λ y. test (word y)) xs) all in
    elim (either (bytes_eq (word x) name) (list_any (λ y. bytes_eq (word y) name) xs) e) [
      | inl here ↦ ap test (sym ((bytes_eq-Decides (word x) name).0 here)) ∙ parts.0
      | inr later ↦ named word test xs name later parts.1
    ]

passes_all : (List ℕ → Bool) → Lists → Bool
passes_all test lists = list_all (λ (words : Bor (List (Bor (List ℕ)))). list_all (λ (word : Bor (List ℕ)). test word.now) words.now) lists

-- so does one that is in the list of some letter
in_list : (test : List ℕ → Bool) (lists : Lists) (k : ℕ) (name : List ℕ) → is_among (slice_get lists k) name ≡ true → passes_all test lists ≡ true → test name ≡ true
unfolding passes_all
in_list test [] k name e all = absurd cc
in_list test (words ∷ lists) zero name e all = named (λ (word : Bor (List ℕ)). word.now) test words.now name e (both _ _ all).0
in_list test (words ∷ lists) (suc k) name e all = in_list test lists k name e (both (list_all (λ (word : Bor (List ℕ)). test word.now) words.now) _ all).1

listed : (test : List ℕ → Bool) (lists : Lists) (name : List ℕ) → is_by_letter lists name ≡ true → passes_all test lists ≡ true → test name ≡ true
listed test lists [] e all = absurd cc
listed test lists (letter ∷ rest) e all = in_list test lists (letter - 65) (letter ∷ rest) e all

pub by_letter : (lists : Lists) (words : List (List ℕ)) (name : List ℕ) → are_by_letter lists words ≡ true → is_by_letter lists name ≡ list_any (λ word. bytes_eq word name) words
unfolding passes_all
by_letter lists words name e =
    let tests = both (passes_all (λ n. list_any (λ word. bytes_eq word n) words) lists) (list_all (is_by_letter lists) words) e in
    same (is_by_letter lists name) (list_any (λ word. bytes_eq word name) words)
    (λ here. listed (λ n. list_any (λ word. bytes_eq word n) words) lists name here tests.0)
    (λ there. named (λ n. n) (is_by_letter lists) words name there tests.1)

-- where a name has no first letter
pub of_none : (lists : Lists) (name : List ℕ) → slice_get name 0 ≡ None → false ≡ is_by_letter lists name
of_none lists [] e = refl
of_none lists (letter ∷ rest) e = absurd cc

-- the words of its first letter, which lie at a place
pub at_first : (lists : Lists) (name : List ℕ) (letter k : ℕ) → slice_get name 0 ≡ Some letter → k ≡ letter - 65 → is_among (slice_get lists k) name ≡ is_by_letter lists name
at_first lists [] letter k e at = absurd cc
at_first lists (x ∷ rest) letter k e at = ap (λ n. is_among (slice_get lists n) (x ∷ rest)) (at ∙ ap (λ n. n - 65) (sym (same_Some x letter e)))
