-- An operation is found among those of its first letter.
use Rattle.std.proofs.Common.{◌≡◌, ℕ, zero, suc, ◌+◌, ◌-◌, ◌<◌, ◌≤◌, Bor, length, map, get_or, List, [], ◌∷◌, Bool, true, false, eqb, cond, Option, Some, None, refl, sym, ap, ◌∙◌, arith, inl, inr}
use Rattle.std.specs.Prelude.{find, slice_get, slice_index, option_map}
use Rattle.std.specs.List.{filter, list_all}
use Rattle.std.specs.Str.{bytes_eq}
use Rattle.std.proofs.lemmas.Bool.{cases_Bool, eq-eqb}
use Rattle.std.proofs.lemmas.Bool.Decides.{nat_tests}
use Rattle.std.proofs.lemmas.List.{get_or-map, length-map}
use Rattle.std.proofs.lemmas.Option.{get_or_from_slice_get, slice_get_within}
use Rattle.std.proofs.lemmas.Slice.Eq.{bytes_eq-Decides}
use Rattle.asm80_source_def.specs.declared.operation.Operation.{Operation}
use Rattle.asm80_first_walk.specs.Tables.{entries_of, of_letter, by_letter, begins_with_letter, is_letter}
use Rattle.asm80_first_walk.proofs.Lists.{find_mapped}

not_both : (b : Bool) → b ≡ true → b ≡ false → ⊥
not_both b e f = cc

-- what is looked for passes a second test, so it is found among what passes that
find_among : {X : Type 0} (p q : X → Bool) (xs : List X) → ((x : X) → p x ≡ true → q x ≡ true) → find p (filter q xs) ≡ find p xs
find_among p q [] h = refl
find_among {X} p q (x ∷ xs) h = elim (cases_Bool (q x)) [
  | inl passed ↦ rw passed (ap (λ (o : Option X). cond (p x) (Some x) o) (find_among p q xs h))
  | inr failed ↦ elim (cases_Bool (p x)) [
    | inl wrong ↦ absurd (not_both (q x) (h x wrong) failed)
    | inr other ↦ rw (failed, other) (find_among p q xs h)
  ]
]

-- and where nothing that is there passes that, nothing is found
find_nothing : {X : Type 0} (p q : X → Bool) (xs : List X) → ((x : X) → p x ≡ true → q x ≡ true → ⊥) → list_all q xs ≡ true → find p xs ≡ None
find_nothing p q [] h all = refl
find_nothing {X} p q (x ∷ xs) h all = elim (cases_Bool (q x)) [
  | inr failed ↦ absurd (not_both false (rw failed at all) refl)
  | inl passed ↦ elim (cases_Bool (p x)) [
    | inl found ↦ absurd (h x found passed)
    | inr other ↦ rw other (find_nothing p q xs h (rw passed at all))
  ]
]

letters : (n letter k : ℕ) (entries : List (List ℕ × Operation)) → k < n → slice_get (by_letter n letter entries) k ≡ Some (of_letter (letter + k) entries)
unfolding by_letter
letters zero letter k entries lt = absurd (omega arith)
letters (suc n) letter zero entries lt = let same : letter + 0 ≡ letter = omega arith in rw same refl
letters (suc n) letter (suc k) entries lt = let same : letter + suc k ≡ suc letter + k = omega arith in rw same (letters n (suc letter) k entries (omega arith))

abbrev is_word : List ℕ → List ℕ × Operation → Bool
is_word word x = bytes_eq x.0 word

has_word : (word : List ℕ) (x : List ℕ × Operation) → is_word word x ≡ true → x.0 ≡ word
has_word word x e = (bytes_eq-Decides x.0 word).0 e

-- the entry of a word is among those of its first letter
found_by_letter : (entries : List (List ℕ × Operation)) (word : List ℕ) (letter : ℕ) → slice_index word 0 ≡ letter → find (λ (x : List ℕ × Operation). bytes_eq x.0 word) (of_letter letter entries) ≡ find (λ (x : List ℕ × Operation). bytes_eq x.0 word) entries
found_by_letter entries word letter first = find_among (is_word word) (λ (x : List ℕ × Operation). eqb (slice_index x.0 0) letter) entries (λ x e. eq-eqb _ _ (ap (λ w. slice_index w 0) (has_word word x e) ∙ first))

-- a word that begins with no letter has none
found_nowhere : (entries : List (List ℕ × Operation)) (word : List ℕ) → is_letter (slice_index word 0) ≡ false → list_all begins_with_letter entries ≡ true → find (λ (x : List ℕ × Operation). bytes_eq x.0 word) entries ≡ None
found_nowhere entries word none all = find_nothing (is_word word) begins_with_letter entries (λ x e is. not_both (is_letter (slice_index word 0)) (ap (λ w. is_letter (slice_index w 0)) (sym (has_word word x e)) ∙ is) none) all

abbrev pub Rows : Type 0
Rows = List (Bor (List (Bor (List ℕ) × Operation)))

abbrev view : Bor (List (Bor (List ℕ) × Operation)) → List (List ℕ × Operation)
view list = entries_of list.now

-- what lies at a place among the lists
row : (lists : Rows) (entries : List (List ℕ × Operation)) (k : ℕ) (d : Bor (List (Bor (List ℕ) × Operation))) → map view lists ≡ by_letter 26 65 entries → k < 26 → view (get_or lists k d) ≡ of_letter (65 + k) entries
row lists entries k d same lt =
    let e : slice_get (map view lists) k ≡ Some (of_letter (65 + k) entries) = ap (λ ls. slice_get ls k) same ∙ letters 26 65 k entries lt in
    let within : k < length lists = omega (arith, slice_get_within (map view lists) k (of_letter (65 + k) entries) e, length-map lists view) in
    sym (get_or-map view lists k d (view d) within) ∙ get_or_from_slice_get (map view lists) k (of_letter (65 + k) entries) (view d) e

letter_range : (b : ℕ) → is_letter b ≡ true → (65 ≤ b) × (b ≤ 90)
letter_range b e = (grind (arith, nat_tests), grind (arith, nat_tests))

-- so a word is found there that begins with the letter of that place
pub found_in_row : (lists : Rows) (entries : List (List ℕ × Operation)) (word : List ℕ) (letter k : ℕ) (d : Bor (List (Bor (List ℕ) × Operation))) → map view lists ≡ by_letter 26 65 entries → slice_get word 0 ≡ Some letter → is_letter letter ≡ true → k ≡ letter - 65
    → option_map (λ (x : Bor (List ℕ) × Operation). x.1) (find (λ (x : Bor (List ℕ) × Operation). bytes_eq x.0.now word) (get_or lists k d).now) ≡ option_map (λ (x : List ℕ × Operation). x.1) (find (λ (x : List ℕ × Operation). bytes_eq x.0 word) entries)
found_in_row lists entries word letter k d same first is place =
    let range : (65 ≤ letter) × (letter ≤ 90) = letter_range letter is in
    let at : 65 + k ≡ letter = omega arith in
    let value = λ (x : List ℕ × Operation). x.1 in
    let is_it = λ (x : List ℕ × Operation). bytes_eq x.0 word in
    find_mapped (λ (x : Bor (List ℕ) × Operation). (x.0.now, x.1)) is_it value (get_or lists k d).now
    ∙ ap (λ es. option_map value (find is_it es)) (row lists entries k d same (omega arith) ∙ ap (λ l. of_letter l entries) at)
    ∙ ap (option_map value) (found_by_letter entries word letter (get_or_from_slice_get word 0 letter 0 first))

pub no_first : (entries : List (List ℕ × Operation)) (word : List ℕ) → slice_get word 0 ≡ None → list_all begins_with_letter entries ≡ true → None ≡ option_map (λ (x : List ℕ × Operation). x.1) (find (λ (x : List ℕ × Operation). bytes_eq x.0 word) entries)
no_first entries [] first all = sym (ap (option_map (λ (x : List ℕ × Operation). x.1)) (found_nowhere entries [] refl all))
no_first entries (b ∷ word) first all = absurd cc

pub no_letter : (entries : List (List ℕ × Operation)) (word : List ℕ) (letter : ℕ) → slice_get word 0 ≡ Some letter → is_letter letter ≡ false → list_all begins_with_letter entries ≡ true → None ≡ option_map (λ (x : List ℕ × Operation). x.1) (find (λ (x : List ℕ × Operation). bytes_eq x.0 word) entries)
no_letter entries word letter first other all = sym (ap (option_map (λ (x : List ℕ × Operation). x.1)) (found_nowhere entries word (ap is_letter (get_or_from_slice_get word 0 letter 0 first) ∙ other) all))
