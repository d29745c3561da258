-- Rows that lie by the first letters of their words: those of a word are all among those of its first letter.
use Rattle.std.proofs.Common.{◌≡◌, ℕ, zero, suc, ◌+◌, ◌-◌, ◌≤◌, List, [], ◌∷◌, map, Bool, true, false, eqb, ltb, ◌&&◌, filter, slice_get, Option, Some, None, option_map, option_copied, Bor, refl, sym, ap, ◌∙◌, arith, inl, inr, ◌⊎◌}
use Rattle.std.specs.Prelude.{Contains}
use Rattle.std.specs.List.{list_all}
use Rattle.std.proofs.lemmas.Bool.{eq-eqb, ltb-true}
use Rattle.std.proofs.lemmas.Option.{same_Some, slice_get-map}
use Rattle.zilog80.specs.declared.class.Class.{Class as ReadClass}
use Rattle.zilog80.specs.Operands.{Spelt, Class}
use Rattle.zilog80.specs.Read.{class_of, are_words, is_word, of_letter, BareEntry, UnaryEntry, BinaryEntry, bare_of, unary_of, binary_of, IsBareRow, IsUnaryRow, IsBinaryRow}
use Rattle.zilog80.proofs.Among.{Among, among, contained, passes, both, every, two_cases}

-- ---- what passes a test

kept : {X : Type 0} (test : X → Bool) (xs : List X) (x : X) → test x ≡ true → Among xs x → Among (filter test xs) x
kept test [] x e h = absurd h
kept test (y ∷ ys) x e (inl is) = rw (ap test is ∙ e) (inl is)
kept test (y ∷ ys) x e (inr h) = elim (two_cases (test y)) [
  | inl passed ↦ rw passed (inr (kept test ys x e h))
  | inr failed ↦ rw failed (kept test ys x e h)
]

later : {A B C : Type 0} → (B → C) → A ⊎ B → A ⊎ C
later f (inl a) = inl a
later f (inr b) = inr (f b)

stood : {X : Type 0} (test : X → Bool) (xs : List X) (x : X) → Among (filter test xs) x → Among xs x
stood test [] x h = absurd h
stood test (y ∷ ys) x h = elim (two_cases (test y)) [
  | inl passed ↦ later (stood test ys x) (rw passed at h)
  | inr failed ↦ inr (stood test ys x (rw failed at h))
]

words_kept : {X : Type 0} (test : X → Bool) (name : X → List ℕ) (xs : List X) → are_words (map name xs) ≡ true → are_words (map name (filter test xs)) ≡ true
words_kept test name [] e = refl
words_kept test name (x ∷ xs) e =
    let parts = both (is_word (name x)) (are_words (map name xs)) e in
    elim (two_cases (test x)) [
      | inl passed ↦ rw passed (every (is_word (name x)) (are_words (map name (filter test xs))) parts.0 (words_kept test name xs parts.1))
      | inr failed ↦ rw failed (words_kept test name xs parts.1)
    ]

seen_words : {X Y : Type 0} (name : X → List ℕ) (view : Y → X) (ys : List Y) → are_words (map (λ y. name (view y)) ys) ≡ are_words (map name (map view ys))
seen_words name view [] = refl
seen_words name view (y ∷ ys) = ap (λ b. is_word (name (view y)) && b) (seen_words name view ys)

-- ---- the rows of each letter

-- the place of a word's first letter
abbrev place_of : List ℕ → ℕ
place_of [] = 0
place_of (letter ∷ rest) = letter - 65

abbrev pub has_place : List ℕ → Bool
has_place [] = false
has_place (letter ∷ rest) = ltb (letter - 65) 26

module _ {X : Type 0} (word : X → List ℕ) where
  -- the rows whose words have a place
  abbrev at_place : ℕ → List X → List X
  at_place k rows = filter (λ r. eqb (place_of (word r)) k) rows

  -- those of so many places, from one on
  unfoldable pub by_letter : ℕ → ℕ → List X → List (List X)
  by_letter zero k rows = []
  by_letter (suc n) k rows = at_place k rows ∷ by_letter n (suc k) rows

  read_at : (n k i : ℕ) (rows part : List X) → slice_get (by_letter n k rows) i ≡ Some part → part ≡ at_place (k + i) rows
  unfolding by_letter
  read_at zero k i rows part e = absurd cc
  read_at (suc n) k zero rows part e = let same : k ≡ k + 0 = omega arith in sym (same_Some _ _ e) ∙ ap (λ m. at_place m rows) same
  read_at (suc n) k (suc i) rows part e = let same : suc k + i ≡ k + suc i = omega arith in read_at n (suc k) i rows part e ∙ ap (λ m. at_place m rows) same

  none_at : (n k i : ℕ) (rows : List X) → slice_get (by_letter n k rows) i ≡ None → n ≤ i
  unfolding by_letter
  none_at zero k i rows e = omega arith
  none_at (suc n) k zero rows e = absurd cc
  none_at (suc n) k (suc i) rows e = let later = none_at n (suc k) i rows e in omega arith

  -- the rows of a word are at its place
  into : (rows : List X) (r : X) → Contains rows r → Contains (at_place (place_of (word r)) rows) r
  into rows r h = contained _ r (kept (λ x. eqb (place_of (word x)) (place_of (word r))) rows r (eq-eqb _ _ refl) (among rows r h))

  out_of : (k : ℕ) (rows : List X) (r : X) → Contains (at_place k rows) r → Contains rows r
  out_of k rows r h = contained rows r (stood (λ x. eqb (place_of (word x)) k) rows r (among _ r h))

-- ---- as they lie in the code

copied_map : {X Y : Type 0} (view : Y → X) (o : Option (Bor (List Y))) → option_map (λ (l : Bor (List Y)). map view l.now) o ≡ option_map (map view) (option_copied o)
copied_map view None = refl
copied_map view (Some l) = refl

module _ {X Y : Type 0} (word : X → List ℕ) (view : Y → X) (rows : List X) (lists : List (Bor (List Y))) where
  -- these lists are the rows of the letters
  abbrev pub LieByLetter : Type 0
  LieByLetter = map (λ (l : Bor (List Y)). map view l.now) lists ≡ by_letter word 26 0 rows

  looked_up : LieByLetter → (k : ℕ) → slice_get (by_letter word 26 0 rows) k ≡ option_map (map view) (option_copied (slice_get lists k))
  looked_up lie k = ap (λ ls. slice_get ls k) (sym lie) ∙ slice_get-map (λ (l : Bor (List Y)). map view l.now) lists k ∙ copied_map view (slice_get lists k)

  -- what was found for a word is what is at its place
  found_rows : (w : List ℕ) (part : List Y) → of_letter lists w ≡ Some part → LieByLetter → map view part ≡ at_place word (place_of w) rows
  unfolding of_letter
  found_rows [] part e lie = absurd cc
  found_rows (letter ∷ rest) part e lie =
      let same : 0 + (letter - 65) ≡ letter - 65 = omega arith in
      read_at word 26 0 (letter - 65) rows (map view part) (looked_up lie (letter - 65) ∙ ap (option_map (map view)) e) ∙ ap (λ k. at_place word k rows) same

  -- what is a name in each row is one in what was found
  pub found_words : (name : X → List ℕ) (w : List ℕ) (part : List Y) → of_letter lists w ≡ Some part → LieByLetter → are_words (map name rows) ≡ true → are_words (map (λ y. name (view y)) part) ≡ true
  found_words name w part e lie all =
      seen_words name view part ∙ ap (λ xs. are_words (map name xs)) (found_rows w part e lie)
      ∙ words_kept (λ r. eqb (place_of (word r)) (place_of w)) name rows all

  -- where nothing was found, no row has the word
  none_found : (w : List ℕ) → of_letter lists w ≡ None → LieByLetter → has_place w ≡ true → ⊥
  unfolding of_letter
  none_found [] e lie p = absurd cc
  none_found (letter ∷ rest) e lie p =
      let past : 26 ≤ letter - 65 = none_at word 26 0 (letter - 65) rows (looked_up lie (letter - 65) ∙ ap (option_map (map view)) e) in
      let within = ltb-true (letter - 65) 26 p in
      omega arith

  no_rows : (w : List ℕ) → of_letter lists w ≡ None → LieByLetter → list_all (λ r. has_place (word r)) rows ≡ true → (r : X) → Contains rows r → word r ≡ w → ⊥
  no_rows w e lie all r h is = none_found w e lie (ap has_place (sym is) ∙ passes (λ x. has_place (word x)) rows r all (among rows r h))

-- ---- which row a word has

abbrev BareRow : Type 0
BareRow = List ℕ × List ℕ

abbrev UnaryRow : Type 0
UnaryRow = List ℕ × Class × List ℕ

abbrev BinaryRow : Type 0
BinaryRow = List ℕ × Class × Class × List ℕ

abbrev bare_word : BareRow → List ℕ
bare_word r = r.0

abbrev unary_word : UnaryRow → List ℕ
unary_word r = r.0

abbrev binary_word : BinaryRow → List ℕ
binary_word r = r.0

-- one of its letter is one of all
bare_anywhere : (rows : List BareRow) (w : List ℕ) (r : Option (List ℕ)) → IsBareRow (at_place bare_word (place_of w) rows) w r → IsBareRow rows w r
bare_anywhere rows w None h = λ op k. h op (into bare_word rows (w, op) k)
bare_anywhere rows w (Some op) h = out_of bare_word (place_of w) rows (w, op) h

unary_anywhere : (rows : List UnaryRow) (w : List ℕ) (a : Spelt) (r : Option (ReadClass × List ℕ)) → IsUnaryRow (at_place unary_word (place_of w) rows) w a r → IsUnaryRow rows w a r
unary_anywhere rows w a None h = λ c op k. h c op (into unary_word rows (w, c, op) k)
unary_anywhere rows w a (Some r) h = (out_of unary_word (place_of w) rows (w, class_of r.0, r.1) h.0, h.1)

binary_anywhere : (rows : List BinaryRow) (w : List ℕ) (a b : Spelt) (r : Option (ReadClass × ReadClass × List ℕ)) → IsBinaryRow (at_place binary_word (place_of w) rows) w a b r → IsBinaryRow rows w a b r
binary_anywhere rows w a b None h = λ c d op x y k. h c d op x y (into binary_word rows (w, c, d, op) k)
binary_anywhere rows w a b (Some r) h = (out_of binary_word (place_of w) rows (w, class_of r.0, class_of r.1, r.2) h.0, h.1, h.2)

pub bare_of_letter : (rows : List BareRow) (lists : List (Bor (List BareEntry))) (w : List ℕ) (part : List BareEntry) (r : Option (List ℕ))
    → of_letter lists w ≡ Some part → LieByLetter bare_word bare_of rows lists → ((entries : List BareRow) → map bare_of part ≡ entries → IsBareRow entries w r) → IsBareRow rows w r
bare_of_letter rows lists w part r e lie h = bare_anywhere rows w r (h _ (found_rows bare_word bare_of rows lists w part e lie))

pub bare_of_none : (rows : List BareRow) (lists : List (Bor (List BareEntry))) (w : List ℕ) → of_letter lists w ≡ None → LieByLetter bare_word bare_of rows lists → list_all (λ r. has_place (bare_word r)) rows ≡ true → IsBareRow rows w None
bare_of_none rows lists w e lie all = λ op k. no_rows bare_word bare_of rows lists w e lie all (w, op) k refl

pub unary_of_letter : (rows : List UnaryRow) (lists : List (Bor (List UnaryEntry))) (w : List ℕ) (a : Spelt) (part : List UnaryEntry) (r : Option (ReadClass × List ℕ))
    → of_letter lists w ≡ Some part → LieByLetter unary_word unary_of rows lists → ((entries : List UnaryRow) → map unary_of part ≡ entries → IsUnaryRow entries w a r) → IsUnaryRow rows w a r
unary_of_letter rows lists w a part r e lie h = unary_anywhere rows w a r (h _ (found_rows unary_word unary_of rows lists w part e lie))

pub unary_of_none : (rows : List UnaryRow) (lists : List (Bor (List UnaryEntry))) (w : List ℕ) (a : Spelt) → of_letter lists w ≡ None → LieByLetter unary_word unary_of rows lists → list_all (λ r. has_place (unary_word r)) rows ≡ true → IsUnaryRow rows w a None
unary_of_none rows lists w a e lie all = λ c op k. absurd (no_rows unary_word unary_of rows lists w e lie all (w, c, op) k refl)

pub binary_of_letter : (rows : List BinaryRow) (lists : List (Bor (List BinaryEntry))) (w : List ℕ) (a b : Spelt) (part : List BinaryEntry) (r : Option (ReadClass × ReadClass × List ℕ))
    → of_letter lists w ≡ Some part → LieByLetter binary_word binary_of rows lists → ((entries : List BinaryRow) → map binary_of part ≡ entries → IsBinaryRow entries w a b r) → IsBinaryRow rows w a b r
binary_of_letter rows lists w a b part r e lie h = binary_anywhere rows w a b r (h _ (found_rows binary_word binary_of rows lists w part e lie))

pub binary_of_none : (rows : List BinaryRow) (lists : List (Bor (List BinaryEntry))) (w : List ℕ) (a b : Spelt) → of_letter lists w ≡ None → LieByLetter binary_word binary_of rows lists → list_all (λ r. has_place (binary_word r)) rows ≡ true → IsBinaryRow rows w a b None
binary_of_none rows lists w a b e lie all = λ c d op x y k _ _. no_rows binary_word binary_of rows lists w e lie all (w, c, d, op) k refl
