-- The bytes that count of a name or a number, byte by byte.
use Rattle.std.proofs.Common.{suc, append_assoc, ◌≡◌, ◌≢◌, ℕ, ◌+◌, ◌<◌, ◌∷◌, [], ◌++◌, List, true, false, ◌&&◌, ◌||◌, if◌then◌else◌, eqb, length, take, drop, get_or, map, refl, sym, ap, ◌∙◌, arith, inl, inr, length-append}
use Rattle.std.specs.List.{list_all}
use Rattle.std.proofs.lemmas.Bool.{cases_Bool, eq-eqb, ne_eqb}
use Rattle.std.proofs.lemmas.Bool.Decides.{nat_tests}
use Rattle.std.proofs.lemmas.List.{append-nil, map-append, take_more, take-append-drop}
use Rattle.std.proofs.lemmas.List.Elements.{filter-append}
use Rattle.asm80_text.specs.Letters.{is_digit, is_inside, upper, significant, inside_len, word_bytes}

pub significant-append : (a b : List ℕ) → significant (a ++ b) ≡ significant a ++ significant b
unfolding significant
significant-append a b = ap (map upper) (filter-append (λ (c : ℕ). if eqb c 36 then false else true) a b) ∙ map-append upper _ _

pub none : significant [] ≡ []
unfolding significant
none = refl

one : (b : ℕ) → eqb b 36 ≡ false → significant (b ∷ []) ≡ upper b ∷ []
unfolding significant
one b e = rw e refl

dollar : (b : ℕ) → eqb b 36 ≡ true → significant (b ∷ []) ≡ []
unfolding significant
dollar b e = rw e refl

-- one byte more
pub skipped : (s : List ℕ) (i : ℕ) → i < length s → get_or s i 0 ≡ 36 → significant (take (i + 1) s) ≡ significant (take i s)
skipped s i h e = ap significant (take_more s i 0 h) ∙ significant-append (take i s) (get_or s i 0 ∷ []) ∙ ap (λ t. significant (take i s) ++ t) (dollar (get_or s i 0) (eq-eqb _ _ e)) ∙ append-nil _

pub one_more : (s : List ℕ) (i : ℕ) → i < length s → get_or s i 0 ≢ 36 → significant (take (i + 1) s) ≡ significant (take i s) ++ upper (get_or s i 0) ∷ []
one_more s i h n = ap significant (take_more s i 0 h) ∙ significant-append (take i s) (get_or s i 0 ∷ []) ∙ ap (λ t. significant (take i s) ++ t) (one (get_or s i 0) (ne_eqb _ _ n))

-- a byte that counts stands among them
pub split_at_one : (s : List ℕ) (i : ℕ) → i < length s → get_or s i 0 ≢ 36 → significant s ≡ (significant (take i s) ++ upper (get_or s i 0) ∷ []) ++ significant (drop (i + 1) s)
split_at_one s i h n =
    ap significant (sym (take-append-drop (i + 1) s)) ∙ significant-append (take (i + 1) s) (drop (i + 1) s)
    ∙ ap (λ t. t ++ significant (drop (i + 1) s)) (one_more s i h n)

-- ---- a name as it is read

front_inside : (b : ℕ) (rest : List ℕ) → is_inside b ≡ true → word_bytes (b ∷ rest) ≡ significant (b ∷ []) ++ word_bytes rest
front_inside b rest e = let one : 1 + inside_len rest ≡ suc (inside_len rest) = omega arith in rw (e, one) (significant-append (b ∷ []) (take (inside_len rest) rest))

past_inside : (b : ℕ) (rest : List ℕ) → is_inside b ≡ true → drop (inside_len (b ∷ rest)) (b ∷ rest) ≡ drop (inside_len rest) rest
past_inside b rest e = let one : 1 + inside_len rest ≡ suc (inside_len rest) = omega arith in rw (e, one) refl

pub goes_past : (bytes rest after : List ℕ) (b : ℕ) → drop (inside_len bytes) bytes ≡ drop (inside_len rest) rest → rest ≡ b ∷ after → is_inside b ≡ true → drop (inside_len bytes) bytes ≡ drop (inside_len after) after
goes_past bytes rest after b h e is = h ∙ ap (λ (t : List ℕ). drop (inside_len t) t) e ∙ past_inside b after is

pub passes_dollar : (bytes rest after kept : List ℕ) (b : ℕ) → word_bytes bytes ≡ kept ++ word_bytes rest → rest ≡ b ∷ after → is_inside b ≡ true → b ≡ 36 → word_bytes bytes ≡ kept ++ word_bytes after
passes_dollar bytes rest after kept b h e is d = h ∙ ap (λ (t : List ℕ). kept ++ t) (ap word_bytes e ∙ front_inside b after is ∙ ap (λ (t : List ℕ). t ++ word_bytes after) (dollar b (eq-eqb _ _ d)))

one_kept : (rest after : List ℕ) (b : ℕ) → rest ≡ b ∷ after → is_inside b ≡ true → b ≢ 36 → word_bytes rest ≡ (upper b ∷ []) ++ word_bytes after
one_kept rest after b e is n = ap word_bytes e ∙ front_inside b after is ∙ ap (λ (t : List ℕ). t ++ word_bytes after) (one b (ne_eqb _ _ n))

pub keeps_one : (bytes rest after kept : List ℕ) (b : ℕ) → word_bytes bytes ≡ kept ++ word_bytes rest → rest ≡ b ∷ after → is_inside b ≡ true → b ≢ 36 → word_bytes bytes ≡ (kept ++ upper b ∷ []) ++ word_bytes after
keeps_one bytes rest after kept b h e is n = h ∙ ap (λ (t : List ℕ). kept ++ t) (one_kept rest after b e is n) ∙ sym (append_assoc kept (upper b ∷ []) (word_bytes after))

-- there is no room for one more
pub too_many : (bytes rest after kept : List ℕ) (b : ℕ) → word_bytes bytes ≡ kept ++ word_bytes rest → rest ≡ b ∷ after → is_inside b ≡ true → b ≢ 36 → length kept < length (word_bytes bytes)
too_many bytes rest after kept b h e is n = rw (h, one_kept rest after b e is n) (simp length-append (omega arith))

none_inside : (rest : List ℕ) → inside_len rest ≡ 0 → word_bytes rest ≡ []
none_inside rest e = ap (λ k. significant (take k rest)) e ∙ none

pub all_kept : (bytes rest kept : List ℕ) → word_bytes bytes ≡ kept ++ word_bytes rest → inside_len rest ≡ 0 → kept ≡ word_bytes bytes
all_kept bytes rest kept h e = sym (h ∙ ap (λ (t : List ℕ). kept ++ t) (none_inside rest e) ∙ append-nil kept)

pub all_past : (bytes rest : List ℕ) → drop (inside_len bytes) bytes ≡ drop (inside_len rest) rest → inside_len rest ≡ 0 → rest ≡ drop (inside_len bytes) bytes
all_past bytes rest h e = sym (h ∙ ap (λ k. drop k rest) e)

-- the last byte is one more, or does not count
pub last_more : (front : List ℕ) (b : ℕ) → b ≢ 36 → significant (front ++ b ∷ []) ≡ significant front ++ upper b ∷ []
last_more front b n = significant-append front (b ∷ []) ∙ ap (λ t. significant front ++ t) (one b (ne_eqb _ _ n))

pub last_skipped : (front : List ℕ) (b : ℕ) → b ≡ 36 → significant (front ++ b ∷ []) ≡ significant front
last_skipped front b e = significant-append front (b ∷ []) ∙ ap (λ t. significant front ++ t) (dollar b (eq-eqb _ _ e)) ∙ append-nil _

digit_kept : (b : ℕ) → is_digit (upper b) ≡ is_digit b
digit_kept b = grind (arith, nat_tests)

-- a test of each byte that counts passes over the others
pub digits_are : (bytes : List ℕ) → list_all (λ b. eqb b 36 || is_digit b) bytes ≡ list_all is_digit (significant bytes)
unfolding significant
digits_are [] = refl
digits_are (b ∷ bytes) = elim (cases_Bool (eqb b 36)) [
  | inl e ↦ rw e (digits_are bytes)
  | inr e ↦ rw (e, digit_kept b) (ap (λ t. is_digit b && t) (digits_are bytes))
]
