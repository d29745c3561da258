-- Words that are listed by their first letters are those of the whole table.
use Rattle.std.proofs.Common.{◌≡◌, ℕ, zero, suc, ◌+◌, ◌-◌, ◌<◌, ◌≤◌, List, [], ◌∷◌, ◌++◌, Bool, true, false, ◌==◌, Option, Some, None, Bor, length, get_or, map, option_map, cond, refl, sym, ap, ◌∙◌, inl, inr, arith, ltb}
use Rattle.std.specs.List.{filter, slice_get}
use Rattle.std.specs.Map.{lookup}
use Rattle.std.specs.Prelude.{option_and_then}
use Rattle.std.specs.Str.{bytes_eq}
use Rattle.std.proofs.lemmas.Map.Entries.{lookup-filter-keys}
use Rattle.std.proofs.lemmas.Option.{same_Some, slice_get-map, slice_get_past, slice_get-get_or}
use Rattle.std.proofs.lemmas.Slice.Eq.{bytes_eq-Decides}
use Rattle.std.proofs.lemmas.Bool.{cases_Bool, cases_lt, lt-ltb, le-ltb, eq-eqb}
use Rattle.asm86_line_reader.specs.declared.token.Token.{Token}
use Rattle.asm86_line_reader.specs.Words.{word_in_table, value_or, instruction_words, others, numbered_label, label_or_unknown, name_token}
use Rattle.asm86_line_reader.specs.Listed.{listed_token}

abbrev pub Table : Type 0
Table = List (List ℕ × Token)

abbrev pub begins : ℕ → List ℕ → Bool
begins letter [] = false
begins letter (c ∷ rest) = c == letter

-- the lists of some letters, from one on
abbrev pub columns : ℕ → ℕ → Table → List Table
columns zero letter table = []
columns (suc n) letter table = filter (λ e. begins letter e.0) table ∷ columns n (suc letter) table

column : (n letter i : ℕ) (table : Table) → i < n → slice_get (columns n letter table) i ≡ Some (filter (λ e. begins (letter + i) e.0) table)
column zero letter i table lt = absurd (omega arith)
column (suc n) letter zero table lt = ap (λ k. Some (filter (λ (e : List ℕ × Token). begins k e.0) table)) (omega arith)
column (suc n) letter (suc i) table lt = column n (suc letter) i table (omega arith) ∙ ap (λ k. Some (filter (λ (e : List ℕ × Token). begins k e.0) table)) (omega arith)

past : (n letter i : ℕ) (table : Table) → n ≤ i → slice_get (columns n letter table) i ≡ None
past zero letter i table le = refl
past (suc n) letter zero table le = absurd (omega arith)
past (suc n) letter (suc i) table le = past n (suc letter) i table (omega arith)

as_lookup : (table : Table) (w : List ℕ) → word_in_table table w ≡ lookup (λ k. bytes_eq k w) table
as_lookup [] w = refl
as_lookup (x ∷ xs) w = elim (cases_Bool (bytes_eq x.0 w)) [ inl e ↦ rw e refl | inr e ↦ rw e (as_lookup xs w) ]

-- a filter by what the word passes, or fails
kept : (p : List ℕ → Bool) (b : Bool) (table : Table) (w : List ℕ) → p w ≡ b → word_in_table (filter (λ e. p e.0) table) w ≡ cond b (word_in_table table w) None
kept p b table w is = as_lookup (filter (λ e. p e.0) table) w ∙ lookup-filter-keys (λ k. bytes_eq k w) p b (λ k e. ap p ((bytes_eq-Decides k w).0 e) ∙ is) table ∙ ap (λ r. cond b r None) (sym (as_lookup table w))

in_column : (letter : ℕ) (rest : List ℕ) (table : Table) → word_in_table (filter (λ e. begins letter e.0) table) (letter ∷ rest) ≡ word_in_table table (letter ∷ rest)
in_column letter rest table = kept (begins letter) true table (letter ∷ rest) (eq-eqb letter letter refl)

abbrev pub has_letter : List ℕ → Bool
has_letter [] = false
has_letter (c ∷ rest) = cond (ltb c 0x41) false (ltb (c - 0x41) 26)

missing : (table : Table) (w : List ℕ) → filter (λ e. has_letter e.0) table ≡ table → has_letter w ≡ false → None ≡ word_in_table table w
missing table w all out = sym (kept has_letter false table w out) ∙ ap (λ t. word_in_table t w) all

by_letter : (table : Table) (w : List ℕ) → filter (λ e. has_letter e.0) table ≡ table → listed_token (columns 26 0x41 table) w ≡ word_in_table table w
unfolding listed_token
by_letter table [] all = missing table [] all refl
by_letter table (letter ∷ rest) all = elim (cases_lt letter 0x41) [
  | inl lt ↦ rw (lt-ltb letter 0x41 lt) (missing table (letter ∷ rest) all (rw (lt-ltb letter 0x41 lt) refl))
  | inr ge ↦ elim (cases_lt (letter - 0x41) 26) [
    | inl within ↦ rw (le-ltb letter 0x41 ge, column 26 0x41 (letter - 0x41) table within) (ap (λ k. word_in_table (filter (λ (e : List ℕ × Token). begins k e.0) table) (letter ∷ rest)) (omega arith) ∙ in_column letter rest table)
    | inr beyond ↦ rw (le-ltb letter 0x41 ge, past 26 0x41 (letter - 0x41) table beyond) (missing table (letter ∷ rest) all (rw (le-ltb letter 0x41 ge, le-ltb (letter - 0x41) 26 beyond) refl))
  ]
]

-- what is found in the lists of the letters is what is found in the two tables
pub listed : (lists : List Table) (w : List ℕ) (found : Option Token) → found ≡ listed_token lists w → lists ≡ columns 26 0x41 (instruction_words ++ others) → filter (λ e. has_letter e.0) (instruction_words ++ others) ≡ instruction_words ++ others → found ≡ word_in_table (instruction_words ++ others) w
listed lists w found is by all = is ∙ ap (λ l. listed_token l w) by ∙ by_letter (instruction_words ++ others) w all

-- what is found in one table after another is what is found in both
joined : (a b : Table) (w : List ℕ) (other : Token) → value_or (word_in_table (a ++ b) w) other ≡ value_or (word_in_table a w) (value_or (word_in_table b w) other)
joined [] b w other = refl
joined (x ∷ a) b w other = elim (cases_Bool (bytes_eq x.0 w)) [ inl e ↦ rw e refl | inr e ↦ rw e (joined a b w other) ]

pub named : (w : List ℕ) (found : Option Token) → found ≡ word_in_table (instruction_words ++ others) w → value_or found (label_or_unknown (numbered_label w)) ≡ name_token w
unfolding name_token
named w found is = ap (λ r. value_or r (label_or_unknown (numbered_label w))) is ∙ joined instruction_words others w (label_or_unknown (numbered_label w))

-- ---- one word

at : (lists : List Table) (w : List ℕ) (letter : ℕ) → slice_get w 0 ≡ Some letter → listed_token lists w ≡ cond (ltb letter 0x41) None (option_and_then (λ list. word_in_table list w) (slice_get lists (letter - 0x41)))
unfolding listed_token
at lists [] letter e = absurd cc
at lists (x ∷ rest) letter e = rw (same_Some x letter e) refl

pub no_letter : (lists : List Table) (w : List ℕ) → slice_get w 0 ≡ None → None ≡ listed_token lists w
unfolding listed_token
no_letter lists [] e = refl
no_letter lists (x ∷ rest) e = absurd cc

pub below : (lists : List Table) (w : List ℕ) (letter : ℕ) → slice_get w 0 ≡ Some letter → letter < 0x41 → None ≡ listed_token lists w
below lists w letter e lt = sym (at lists w letter e ∙ ap (λ b. cond b None (option_and_then (λ list. word_in_table list w) (slice_get lists (letter - 0x41)))) (lt-ltb letter 0x41 lt))

under : (lists : List Table) (w : List ℕ) (letter : ℕ) → slice_get w 0 ≡ Some letter → 0x41 ≤ letter → listed_token lists w ≡ option_and_then (λ list. word_in_table list w) (slice_get lists (letter - 0x41))
under lists w letter e ge = at lists w letter e ∙ ap (λ b. cond b None (option_and_then (λ list. word_in_table list w) (slice_get lists (letter - 0x41)))) (le-ltb letter 0x41 ge)

-- lists as they lie in the code
abbrev pub Lists : Type 0
Lists = List (Bor (List (Bor (List ℕ) × Token)))

abbrev pub shown : Bor (List (Bor (List ℕ) × Token)) → Table
shown l = map (λ e. (e.0.now, e.1)) l.now

of_list : (lists : Lists) (w : List ℕ) (letter : ℕ) → slice_get w 0 ≡ Some letter → 0x41 ≤ letter → (found : Option (Bor (List (Bor (List ℕ) × Token)))) → slice_get lists (letter - 0x41) ≡ found → option_and_then (λ list. word_in_table list w) (option_map shown found) ≡ listed_token (map shown lists) w
of_list lists w letter e ge found is = sym (under (map shown lists) w letter e ge ∙ ap (option_and_then (λ list. word_in_table list w)) (slice_get-map shown lists (letter - 0x41) ∙ ap (option_map shown) is))

pub no_list : (lists : Lists) (w : List ℕ) (letter i : ℕ) → slice_get w 0 ≡ Some letter → 0x41 ≤ letter → i ≡ letter - 0x41 → length lists ≤ i → None ≡ listed_token (map shown lists) w
no_list lists w letter i e ge is past = of_list lists w letter e ge None (slice_get_past lists (letter - 0x41) (omega arith))

pub in_list : (lists : Lists) (w : List ℕ) (letter i : ℕ) (list : Bor (List (Bor (List ℕ) × Token))) → slice_get w 0 ≡ Some letter → 0x41 ≤ letter → i ≡ letter - 0x41 → i < length lists → list ≡ get_or lists i list → word_in_table (shown list) w ≡ listed_token (map shown lists) w
in_list lists w letter i list e ge is within stands = of_list lists w letter e ge (Some list) (ap (slice_get lists) (sym is) ∙ slice_get-get_or lists i list within ∙ ap Some (sym stands))
