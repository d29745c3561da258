-- What is read of `clap`'s rows at the end is what the items give.
use Rattle.std.proofs.Common.{◌≡◌, Option, List, [], ◌∷◌, ◌++◌, Bool, true, false, Some, None, refl, ap, sym, ◌∙◌, cond, ◌||◌, ◌⊎◌, inl, inr, map, fold, codes, subst}
use Rattle.std.specs.Prelude.{option_and_then, option_map, slice_get, unwrap_or}
use Rattle.std.specs.Str.{bytes_eq}
use Rattle.std.specs.List.{list_all}
use Rattle.std.proofs.lemmas.Bool.{false≢true, and_parts}
use Rattle.clap.specs.Words.{Row, Text, first_of}
use Rattle.clap.specs.Walk.{has_row, with_default, with_values}
use Rattle.clap.specs.declared.builder.value_parser.Reading.TheVariants.{AsWritten}
use Rattle.clap.specs.declared.parser.matches.ValueSource.TheVariants.{DefaultValue}
use Rattle.cmd_arguments.specs.declared.table.CommandName.{CommandName}
use Rattle.cmd_arguments.specs.declared.table.OptionName.{OptionName}
use Rattle.cmd_arguments.specs.declared.table.OptionName.TheVariants.{Top, Choice, Input, Disk, Ports, OutDisk, Tail, Steps, Plain, Zilog, Comments}
use Rattle.cmd_arguments.specs.Table.{Word, long_name, option_word, options_of, flag_words}
use Rattle.cmd_arguments.specs.Items.{Item, Setting, name, flag, parted, joined, Sorts, none, marked, more}
use Rattle.cmd_arguments.specs.Given.{Gathered, Names, Occurrence, Once, gathered, occurrence, names, names_of, texts_of}
use Rattle.cmd_arguments.specs.Read.{IsFlag, IsGivenIn, flag_read, option_found}
use Rattle.cmd_arguments.proofs.Rules.{rules, names_built, option_built, flag_built, is_flag, is_flag_name, flags_are, options_plain, same_names}
use Rattle.cmd_arguments.proofs.Rows.{row_at, values_at, others_stay, first_use, rows_more, eq_of}
use Rattle.cmd_arguments.proofs.Uses.{item_rows, items_pass, IsRead, is_read, names_read_of}
use Rattle.cmd_arguments.proofs.Repeats.{list_apart, no_texts_of_names}

-- ---- the defaults

either : {X : Type 0} (b : Bool) (x : X) → cond b x x ≡ x
either true x = refl
either false x = refl

-- the rows with the flags' defaults
abbrev pub with_flags : CommandName → List Row → List Row
with_flags c rows = fold with_default rows (map flag_built (flag_words c))

no_option_defaults : (rows : List Row) (os : List OptionName) → fold with_default rows (map option_built os) ≡ rows
no_option_defaults rows [] = refl
no_option_defaults rows (o ∷ os) = no_option_defaults (with_default rows (option_built o)) os ∙ either (has_row (long_name o) rows) rows

only_flags : (rows : List Row) (fs os : List OptionName) → fold with_default rows (map flag_built fs ++ map option_built os) ≡ fold with_default rows (map flag_built fs)
only_flags rows [] os = no_option_defaults rows os
only_flags rows (f ∷ fs) os = only_flags (with_default rows (flag_built f)) fs os

pub defaults_are : (c : CommandName) (rows : List Row) → fold with_default rows (rules c) ≡ with_flags c rows
unfolding rules
defaults_are c rows =
    only_flags (with_default rows names_built) (flag_words c) (options_of c)
    ∙ ap (with_flags c) (either (has_row (codes "names") rows) rows)

or_yes : (b : Bool) → (b || true) ≡ true
or_yes true = refl
or_yes false = refl

-- a flag's default joins the rows where the flag has none
abbrev with_flag : OptionName → Bool → List Row → List Row
with_flag f has rows = cond has rows (with_values (long_name f) AsWritten DefaultValue (codes "false" ∷ []) rows)

flag_joins : (f : OptionName) (rows : List Row) → with_default rows (flag_built f) ≡ with_flag f (has_row (long_name f) rows) rows
flag_joins f rows = refl

-- a name that is no flag's keeps its row
other_name : (f : OptionName) (id : Text) → is_flag f ≡ true → is_flag_name id ≡ false → bytes_eq (long_name f) id ≡ false
other_name f id on off = go _ refl
  where
    go : (b : Bool) → bytes_eq (long_name f) id ≡ b → b ≡ false
    go true e = absurd (false≢true (sym off ∙ ap is_flag_name (sym (eq_of (long_name f) id e)) ∙ on))
    go false e = refl

default_kept : (f : OptionName) (has : Bool) (id : Text) (rows : List Row) → bytes_eq (long_name f) id ≡ false → row_at id (with_flag f has rows) ≡ row_at id rows
default_kept f true id rows apart = refl
default_kept f false id rows apart = others_stay (long_name f) id AsWritten DefaultValue (codes "false" ∷ []) rows apart

kept_over : (fs : List OptionName) (id : Text) (rows : List Row) → list_all (λ f. is_flag f) fs ≡ true → is_flag_name id ≡ false → row_at id (fold with_default rows (map flag_built fs)) ≡ row_at id rows
kept_over [] id rows all off = refl
kept_over (f ∷ fs) id rows all off =
    let parts = and_parts (is_flag f) (list_all (λ g. is_flag g) fs) all in
    kept_over fs id (with_default rows (flag_built f)) parts.1 off
    ∙ ap (row_at id) (flag_joins f rows) ∙ default_kept f (has_row (long_name f) rows) id rows (other_name f id parts.0 off)

others_kept : (c : CommandName) (id : Text) (rows : List Row) → is_flag_name id ≡ false → row_at id (with_flags c rows) ≡ row_at id rows
others_kept c id rows off = kept_over (flag_words c) id rows (flags_are c) off

-- a flag that was given keeps its text
abbrev first_text : Option Row → Option Text
first_text o = option_and_then (λ r. slice_get r.values 0) o

given_kept : (g : OptionName) (has : Bool) (n : Text) (rows : List Row) → has_row (long_name g) rows ≡ has → has_row n rows ≡ true → (first_of n (with_flag g has rows) ≡ first_of n rows) × (has_row n (with_flag g has rows) ≡ true)
given_kept g true n rows has given = (refl, given)
given_kept g false n rows has given = go _ refl
  where
    go : (b : Bool) → bytes_eq (long_name g) n ≡ b → (first_of n (with_flag g false rows) ≡ first_of n rows) × (has_row n (with_flag g false rows) ≡ true)
    go true e = absurd (false≢true (sym has ∙ ap (λ m. has_row m rows) (eq_of (long_name g) n e) ∙ given))
    go false e = (
      ap first_text (others_stay (long_name g) n AsWritten DefaultValue (codes "false" ∷ []) rows e),
      rows_more (long_name g) n AsWritten DefaultValue (codes "false" ∷ []) rows ∙ ap (λ b. bytes_eq (long_name g) n || b) given ∙ or_yes (bytes_eq (long_name g) n),
    )

given_over : (fs : List OptionName) (n : Text) (rows : List Row) → has_row n rows ≡ true → first_of n (fold with_default rows (map flag_built fs)) ≡ first_of n rows
given_over [] n rows given = refl
given_over (g ∷ fs) n rows given =
    let kept = given_kept g (has_row (long_name g) rows) n rows refl given in
    given_over fs n (with_default rows (flag_built g)) (ap (has_row n) (flag_joins g rows) ∙ kept.1) ∙ ap (first_of n) (flag_joins g rows) ∙ kept.0

-- and of one that was not, nothing is read, or its default
abbrev IsOff : Option Text → Type 0
IsOff o = (o ≡ None) ⊎ (o ≡ Some (codes "false"))

off_kept : (g : OptionName) (has : Bool) (n : Text) (rows : List Row) → has_row (long_name g) rows ≡ has → IsOff (first_of n rows) → IsOff (first_of n (with_flag g has rows))
off_kept g true n rows has off = off
off_kept g false n rows has off = go _ refl
  where
    go : (b : Bool) → bytes_eq (long_name g) n ≡ b → IsOff (first_of n (with_flag g false rows))
    go true e = inr (ap (λ m. first_of m (with_values (long_name g) AsWritten DefaultValue (codes "false" ∷ []) rows)) (sym (eq_of (long_name g) n e)) ∙ first_use (long_name g) AsWritten DefaultValue (codes "false") rows has)
    go false e = let P : Option Text → Type 0 = IsOff in subst P (sym (ap first_text (others_stay (long_name g) n AsWritten DefaultValue (codes "false" ∷ []) rows e))) off

off_over : (fs : List OptionName) (n : Text) (rows : List Row) → IsOff (first_of n rows) → IsOff (first_of n (fold with_default rows (map flag_built fs)))
off_over [] n rows off = off
off_over (g ∷ fs) n rows off =
    let P : List Row → Type 0 = λ rs. IsOff (first_of n rs) in
    off_over fs n (with_default rows (flag_built g)) (subst P (sym (flag_joins g rows)) (off_kept g (has_row (long_name g) rows) n rows refl off))

not_set : (o : Option Text) (set : Bool) → IsOff o → IsFlag o set → set ≡ false
not_set o set (inl e) told = let P : Option Text → Type 0 = λ t. IsFlag t set in let said : IsFlag None set = subst P e told in said
not_set o set (inr e) told = let P : Option Text → Type 0 = λ t. IsFlag t set in let said : IsFlag (Some (codes "false")) set = subst P e told in said.1 refl

-- ---- the flags

-- a flag's text is empty
bare_setting : (f p : OptionName) (text : Word) (items : List Item) (ts : List Word) (t : Word) → is_flag f ≡ true → (is_flag p ≡ true → text ≡ []) → texts_of f (Setting p text ∷ items) ≡ t ∷ ts → (texts_of f items ≡ t ∷ ts → t ≡ []) → t ≡ []
bare_setting f p text items ts t on bare is rest = go _ refl is
  where
    head : Word → List Word → Word
    head d [] = d
    head d (x ∷ xs) = x

    go : (b : Bool) → bytes_eq (option_word p) (option_word f) ≡ b → texts_of f (Setting p text ∷ items) ≡ t ∷ ts → t ≡ []
    go true e is =
        let front : text ∷ texts_of f items ≡ t ∷ ts = rw e at is in
        sym (ap (head []) front) ∙ bare (ap is_flag_name (eq_of (long_name p) (long_name f) (sym (same_names p f) ∙ e)) ∙ on)
    go false e is = rest (rw e at is)

flag_bare : (f : OptionName) (c : CommandName) (ws : List Word) (items : List Item) (t : Word) (ts : List Word) → is_flag f ≡ true → Sorts c ws items → texts_of f items ≡ t ∷ ts → t ≡ []
flag_bare f c [] [] t ts on none is = absurd (list_apart _ _ is)
flag_bare f c ws items t ts on (marked {ws = others}) is = absurd (list_apart _ _ (sym (no_texts_of_names f others) ∙ is))
flag_bare f c ws items t ts on (more {rest} {items = others} (name v) s) is = flag_bare f c rest others t ts on s is
flag_bare f c ws items t ts on (more {rest} {items = others} (flag {w} {f = g} e) s) is = bare_setting f g [] others ts t on (λ b. refl) is (λ h. flag_bare f c rest others t ts on s h)
flag_bare f c ws items t ts on (more {rest} {items = others} (parted {w} {text} {o} e v) s) is = bare_setting f o text others ts t on (λ b. absurd (false≢true (sym (options_plain c w o e) ∙ b))) is (λ h. flag_bare f c rest others t ts on s h)
flag_bare f c ws items t ts on (more {rest} {items = others} (joined {text} {o} word parts e) s) is = bare_setting f o text others ts t on (λ b. absurd (false≢true (sym (options_plain c word o e) ∙ b))) is (λ h. flag_bare f c rest others t ts on s h)

flag_gathered : (f : OptionName) (c : CommandName) (ws : List Word) (items : List Item) (rows : List Row) (set : Bool) → is_flag f ≡ true → Sorts c ws items → IsRead f items rows → IsFlag (first_of (long_name f) (with_flags c rows)) set → flag_read set ≡ occurrence (texts_of f items)
flag_gathered f c ws items rows set on s (inl r) told = ap flag_read (not_set _ set (off_over (flag_words c) (long_name f) rows (inl r.1)) told) ∙ ap occurrence (sym r.0)
flag_gathered f c ws items rows set on s (inr r) told =
    let text : first_of (long_name f) (with_flags c rows) ≡ Some (codes "true") = given_over (flag_words c) (long_name f) rows r.3 ∙ r.2 ∙ ap (λ b. Some (cond b (codes "true") r.0)) on in
    let P : Option Text → Type 0 = λ t. IsFlag t set in
    let said : IsFlag (Some (codes "true")) set = subst P text told in
    ap flag_read (said.0 refl) ∙ ap Once (sym (flag_bare f c ws items r.0 [] on s r.1)) ∙ ap occurrence (sym r.1)

-- ---- the options and the names

option_gathered : (c : CommandName) (o : OptionName) (items : List Item) (rows : List Row) → is_flag o ≡ false → IsRead o items rows → option_found (first_of (long_name o) (with_flags c rows)) ≡ occurrence (texts_of o items)
option_gathered c o items rows off read =
    ap (λ r. option_found (first_text r)) (others_kept c (long_name o) rows off) ∙ go read
  where
    go : IsRead o items rows → option_found (first_of (long_name o) rows) ≡ occurrence (texts_of o items)
    go (inl r) = ap option_found r.1 ∙ ap occurrence (sym r.0)
    go (inr r) = ap option_found (r.2 ∙ ap (λ b. Some (cond b (codes "true") r.0)) off) ∙ ap occurrence (sym r.1)

abbrev pub all_fields : Names → (a1 a2 a3 a4 a5 a6 a7 a8 a9 a10 a11 : Occurrence) → Gathered
all_fields n a1 a2 a3 a4 a5 a6 a7 a8 a9 a10 a11 = record { names = n; top = a1; choice = a2; input = a3; disk = a4; ports = a5; out_disk = a6; tail = a7; steps = a8; plain = a9; zilog = a10; comments = a11 }

pub same_gathered : {n m : Names} {a1 b1 a2 b2 a3 b3 a4 b4 a5 b5 a6 b6 a7 b7 a8 b8 a9 b9 a10 b10 a11 b11 : Occurrence} → n ≡ m → a1 ≡ b1 → a2 ≡ b2 → a3 ≡ b3 → a4 ≡ b4 → a5 ≡ b5 → a6 ≡ b6 → a7 ≡ b7 → a8 ≡ b8 → a9 ≡ b9 → a10 ≡ b10 → a11 ≡ b11 → all_fields n a1 a2 a3 a4 a5 a6 a7 a8 a9 a10 a11 ≡ all_fields m b1 b2 b3 b4 b5 b6 b7 b8 b9 b10 b11
same_gathered e e1 e2 e3 e4 e5 e6 e7 e8 e9 e10 e11 = rw (e, e1, e2, e3, e4, e5, e6, e7, e8, e9, e10, e11) refl

pub rows_give : (c : CommandName) (ws : List Word) (items : List Item) (g : Gathered) → Sorts c ws items → items_pass [] items ≡ true → IsGivenIn (with_flags c (fold item_rows [] items)) g → g ≡ gathered items
rows_give c ws items g s pass given =
    let rows = fold item_rows [] items in
    let option : (o : OptionName) → is_flag o ≡ false → option_found (first_of (long_name o) (with_flags c rows)) ≡ occurrence (texts_of o items) =
    λ o off. option_gathered c o items rows off (is_read o items [] refl pass) in
    let named : names (values_at (codes "names") (with_flags c rows)) ≡ names (names_of items) =
    ap names (ap (λ o. unwrap_or (option_map (λ r. r.values) o) []) (others_kept c (codes "names") rows refl) ∙ names_read_of items [] pass) in
    given.6 ∙ same_gathered named (option Top refl) (option Choice refl) (option Input refl) (option Disk refl) (option Ports refl) (option OutDisk refl) (option Tail refl) (option Steps refl)
    (flag_gathered Plain c ws items rows given.0 refl s (is_read Plain items [] refl pass) given.3)
    (flag_gathered Zilog c ws items rows given.1 refl s (is_read Zilog items [] refl pass) given.4)
    (flag_gathered Comments c ws items rows given.2 refl s (is_read Comments items [] refl pass) given.5)
