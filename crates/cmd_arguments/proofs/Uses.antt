-- The items of a command as uses of `clap`'s arguments: their rows, and whether each option stands once.
use Rattle.std.proofs.Common.{◌≡◌, List, [], ◌∷◌, ◌++◌, Bool, true, false, not, Option, Some, None, refl, ap, ap₂, sym, ◌∙◌, cond, ◌&&◌, ◌||◌, ◌⊎◌, inl, inr, codes, fold, map, append_assoc}
use Rattle.std.proofs.lemmas.Bool.{and_parts, false≢true, not-true}
use Rattle.std.proofs.lemmas.List.{append-nil}
use Rattle.std.specs.Prelude.{option_and_then, option_map, slice_get, unwrap_or}
use Rattle.std.specs.Str.{bytes_eq}
use Rattle.clap.specs.Words.{Row, Text, first_of}
use Rattle.clap.specs.Walk.{used, has_row, with_values, without}
use Rattle.clap.specs.declared.builder.value_parser.Reading.TheVariants.{AsWritten}
use Rattle.clap.specs.declared.parser.matches.ValueSource.TheVariants.{CommandLine}
use Rattle.cmd_arguments.specs.declared.table.OptionName.{OptionName}
use Rattle.cmd_arguments.specs.Table.{Word, long_name}
use Rattle.cmd_arguments.specs.Items.{Item, Name, Setting}
use Rattle.cmd_arguments.specs.Given.{names_of, texts_of}
use Rattle.cmd_arguments.proofs.Rules.{names_built, option_built, flag_built, is_flag, is_flag_name, apart_names, names_apart, same_names}
use Rattle.cmd_arguments.proofs.Rows.{row_at, values_at, others_stay, values_join, rows_more, none_without, none_first, first_use, eq_of}

-- the rows with one item more
abbrev pub item_rows : List Row → Item → List Row
item_rows rows (Name w) = used names_built (w ∷ []) rows
item_rows rows (Setting o text) = cond (is_flag o) (used (flag_built o) [] rows) (used (option_built o) (text ∷ []) rows)

-- the option stands for the first time
abbrev pub item_passes : List Row → Item → Bool
item_passes rows (Name w) = true
item_passes rows (Setting o text) = not (has_row (long_name o) rows)

abbrev pub items_pass : List Row → List Item → Bool
items_pass rows [] = true
items_pass rows (item ∷ items) = item_passes rows item && items_pass (item_rows rows item) items

pub names_pass : (rows : List Row) (ws : List Word) → items_pass rows (map Name ws) ≡ true
names_pass rows [] = refl
names_pass rows (w ∷ ws) = names_pass (item_rows rows (Name w)) ws

-- what `clap` keeps of an option's text
abbrev pub kept_text : OptionName → Word → Word
kept_text o text = cond (is_flag o) (codes "true") text

-- the first use of an option
first_setting : (o : OptionName) (text : Word) (rows : List Row) → has_row (long_name o) rows ≡ false → item_rows rows (Setting o text) ≡ with_values (long_name o) AsWritten CommandLine (kept_text o text ∷ []) rows
first_setting o text rows fresh = go (is_flag o)
  where
    bare : without (long_name o) rows ≡ rows
    bare = none_without (long_name o) rows fresh

    go : (b : Bool) → cond b (used (flag_built o) [] rows) (used (option_built o) (text ∷ []) rows) ≡ with_values (long_name o) AsWritten CommandLine (cond b (codes "true") text ∷ []) rows
    go true = ap (with_values (long_name o) AsWritten CommandLine (codes "true" ∷ [])) bare
    go false = ap (with_values (long_name o) AsWritten CommandLine (text ∷ [])) bare

pub name_row : (o : OptionName) (w : Word) (rows : List Row) → has_row (long_name o) (item_rows rows (Name w)) ≡ has_row (long_name o) rows
name_row o w rows = rows_more (codes "names") (long_name o) AsWritten CommandLine (w ∷ []) rows ∙ ap (λ b. b || has_row (long_name o) rows) (names_apart o)

name_first : (o : OptionName) (w : Word) (rows : List Row) → row_at (long_name o) (item_rows rows (Name w)) ≡ row_at (long_name o) rows
name_first o w rows = others_stay (codes "names") (long_name o) AsWritten CommandLine (w ∷ []) rows (names_apart o)

abbrev of_row : Option Row → Option Text
of_row o = option_and_then (λ r. slice_get r.values 0) o

pub setting_row : (p o : OptionName) (text : Word) (rows : List Row) → has_row (long_name p) rows ≡ false → has_row (long_name o) (item_rows rows (Setting p text)) ≡ (bytes_eq (long_name p) (long_name o) || has_row (long_name o) rows)
setting_row p o text rows fresh = ap (has_row (long_name o)) (first_setting p text rows fresh) ∙ rows_more (long_name p) (long_name o) AsWritten CommandLine (kept_text p text ∷ []) rows

setting_first : (p o : OptionName) (text : Word) (rows : List Row) → has_row (long_name p) rows ≡ false → bytes_eq (long_name p) (long_name o) ≡ false → first_of (long_name o) (item_rows rows (Setting p text)) ≡ first_of (long_name o) rows
setting_first p o text rows fresh apart =
    ap (first_of (long_name o)) (first_setting p text rows fresh)
    ∙ ap of_row (others_stay (long_name p) (long_name o) AsWritten CommandLine (kept_text p text ∷ []) rows apart)

-- an option that has stood does not stand again
pub stays : (o : OptionName) (items : List Item) (rows : List Row) → has_row (long_name o) rows ≡ true → items_pass rows items ≡ true → (first_of (long_name o) (fold item_rows rows items) ≡ first_of (long_name o) rows) × (texts_of o items ≡ []) × (has_row (long_name o) (fold item_rows rows items) ≡ true)
stays o [] rows has pass = (refl, refl, has)
stays o (Name w ∷ items) rows has pass =
    let rest = stays o items (item_rows rows (Name w)) (name_row o w rows ∙ has) pass in
    (rest.0 ∙ ap of_row (name_first o w rows), rest.1, rest.2)
stays o (Setting p text ∷ items) rows has pass =
    let parts = and_parts _ _ pass in
    let fresh = not-true _ parts.0 in
    go _ refl fresh (λ r. stays o items (item_rows rows (Setting p text)) r parts.1)
  where
    go : (b : Bool) → bytes_eq (long_name p) (long_name o) ≡ b → has_row (long_name p) rows ≡ false
        → (has_row (long_name o) (item_rows rows (Setting p text)) ≡ true → (first_of (long_name o) (fold item_rows (item_rows rows (Setting p text)) items) ≡ first_of (long_name o) (item_rows rows (Setting p text))) × (texts_of o items ≡ []) × (has_row (long_name o) (fold item_rows (item_rows rows (Setting p text)) items) ≡ true))
        → (first_of (long_name o) (fold item_rows rows (Setting p text ∷ items)) ≡ first_of (long_name o) rows) × (texts_of o (Setting p text ∷ items) ≡ []) × (has_row (long_name o) (fold item_rows rows (Setting p text ∷ items)) ≡ true)
    go true e fresh rec =
        let both : has_row (long_name p) rows ≡ true = ap (λ n. has_row n rows) (eq_of (long_name p) (long_name o) e) ∙ has in
        absurd (false≢true (sym fresh ∙ both))
    go false e fresh rec =
        let rest = rec (setting_row p o text rows fresh ∙ ap₂ (λ a b. a || b) e has) in
        (rest.0 ∙ setting_first p o text rows fresh e, rw (same_names p o ∙ e) rest.1, rest.2)

-- what is read of an option: nothing where it stands nowhere, and else its one text
abbrev pub IsRead : OptionName → List Item → List Row → Type 0
IsRead o items end = ((texts_of o items ≡ []) × (first_of (long_name o) end ≡ None) × (has_row (long_name o) end ≡ false)) ⊎ ((text : Word) × (texts_of o items ≡ text ∷ []) × (first_of (long_name o) end ≡ Some (kept_text o text)) × (has_row (long_name o) end ≡ true))

pub is_read : (o : OptionName) (items : List Item) (rows : List Row) → has_row (long_name o) rows ≡ false → items_pass rows items ≡ true → IsRead o items (fold item_rows rows items)
is_read o [] rows fresh pass = inl (refl, none_first (long_name o) rows fresh, fresh)
is_read o (Name w ∷ items) rows fresh pass = is_read o items (item_rows rows (Name w)) (name_row o w rows ∙ fresh) pass
is_read o (Setting p text ∷ items) rows fresh pass =
    let parts = and_parts _ _ pass in
    let new = not-true _ parts.0 in
    go _ refl new parts.1 (λ r. is_read o items (item_rows rows (Setting p text)) r parts.1)
  where
    go : (b : Bool) → bytes_eq (long_name p) (long_name o) ≡ b → has_row (long_name p) rows ≡ false → items_pass (item_rows rows (Setting p text)) items ≡ true
        → (has_row (long_name o) (item_rows rows (Setting p text)) ≡ false → IsRead o items (fold item_rows (item_rows rows (Setting p text)) items))
        → IsRead o (Setting p text ∷ items) (fold item_rows rows (Setting p text ∷ items))
    go true e new pass rec =
        let same : long_name p ≡ long_name o = eq_of (long_name p) (long_name o) e in
        let rest = stays o items (item_rows rows (Setting p text)) (setting_row p o text rows new ∙ ap (λ b. b || has_row (long_name o) rows) e) pass in
        let first : first_of (long_name p) (item_rows rows (Setting p text)) ≡ Some (kept_text p text) = ap (first_of (long_name p)) (first_setting p text rows new) ∙ first_use (long_name p) AsWritten CommandLine (kept_text p text) rows new in
        let kept : kept_text p text ≡ kept_text o text = ap (λ n. cond (is_flag_name n) (codes "true") text) same in
        inr (text, rw (same_names p o ∙ e) (ap (λ ts. text ∷ ts) rest.1), rest.0 ∙ ap (λ n. first_of n (item_rows rows (Setting p text))) (sym same) ∙ first ∙ ap Some kept, rest.2)
    go false e new pass rec =
        elim (rec (setting_row p o text rows new ∙ ap₂ (λ a b. a || b) e fresh)) [
          | inl r ↦ inl (rw (same_names p o ∙ e) r.0, r.1, r.2)
          | inr r ↦ inr (r.0, rw (same_names p o ∙ e) r.1, r.2, r.3)
        ]

-- what is read of the names
pub names_read_of : (items : List Item) (rows : List Row) → items_pass rows items ≡ true → values_at (codes "names") (fold item_rows rows items) ≡ values_at (codes "names") rows ++ names_of items
names_read_of [] rows pass = sym (append-nil _)
names_read_of (Name w ∷ items) rows pass =
    names_read_of items (item_rows rows (Name w)) pass
    ∙ ap (λ vs. vs ++ names_of items) (values_join (codes "names") AsWritten CommandLine (w ∷ []) rows)
    ∙ append_assoc (values_at (codes "names") rows) (w ∷ []) (names_of items)
names_read_of (Setting p text ∷ items) rows pass =
    let parts = and_parts _ _ pass in
    let new = not-true _ parts.0 in
    names_read_of items (item_rows rows (Setting p text)) parts.1
    ∙ ap (λ vs. vs ++ names_of items) (ap (values_at (codes "names")) (first_setting p text rows new) ∙ ap (λ o. unwrap_or (option_map (λ r. r.values) o) []) (others_stay (long_name p) (codes "names") AsWritten CommandLine (kept_text p text ∷ []) rows (apart_names p)))
