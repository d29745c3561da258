-- `clap` reads words without fault exactly where they are items with each option once, and its rows are those of the items.
use Rattle.std.proofs.Common.{◌≡◌, ◌≢◌, ℕ, List, [], ◌∷◌, Bool, true, false, not, Option, Some, None, refl, ap, ap₂, sym, ◌∙◌, cond, ◌&&◌, ◌==◌, map, fold}
use Rattle.std.specs.Prelude.{option_map}
use Rattle.std.specs.Option.{option_or}
use Rattle.std.specs.List.{before_first, after_first}
use Rattle.std.specs.Str.{bytes_eq}
use Rattle.std.proofs.lemmas.Bool.{false≢true}
use Rattle.clap.specs.Words.{Row}
use Rattle.clap.specs.Lexer.{has_byte, name_and_value}
use Rattle.clap.specs.Walk.{Held, Waiting, idle, option, positional, used, has_row, arg_by_long}
use Rattle.clap.specs.Faults.{walk_fault}
use Rattle.cmd_arguments.specs.declared.table.CommandName.{CommandName}
use Rattle.cmd_arguments.specs.declared.table.OptionName.{OptionName}
use Rattle.cmd_arguments.specs.Table.{Word, long_name, named_among, options_of, flag_words}
use Rattle.cmd_arguments.specs.Items.{Item, Name, Setting, Sorts, none, marked, more, end_of_options}
use Rattle.cmd_arguments.specs.Asked.{has_short}
use Rattle.cmd_arguments.proofs.FirstItem.{first_item, joined_item, lone_item, is_equals}
use Rattle.cmd_arguments.proofs.Forms.{rule_of_form}
use Rattle.cmd_arguments.proofs.BehindItem.{behind_item, nothing_behind}
use Rattle.cmd_arguments.proofs.Rules.{rules, option_built, flag_built, by_long, flags_flag, no_flag_at, options_plain, is_flag}
use Rattle.cmd_arguments.proofs.Uses.{item_rows, item_passes, items_pass, names_pass}
use Rattle.cmd_arguments.proofs.Turns.{total, ending, effective, sound, before, behind, hold, waits_for, with_name, with_text, IsBetween, at_idle, at_names, IsPlainWord, mark_next, name_next, behind_next, name_sound, value_next, text_sound, waits_unsound, and_no}
use Rattle.cmd_arguments.proofs.LongTurns.{double, unknown_next, flag_text_next, joined_next, flag_next, option_next, never_next}
use Rattle.cmd_arguments.proofs.WordForms.{WordForm, plain, single, marks, doubled, form_of, short_absent, equals_in_double, before_in_double, after_in_double, whole_before}

-- the words are items, each option of which stands once where they are read without fault; or they are none, and at fault
pub data Reads (c : CommandName) (ws : List Word) (clean sound_so_far : Bool) (start end : List Row) : Type 0 where
  sorted : (items : List Item) → Sorts c ws items → clean ≡ (sound_so_far && items_pass start items) → end ≡ fold item_rows start items → Reads c ws clean sound_so_far start end
  unsorted : ((items : List Item) → Sorts c ws items → ⊥) → clean ≡ false → Reads c ws clean sound_so_far start end

and_yes : (b : Bool) → b ≡ (b && true)
and_yes true = refl
and_yes false = refl

and_shift : (s f g p : Bool) → ((s && f) && (g && p)) ≡ (s && ((f && g) && p))
and_shift true true g p = refl
and_shift true false g p = refl
and_shift false f g p = refl

-- one item more
further : (c : CommandName) (x : Word) (ws rest : List Word) (item : Item) → first_item c x ws ≡ Some (item, rest)
    → (clean after so_far sound_after first : Bool) (start begin end last : List Row)
    → clean ≡ ((so_far && first) && after) → (first && sound_after) ≡ item_passes start item → begin ≡ item_rows start item → end ≡ last
    → Reads c rest after sound_after begin last → Reads c (x ∷ ws) clean so_far start end
further c x ws rest item form clean after so_far sound_after first start begin end last is passes rows ends (sorted items s clear_after last_is) =
    sorted (item ∷ items) (more (rule_of_form c x ws rest item form) s)
    (is ∙ ap (λ b. (so_far && first) && b) clear_after ∙ and_shift so_far first sound_after (items_pass begin items) ∙ ap₂ (λ b r. so_far && (b && items_pass r items)) passes rows)
    (ends ∙ last_is ∙ ap (λ r. fold item_rows r items) rows)
further c x ws rest item form clean after so_far sound_after first start begin end last is passes rows ends (unsorted no_items bad) =
    unsorted (λ items s. let parts = behind_item s form in no_items parts.0 parts.2) (is ∙ ap (λ b. (so_far && first) && b) bad ∙ and_no (so_far && first))

-- no item begins the words
refused : (c : CommandName) (x : Word) (ws : List Word) (clean so_far : Bool) (start end : List Row) → first_item c x ws ≡ None → x ≢ end_of_options → clean ≡ false → Reads c (x ∷ ws) clean so_far start end
refused c x ws clean so_far start end form other bad = unsorted (λ items s. nothing_behind s form other) bad

abbrev ReadsAt : CommandName → List Word → Held → Waiting → Type 0
ReadsAt c ws h waiting = Reads c ws (total c (before h waiting) ws) (sound c h) (effective c h) (ending c (before h waiting) ws)

abbrev ReadsEach : CommandName → List Word → Type 0
ReadsEach c ws = (h : Held) (waiting : Waiting) → IsBetween waiting → has_short ws ≡ false → ReadsAt c ws h waiting

-- behind the mark each word is a name
all_names : (c : CommandName) (ws : List Word) (h : Held) (waiting : Waiting) → (total c (behind h waiting) ws ≡ sound c h) × (ending c (behind h waiting) ws ≡ fold item_rows (effective c h) (map Name ws))
unfolding walk_fault
all_names c [] h waiting = (refl, refl)
all_names c (x ∷ ws) h waiting =
    let turn = behind_next c h waiting x ws in
    let named = name_sound c x h in
    let rest = all_names c ws (with_name c x h) positional in
    (turn.0 ∙ ap (λ b. sound c h && b) (rest.0 ∙ named.0) ∙ sym (and_yes (sound c h)), turn.1 ∙ rest.1 ∙ ap (λ r. fold item_rows r (map Name ws)) named.1)

no_words : (c : CommandName) (h : Held) (waiting : Waiting) → ReadsAt c [] h waiting
unfolding walk_fault
no_words c h waiting = sorted [] none (and_yes (sound c h)) refl

name_first : (c : CommandName) (x : Word) (ws : List Word) (h : Held) (waiting : Waiting) → IsPlainWord x → IsBetween waiting → has_short ws ≡ false → ReadsEach c ws → ReadsAt c (x ∷ ws) h waiting
name_first c x ws h waiting is between absent rest =
    let turn = name_next c h waiting x ws is between in
    let named = name_sound c x h in
    further c x ws ws (Name x) (rw is.may_be refl) _ _ (sound c h) _ true (effective c h) _ _ _ (turn.0 ∙ ap (λ b. b && total c (before (with_name c x h) positional) ws) (and_yes (sound c h))) named.0 named.1 turn.1 (rest (with_name c x h) positional at_names absent)

mark_first : (c : CommandName) (ws : List Word) (h : Held) (waiting : Waiting) → ReadsAt c (end_of_options ∷ ws) h waiting
mark_first c ws h waiting =
    let turn = mark_next c h waiting ws in
    let names = all_names c ws h waiting in
    sorted (map Name ws) marked (turn.0 ∙ names.0 ∙ and_yes (sound c h) ∙ ap (λ b. sound c h && b) (sym (names_pass (effective c h) ws))) (turn.1 ∙ names.1)

-- ---- a word of two hyphens and more

no_mark : (z : ℕ) (zs : List ℕ) → double z zs ≢ end_of_options
no_mark z zs e = false≢true (ap (λ w. bytes_eq w end_of_options) e)

option_uses : (o : OptionName) (text : Word) (rows : List Row) → is_flag o ≡ false → used (option_built o) (text ∷ []) rows ≡ item_rows rows (Setting o text)
option_uses o text rows off = rw off refl

flag_uses : (o : OptionName) (rows : List Row) → is_flag o ≡ true → used (flag_built o) [] rows ≡ item_rows rows (Setting o [])
flag_uses o rows is = rw is refl

-- what a double word's form says
joined_form : (c : CommandName) (z : ℕ) (zs : List ℕ) (ws : List Word) → has_byte 0x3D (z ∷ zs) ≡ true
    → first_item c (double z zs) ws ≡ joined_item (named_among (options_of c) (0x2D ∷ (0x2D ∷ (name_and_value (z ∷ zs)).0))) (after_first (λ x. x == 0x3D) (z ∷ zs)) ws
joined_form c z zs ws has =
    ap (λ b. cond b (joined_item (named_among (options_of c) (before_first is_equals (double z zs))) (after_first is_equals (double z zs)) ws) (lone_item (named_among (flag_words c) (double z zs)) (named_among (options_of c) (double z zs)) ws)) (equals_in_double z zs ∙ has)
    ∙ ap₂ (λ w t. joined_item (named_among (options_of c) w) t ws) (before_in_double z zs) (after_in_double z zs)

lone_form : (c : CommandName) (z : ℕ) (zs : List ℕ) (ws : List Word) → has_byte 0x3D (z ∷ zs) ≡ false
    → first_item c (double z zs) ws ≡ lone_item (named_among (flag_words c) (double z zs)) (named_among (options_of c) (double z zs)) ws
lone_form c z zs ws has =
    ap (λ b. cond b (joined_item (named_among (options_of c) (before_first is_equals (double z zs))) (after_first is_equals (double z zs)) ws) (lone_item (named_among (flag_words c) (double z zs)) (named_among (options_of c) (double z zs)) ws)) (equals_in_double z zs ∙ has)

-- the rule that the word's name finds
found_rule : (c : CommandName) (z : ℕ) (zs : List ℕ) (f o : Option OptionName) → named_among (flag_words c) (0x2D ∷ (0x2D ∷ (name_and_value (z ∷ zs)).0)) ≡ f → named_among (options_of c) (0x2D ∷ (0x2D ∷ (name_and_value (z ∷ zs)).0)) ≡ o
    → arg_by_long (rules c) (name_and_value (z ∷ zs)).0 ≡ option_or (option_map flag_built f) (option_map option_built o)
found_rule c z zs f o flag opt = by_long c (name_and_value (z ∷ zs)).0 ∙ ap₂ (λ a b. option_or (option_map flag_built a) (option_map option_built b)) flag opt

text_of : (z : ℕ) (zs : List ℕ) → has_byte 0x3D (z ∷ zs) ≡ true → (name_and_value (z ∷ zs)).1 ≡ Some (after_first (λ x. x == 0x3D) (z ∷ zs))
text_of z zs has = ap (λ b. cond b (Some (after_first (λ x. x == 0x3D) (z ∷ zs))) None) has

no_text : (z : ℕ) (zs : List ℕ) → has_byte 0x3D (z ∷ zs) ≡ false → (name_and_value (z ∷ zs)).1 ≡ None
no_text z zs has = ap (λ b. cond b (Some (after_first (λ x. x == 0x3D) (z ∷ zs))) None) has

-- a word with its text behind `=`
joined_first : (c : CommandName) (z : ℕ) (zs : List ℕ) (ws : List Word) (h : Held) (waiting : Waiting) → has_byte 0x3D (z ∷ zs) ≡ true → has_short ws ≡ false → ReadsEach c ws
    → (f o : Option OptionName) → named_among (flag_words c) (0x2D ∷ (0x2D ∷ (name_and_value (z ∷ zs)).0)) ≡ f → named_among (options_of c) (0x2D ∷ (0x2D ∷ (name_and_value (z ∷ zs)).0)) ≡ o
    → ReadsAt c (double z zs ∷ ws) h waiting
joined_first c z zs ws h waiting has absent rest f (Some o) flag opt =
    let text = after_first (λ x. x == 0x3D) (z ∷ zs) in
    let no = no_flag_at c _ o opt in
    let turn = joined_next c h waiting z zs ws o text (found_rule c z zs None (Some o) no opt) (text_of z zs has) in
    let form : first_item c (double z zs) ws ≡ Some (Setting o text, ws) = joined_form c z zs ws has ∙ ap (λ p. joined_item p text ws) opt in
    further c (double z zs) ws ws (Setting o text) form _ _ (sound c h) true (not (has_row (long_name o) (effective c h))) (effective c h) _ _ _ turn.0 (sym (and_yes _)) (option_uses o text (effective c h) (options_plain c _ o opt)) turn.1
    (rest (hold (used (option_built o) (text ∷ []) (effective c h)) None h.skip) idle at_idle absent)
joined_first c z zs ws h waiting has absent rest (Some f) None flag opt =
    refused c (double z zs) ws _ _ _ _ (joined_form c z zs ws has ∙ ap (λ p. joined_item p (after_first (λ x. x == 0x3D) (z ∷ zs)) ws) opt) (no_mark z zs)
    (flag_text_next c h waiting z zs ws f _ (found_rule c z zs (Some f) None flag opt) (text_of z zs has))
joined_first c z zs ws h waiting has absent rest None None flag opt =
    refused c (double z zs) ws _ _ _ _ (joined_form c z zs ws has ∙ ap (λ p. joined_item p (after_first (λ x. x == 0x3D) (z ∷ zs)) ws) opt) (no_mark z zs)
    (unknown_next c h waiting z zs ws (found_rule c z zs None None flag opt))

-- an option, and the word behind it
value_first : (c : CommandName) (z : ℕ) (zs : List ℕ) (x : Word) (ws : List Word) (h : Held) (waiting : Waiting) (o : OptionName)
    → named_among (options_of c) (double z zs) ≡ Some o → named_among (flag_words c) (double z zs) ≡ None → has_byte 0x3D (z ∷ zs) ≡ false
    → (total c (before h waiting) (double z zs ∷ (x ∷ ws)) ≡ (sound c h && total c (before (waits_for o (effective c h) h.skip) (option (long_name o))) (x ∷ ws))) × (ending c (before h waiting) (double z zs ∷ (x ∷ ws)) ≡ ending c (before (waits_for o (effective c h) h.skip) (option (long_name o))) (x ∷ ws))
    → has_short (x ∷ ws) ≡ false → WordForm x → ReadsEach c ws
    → ReadsAt c (double z zs ∷ (x ∷ ws)) h waiting
value_first c z zs x ws h waiting o opt flag has turn absent (plain is) rest =
    let value = value_next c (double z zs) o (effective c h) h.skip x ws opt is in
    let used_next = text_sound c (double z zs) o x (effective c h) h.skip opt in
    let form : first_item c (double z zs) (x ∷ ws) ≡ Some (Setting o x, ws) = lone_form c z zs (x ∷ ws) has ∙ ap₂ (λ f p. lone_item f p (x ∷ ws)) flag opt ∙ ap (λ b. cond b (Some (Setting o x, ws)) None) is.may_be in
    let behind_short = short_absent x ws is.no_mark absent in
    further c (double z zs) (x ∷ ws) ws (Setting o x) form _ _ (sound c h) _ true (effective c h) _ _ _
    (turn.0 ∙ ap₂ (λ a b. a && b) (and_yes (sound c h)) value.0) used_next.0 (used_next.1 ∙ option_uses o x (effective c h) (options_plain c (double z zs) o opt)) (turn.1 ∙ value.1)
    (rest (with_text o x (effective c h) h.skip) idle at_idle behind_short.1)
value_first c z zs x ws h waiting o opt flag has turn absent (single short other) rest =
    absurd (false≢true (sym (short_absent x ws other absent).0 ∙ short))
value_first c z zs x ws h waiting o opt flag has turn absent marks rest =
    let names = all_names c ws (waits_for o (effective c h) h.skip) (option (long_name o)) in
    let next = mark_next c (waits_for o (effective c h) h.skip) (option (long_name o)) ws in
    refused c (double z zs) (end_of_options ∷ ws) _ _ _ _ (lone_form c z zs (end_of_options ∷ ws) has ∙ ap₂ (λ f p. lone_item f p (end_of_options ∷ ws)) flag opt) (no_mark z zs)
    (turn.0 ∙ ap (λ b. sound c h && b) (next.0 ∙ names.0 ∙ waits_unsound c (double z zs) o (effective c h) h.skip opt) ∙ and_no (sound c h))
value_first c z zs x ws h waiting o opt flag has turn absent (doubled y ys) rest =
    refused c (double z zs) (double y ys ∷ ws) _ _ _ _ (lone_form c z zs (double y ys ∷ ws) has ∙ ap₂ (λ f p. lone_item f p (double y ys ∷ ws)) flag opt) (no_mark z zs)
    (turn.0 ∙ ap (λ b. sound c h && b) (never_next c (waits_for o (effective c h) h.skip) (option (long_name o)) y ys ws _ _ (by_long c (name_and_value (y ∷ ys)).0) (waits_unsound c (double z zs) o (effective c h) h.skip opt)) ∙ and_no (sound c h))

-- what is read of the words behind the next one, if there is a next one
abbrev ReadsRest : CommandName → List Word → Type 0
ReadsRest c [] = Unit {0}
ReadsRest c (x ∷ ws) = ReadsEach c ws

option_first : (c : CommandName) (z : ℕ) (zs : List ℕ) (ws : List Word) (h : Held) (waiting : Waiting) (o : OptionName)
    → named_among (options_of c) (double z zs) ≡ Some o → named_among (flag_words c) (double z zs) ≡ None → has_byte 0x3D (z ∷ zs) ≡ false
    → (total c (before h waiting) (double z zs ∷ ws) ≡ (sound c h && total c (before (waits_for o (effective c h) h.skip) (option (long_name o))) ws)) × (ending c (before h waiting) (double z zs ∷ ws) ≡ ending c (before (waits_for o (effective c h) h.skip) (option (long_name o))) ws)
    → has_short ws ≡ false → ReadsRest c ws
    → ReadsAt c (double z zs ∷ ws) h waiting
unfolding walk_fault
option_first c z zs [] h waiting o opt flag has turn absent rest =
    refused c (double z zs) [] _ _ _ _ (lone_form c z zs [] has ∙ ap₂ (λ f p. lone_item f p []) flag opt) (no_mark z zs)
    (turn.0 ∙ ap (λ b. sound c h && b) (waits_unsound c (double z zs) o (effective c h) h.skip opt) ∙ and_no (sound c h))
option_first c z zs (x ∷ ws) h waiting o opt flag has turn absent rest = value_first c z zs x ws h waiting o opt flag has turn absent (form_of x) rest

-- a word with no `=`
lone_first : (c : CommandName) (z : ℕ) (zs : List ℕ) (ws : List Word) (h : Held) (waiting : Waiting) → has_byte 0x3D (z ∷ zs) ≡ false → has_short ws ≡ false → ReadsEach c ws → ReadsRest c ws
    → (f o : Option OptionName) → named_among (flag_words c) (double z zs) ≡ f → named_among (options_of c) (double z zs) ≡ o
    → ReadsAt c (double z zs ∷ ws) h waiting
lone_first c z zs ws h waiting has absent each rest f o flag opt = go f o flag opt (found_rule c z zs f o (ap (λ n. named_among (flag_words c) (0x2D ∷ (0x2D ∷ n))) whole ∙ flag) (ap (λ n. named_among (options_of c) (0x2D ∷ (0x2D ∷ n))) whole ∙ opt))
  where
    whole : (name_and_value (z ∷ zs)).0 ≡ z ∷ zs
    whole = whole_before (z ∷ zs) has

    go : (f o : Option OptionName) → named_among (flag_words c) (double z zs) ≡ f → named_among (options_of c) (double z zs) ≡ o → arg_by_long (rules c) (name_and_value (z ∷ zs)).0 ≡ option_or (option_map flag_built f) (option_map option_built o) → ReadsAt c (double z zs ∷ ws) h waiting
    go (Some f) o flag opt found =
        let turn = flag_next c h waiting z zs ws f found (no_text z zs has) in
        let form : first_item c (double z zs) ws ≡ Some (Setting f [], ws) = lone_form c z zs ws has ∙ ap (λ p. lone_item p (named_among (options_of c) (double z zs)) ws) flag in
        further c (double z zs) ws ws (Setting f []) form _ _ (sound c h) true (not (has_row (long_name f) (effective c h))) (effective c h) _ _ _ turn.0 (sym (and_yes _)) (flag_uses f (effective c h) (flags_flag c (double z zs) f flag)) turn.1
        (each (hold (used (flag_built f) [] (effective c h)) None h.skip) idle at_idle absent)
    go None (Some o) flag opt found = option_first c z zs ws h waiting o opt flag has (option_next c h waiting z zs ws o found (no_text z zs has)) absent rest
    go None None flag opt found =
        refused c (double z zs) ws _ _ _ _ (lone_form c z zs ws has ∙ ap₂ (λ f p. lone_item f p ws) flag opt) (no_mark z zs) (unknown_next c h waiting z zs ws found)

double_first : (c : CommandName) (z : ℕ) (zs : List ℕ) (ws : List Word) (h : Held) (waiting : Waiting) → has_short ws ≡ false → ReadsEach c ws → ReadsRest c ws → (b : Bool) → has_byte 0x3D (z ∷ zs) ≡ b → ReadsAt c (double z zs ∷ ws) h waiting
double_first c z zs ws h waiting absent each rest true has = joined_first c z zs ws h waiting has absent each _ _ refl refl
double_first c z zs ws h waiting absent each rest false has = lone_first c z zs ws h waiting has absent each rest _ _ refl refl

by_form : (c : CommandName) (x : Word) (ws : List Word) (h : Held) (waiting : Waiting) → IsBetween waiting → has_short (x ∷ ws) ≡ false → WordForm x → ReadsEach c ws → ReadsRest c ws → ReadsAt c (x ∷ ws) h waiting
by_form c x ws h waiting between absent (plain is) each rest = name_first c x ws h waiting is between (short_absent x ws is.no_mark absent).1 each
by_form c x ws h waiting between absent (single short other) each rest = absurd (false≢true (sym (short_absent x ws other absent).0 ∙ short))
by_form c x ws h waiting between absent marks each rest = mark_first c ws h waiting
by_form c x ws h waiting between absent (doubled z zs) each rest = double_first c z zs ws h waiting (short_absent (double z zs) ws refl absent).1 each rest _ refl

pub reads : (c : CommandName) (ws : List Word) → ReadsEach c ws
reads c [] h waiting between absent = no_words c h waiting
reads c (x ∷ []) h waiting between absent = by_form c x [] h waiting between absent (form_of x) (λ h2 w2 b2 a2. reads c [] h2 w2 b2 a2) tt
reads c (x ∷ (y ∷ ws)) h waiting between absent = by_form c x (y ∷ ws) h waiting between absent (form_of x) (λ h2 w2 b2 a2. reads c (y ∷ ws) h2 w2 b2 a2) (λ h2 w2 b2 a2. reads c ws h2 w2 b2 a2)
