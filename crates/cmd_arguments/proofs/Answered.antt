-- What `clap`'s answer to what it is asked says of a command's words.
use Rattle.std.proofs.Common.{◌≡◌, ℕ, List, [], ◌∷◌, ◌++◌, Bool, true, false, refl, ap, ap₂, sym, ◌∙◌, cond, ◌||◌, ◌==◌, length, arith, map, fold, codes, subst}
use Rattle.std.proofs.lemmas.Bool.{false≢true, lt-ltb}
use Rattle.std.proofs.lemmas.List.{append-nil}
use Rattle.clap.specs.Words.{App, Row, Text, matches_of}
use Rattle.clap.specs.Simple.{argument_words, names_of as app_names}
use Rattle.clap.specs.Walk.{Held, finished, idle, has_row, nothing_held, rows_after, settled, walked, with_default}
use Rattle.clap.specs.Faults.{fault_of, built_fault, walk_fault, settle_fault, defaults_fault, check_fault}
use Rattle.clap.specs.Kinds.{Kinds, IsAmong, or_else}
use Rattle.clap.specs.declared.error.kind.ErrorKind.{ErrorKind}
use Rattle.clap.proofs.FaultLemmas.{leaf_fault}
use Rattle.cmd_arguments.specs.declared.table.CommandName.{CommandName}
use Rattle.cmd_arguments.specs.declared.table.CommandName.TheVariants.{Translate, Check, Flags, Run80, Run86, Both, Sample, Cmd, CmdShow, Hex80, RunHex, Shrink, Leaves, Explain}
use Rattle.cmd_arguments.specs.declared.table.OptionName.{OptionName}
use Rattle.cmd_arguments.specs.Table.{Word, options_of, flag_words, long_name, option_word}
use Rattle.cmd_arguments.specs.Items.{Item, is_value, name, flag, parted, joined, Sorts, none, marked, more}
use Rattle.cmd_arguments.specs.Given.{Gathered, gathered, AreSorted}
use Rattle.cmd_arguments.specs.Read.{IsGivenIn}
use Rattle.cmd_arguments.specs.Words.{command_of}
use Rattle.cmd_arguments.specs.Asked.{clap_command, has_short, is_short, GiveNoCommand}
use Rattle.cmd_arguments.proofs.Commands.{one_sorting}
use Rattle.cmd_arguments.proofs.Forms.{named_word}
use Rattle.cmd_arguments.proofs.Rules.{app, word_is, built_is, rules, shape, names_built, option_built, flag_built}
use Rattle.cmd_arguments.proofs.Turns.{and_no, at_idle, clear, clear_or, total, ending, before}
use Rattle.cmd_arguments.proofs.Uses.{item_rows}
use Rattle.cmd_arguments.proofs.Readings.{Reads, sorted, unsorted, reads}
use Rattle.cmd_arguments.proofs.Repeats.{twice_no_command}
use Rattle.cmd_arguments.proofs.Gathering.{defaults_are, rows_give, with_flags}

words_asked : (c : CommandName) (ws : List Text) → argument_words (clap_command c) ws ≡ ws
words_asked Translate ws = refl
words_asked Check ws = refl
words_asked Flags ws = refl
words_asked Run80 ws = refl
words_asked Run86 ws = refl
words_asked Both ws = refl
words_asked Sample ws = refl
words_asked Cmd ws = refl
words_asked CmdShow ws = refl
words_asked Hex80 ws = refl
words_asked RunHex ws = refl
words_asked Shrink ws = refl
words_asked Leaves ws = refl
words_asked Explain ws = refl

-- ---- the defaults are without fault

quiet : {X : Type 0} (b : Bool) (x : List X) → cond (b || true) [] x ≡ []
quiet true x = refl
quiet false x = refl

abbrev no_kinds : Kinds
no_kinds = []

both_none : (b : Bool) → cond b [] [] ≡ no_kinds
both_none true = refl
both_none false = refl

options_quiet : (rows : List Row) (os : List OptionName) → defaults_fault rows (map option_built os) ≡ []
unfolding defaults_fault
options_quiet rows [] = refl
options_quiet rows (o ∷ os) = ap₂ or_else (quiet (has_row (long_name o) rows) _) (options_quiet (with_default rows (option_built o)) os)

flags_quiet : (rows : List Row) (fs os : List OptionName) → defaults_fault rows (map flag_built fs ++ map option_built os) ≡ []
unfolding defaults_fault
flags_quiet rows [] os = options_quiet rows os
flags_quiet rows (f ∷ fs) os = ap₂ or_else (both_none (has_row (long_name f) rows || false)) (flags_quiet (with_default rows (flag_built f)) fs os)

all_quiet : (c : CommandName) (rows : List Row) → defaults_fault rows (rules c) ≡ []
unfolding defaults_fault rules
all_quiet c rows = ap₂ or_else (quiet (has_row (codes "names") rows) _) (flags_quiet (with_default rows names_built) (flag_words c) (options_of c))

nothing_wanted : (c : CommandName) (rows : List Row) → check_fault (shape c) rows false ≡ []
unfolding rules
nothing_wanted Translate rows = refl
nothing_wanted Check rows = refl
nothing_wanted Flags rows = refl
nothing_wanted Run80 rows = refl
nothing_wanted Run86 rows = refl
nothing_wanted Both rows = refl
nothing_wanted Sample rows = refl
nothing_wanted Cmd rows = refl
nothing_wanted CmdShow rows = refl
nothing_wanted Hex80 rows = refl
nothing_wanted RunHex rows = refl
nothing_wanted Shrink rows = refl
nothing_wanted Leaves rows = refl
nothing_wanted Explain rows = refl

or_nothing : (a : Kinds) → or_else a [] ≡ a
or_nothing [] = refl
or_nothing (k ∷ ks) = refl

-- ---- the faults and the rows

-- what is held behind the words
abbrev held_at_end : CommandName → List Text → Held
held_at_end c ws = (fold (walked (rules c) []) (before nothing_held idle) ws).held

pub clear_asked : (c : CommandName) (ws : List Text) → clear (fault_of (clap_command c) ws) ≡ total c (before nothing_held idle) ws
clear_asked c ws =
    let h = held_at_end c ws in
    ap₂ (λ a w. clear (built_fault a nothing_held w)) (built_is c) (words_asked c ws)
    ∙ ap clear (leaf_fault (app c) nothing_held ws refl)
    ∙ ap₂ (λ d k. clear (or_else (walk_fault (shape c) [] (before nothing_held idle) ws) (or_else (settle_fault (rules c) false h) (or_else d k)))) (all_quiet c (settled (rules c) h).rows) (nothing_wanted c (finished (rules c) h))
    ∙ ap (λ k. clear (or_else (walk_fault (shape c) [] (before nothing_held idle) ws) k)) (or_nothing (settle_fault (rules c) false h))
    ∙ clear_or (walk_fault (shape c) [] (before nothing_held idle) ws) (settle_fault (rules c) false h)

pub rows_asked : (c : CommandName) (ws : List Text) → matches_of (clap_command c) ws ≡ with_flags c (ending c (before nothing_held idle) ws)
rows_asked c ws =
    ap₂ (λ a w. rows_after a.top.rules (app_names a) w) (built_is c) (words_asked c ws)
    ∙ defaults_are c (ending c (before nothing_held idle) ws)

-- ---- what an answer says

at_fault : (k : ErrorKind) (kinds : Kinds) → IsAmong k kinds → clear kinds ≡ false
at_fault k [] among = absurd among
at_fault k (x ∷ xs) among = refl

-- the words that are read without fault are sorted as the rows say
pub taken_words : (c : CommandName) (ws : List Text) (rows : List Row) (g : Gathered) → has_short ws ≡ false → fault_of (clap_command c) ws ≡ [] → rows ≡ matches_of (clap_command c) ws → IsGivenIn rows g → AreSorted c ws g
taken_words c ws rows g absent fault is given = go (reads c ws nothing_held idle at_idle absent) (sym (clear_asked c ws) ∙ ap clear fault)
  where
    go : Reads c ws (total c (before nothing_held idle) ws) true [] (ending c (before nothing_held idle) ws) → total c (before nothing_held idle) ws ≡ true → AreSorted c ws g
    go (sorted items s clean ends) good =
        let in_rows : IsGivenIn (with_flags c (fold item_rows [] items)) g = subst (λ r. IsGivenIn r g) (is ∙ rows_asked c ws ∙ ap (with_flags c) ends) given in
        record { items = items; sorted = s; given = rows_give c ws items g s (sym clean ∙ good) in_rows }
    go (unsorted none_are bad) good = absurd (false≢true (sym bad ∙ good))

-- the words that are at fault give no command
pub faulty_words : (c : CommandName) (ws : List Text) (k : ErrorKind) (a : App) → a ≡ clap_command c → has_short ws ≡ false → IsAmong k (fault_of a ws) → GiveNoCommand c ws
faulty_words c ws k a is absent among = go (reads c ws nothing_held idle at_idle absent) (sym (clear_asked c ws) ∙ at_fault k (fault_of (clap_command c) ws) (let P : App → Type 0 = λ b. IsAmong k (fault_of b ws) in subst P is among))
  where
    go : Reads c ws (total c (before nothing_held idle) ws) true [] (ending c (before nothing_held idle) ws) → total c (before nothing_held idle) ws ≡ false → GiveNoCommand c ws
    go (sorted items s clean ends) bad = λ g are.
        let same : items ≡ are.items = one_sorting s are.sorted in
        ap (command_of c) (are.given ∙ ap gathered (sym same)) ∙ twice_no_command c ws items s (sym clean ∙ bad)
    go (unsorted none_are e) bad = λ g are. absurd (none_are are.items are.sorted)

-- ---- a word of one hyphen

value_no_short : (w : Word) → is_value w ≡ true → is_short w ≡ false
value_no_short [] e = refl
value_no_short (b ∷ []) e = refl
value_no_short (b ∷ (d ∷ ds)) e = go (b == 0x2D) refl
  where
    go : (t : Bool) → (b == 0x2D) ≡ t → is_short (b ∷ (d ∷ ds)) ≡ false
    go true h = absurd (false≢true (rw h at e))
    go false h = rw (lt-ltb 1 (length (b ∷ (d ∷ ds))) (omega arith), h) refl

double_no_short : (ds : List ℕ) → is_short (0x2D ∷ (0x2D ∷ ds)) ≡ false
double_no_short ds = rw (lt-ltb 1 (length (0x2D ∷ (0x2D ∷ ds))) (omega arith)) refl

no_short_more : (w : Word) (ws : List Word) → is_short w ≡ false → has_short ws ≡ false → has_short (w ∷ ws) ≡ false
no_short_more w ws first rest = rw (first, rest) (and_no _)

option_no_short : (o : OptionName) (w : Word) (text : Word) → w ≡ option_word o ++ text → is_short w ≡ false
option_no_short o w text e = ap is_short (e ∙ ap (λ v. v ++ text) (word_is o)) ∙ double_no_short (long_name o ++ text)

-- words that are items hold none before the mark
no_short_sorted : (c : CommandName) (ws : List Word) (items : List Item) → Sorts c ws items → has_short ws ≡ false
no_short_sorted c [] [] none = refl
no_short_sorted c ws items (marked {ws = others}) = refl
no_short_sorted c ws items (more {rest} {items = others} (name {w} is) s) = no_short_more w rest (value_no_short w is) (no_short_sorted c rest others s)
no_short_sorted c ws items (more {rest} {items = others} (flag {w} {f} e) s) = no_short_more w rest (option_no_short f w [] (named_word (flag_words c) w f e ∙ sym (append-nil (option_word f)))) (no_short_sorted c rest others s)
no_short_sorted c ws items (more {rest} {items = others} (parted {w} {text} {o} e v) s) = no_short_more w (text ∷ rest) (option_no_short o w [] (named_word (options_of c) w o e ∙ sym (append-nil (option_word o)))) (no_short_more text rest (value_no_short text v) (no_short_sorted c rest others s))
no_short_sorted c ws items (more {rest} {items = others} (joined {w} {text} {o} option parts e) s) = no_short_more w rest (option_no_short o w (0x3D ∷ text) (parts ∙ ap (λ v. v ++ (0x3D ∷ text)) (named_word (options_of c) option o e))) (no_short_sorted c rest others s)

pub short_words : (c : CommandName) (ws : List Word) → has_short ws ≡ true → GiveNoCommand c ws
short_words c ws short = λ g are. absurd (false≢true (sym (no_short_sorted c ws are.items are.sorted) ∙ short))
