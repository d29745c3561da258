-- The form of the first word tells what the rules say, and the rules say no more.
use Rattle.std.proofs.Common.{◌≡◌, ◌<◌, List, [], ◌∷◌, ◌++◌, Bool, true, false, not, Option, Some, None, refl, ap, sym, ◌∙◌, cond, length, take, get_or, arith, add-one, subst}
use Rattle.std.specs.Option.{is_some}
use Rattle.std.specs.List.{list_all, before_first, after_first, position_or_len}
use Rattle.std.specs.Str.{bytes_eq}
use Rattle.std.proofs.lemmas.Bool.{lt-ltb, ltb-true, eqb-true, and_parts, false≢true}
use Rattle.std.proofs.lemmas.List.{take-append-drop}
use Rattle.std.proofs.lemmas.List.Sums.{passes_at_first}
use Rattle.std.proofs.lemmas.Option.{none-some, same_Some}
use Rattle.std.proofs.lemmas.Slice.Eq.{bytes_eq-Decides}
use Rattle.std.proofs.Math.Seq.{drop-cons}
use Rattle.cmd_arguments.specs.declared.table.CommandName.{CommandName}
use Rattle.cmd_arguments.specs.declared.table.CommandName.TheVariants.{Translate, Check, Flags, Run80, Run86, Both, Sample, Cmd, CmdShow, Hex80, RunHex, Shrink, Leaves, Explain}
use Rattle.cmd_arguments.specs.declared.table.OptionName.{OptionName}
use Rattle.cmd_arguments.specs.declared.table.OptionName.TheVariants.{Top, Choice, Input, Disk, Ports, OutDisk, Tail, Steps, Plain, Zilog, Comments}
use Rattle.cmd_arguments.specs.Table.{Word, option_word, options_of, flag_words, named_among}
use Rattle.cmd_arguments.specs.Items.{Item, Name, Setting, is_value, BeginsWithItem, name, flag, parted, joined, end_of_options}
use Rattle.cmd_arguments.proofs.FirstItem.{is_equals, has_equals, First, first_item, joined_item, parted_item, lone_item}

-- a word that names an option is that option's word
by_first_word : (t : Bool) (p o : OptionName) (w : Word) (others : Option OptionName) → bytes_eq (option_word p) w ≡ t → cond t (Some p) others ≡ Some o → (others ≡ Some o → w ≡ option_word o) → w ≡ option_word o
by_first_word true p o w others is found behind = sym ((bytes_eq-Decides (option_word p) w).0 is) ∙ ap option_word (same_Some p o found)
by_first_word false p o w others is found behind = behind found

pub named_word : (options : List OptionName) (w : Word) (o : OptionName) → named_among options w ≡ Some o → w ≡ option_word o
named_word [] w o e = absurd (none-some o e)
named_word (p ∷ options) w o e = by_first_word _ p o w (named_among options w) refl e (named_word options w o)

-- the word of an option is no value and holds no `=`; before and after the first `=` stand the word and its text
record IsOptionWord (w : Word) : Type 0 where
  alone : is_value w ≡ false
  whole : has_equals w ≡ false
  begins : (text : Word) → is_value (w ++ (0x3D ∷ text)) ≡ false
  place : (text : Word) → has_equals (w ++ (0x3D ∷ text)) ≡ true
  before : (text : Word) → before_first is_equals (w ++ (0x3D ∷ text)) ≡ w
  after : (text : Word) → after_first is_equals (w ++ (0x3D ∷ text)) ≡ text

option_words : (o : OptionName) → IsOptionWord (option_word o)
option_words Top = record { alone = refl; whole = refl; begins = λ text. refl; place = λ text. lt-ltb _ _ (omega arith); before = λ text. refl; after = λ text. refl }
option_words Choice = record { alone = refl; whole = refl; begins = λ text. refl; place = λ text. lt-ltb _ _ (omega arith); before = λ text. refl; after = λ text. refl }
option_words Input = record { alone = refl; whole = refl; begins = λ text. refl; place = λ text. lt-ltb _ _ (omega arith); before = λ text. refl; after = λ text. refl }
option_words Disk = record { alone = refl; whole = refl; begins = λ text. refl; place = λ text. lt-ltb _ _ (omega arith); before = λ text. refl; after = λ text. refl }
option_words Ports = record { alone = refl; whole = refl; begins = λ text. refl; place = λ text. lt-ltb _ _ (omega arith); before = λ text. refl; after = λ text. refl }
option_words OutDisk = record { alone = refl; whole = refl; begins = λ text. refl; place = λ text. lt-ltb _ _ (omega arith); before = λ text. refl; after = λ text. refl }
option_words Tail = record { alone = refl; whole = refl; begins = λ text. refl; place = λ text. lt-ltb _ _ (omega arith); before = λ text. refl; after = λ text. refl }
option_words Steps = record { alone = refl; whole = refl; begins = λ text. refl; place = λ text. lt-ltb _ _ (omega arith); before = λ text. refl; after = λ text. refl }
option_words Plain = record { alone = refl; whole = refl; begins = λ text. refl; place = λ text. lt-ltb _ _ (omega arith); before = λ text. refl; after = λ text. refl }
option_words Zilog = record { alone = refl; whole = refl; begins = λ text. refl; place = λ text. lt-ltb _ _ (omega arith); before = λ text. refl; after = λ text. refl }
option_words Comments = record { alone = refl; whole = refl; begins = λ text. refl; place = λ text. lt-ltb _ _ (omega arith); before = λ text. refl; after = λ text. refl }

-- what passes a test of all options is what a word finds among them
pub found_with : (test : OptionName → Bool) (os : List OptionName) (w : Word) (o : OptionName) → list_all test os ≡ true → named_among os w ≡ Some o → test o ≡ true
found_with test [] w o all e = absurd (none-some _ e)
found_with test (p ∷ os) w o all e =
    let parts = and_parts (test p) (list_all test os) all in
    first_or (test o) (bytes_eq (option_word p) w) (λ is. ap test (sym (same_Some _ _ is)) ∙ parts.0) (λ is. found_with test os w o parts.1 is) e
  where
    first_or : (found : Bool) (b : Bool) → (Some p ≡ Some o → found ≡ true) → (named_among os w ≡ Some o → found ≡ true) → cond b (Some p) (named_among os w) ≡ Some o → found ≡ true
    first_or found true first later is = first is
    first_or found false first later is = later is

-- no flag of a command is an option of it
flags_apart : (c : CommandName) → list_all (λ f. not (is_some (named_among (options_of c) (option_word f)))) (flag_words c) ≡ true
flags_apart Translate = refl
flags_apart Check = refl
flags_apart Flags = refl
flags_apart Run80 = refl
flags_apart Run86 = refl
flags_apart Both = refl
flags_apart Sample = refl
flags_apart Cmd = refl
flags_apart CmdShow = refl
flags_apart Hex80 = refl
flags_apart RunHex = refl
flags_apart Shrink = refl
flags_apart Leaves = refl
flags_apart Explain = refl

-- no option of a command is a flag of it
pub no_flag : (c : CommandName) (o p : OptionName) → named_among (options_of c) (option_word o) ≡ Some p → named_among (flag_words c) (option_word o) ≡ None
no_flag c o p e = by_flag (named_among (flag_words c) (option_word o)) refl
  where
    by_flag : (f : Option OptionName) → named_among (flag_words c) (option_word o) ≡ f → f ≡ None
    by_flag None is = refl
    by_flag (Some f) is =
        let apart = found_with (λ g. not (is_some (named_among (options_of c) (option_word g)))) (flag_words c) (option_word o) f (flags_apart c) is in
        let taken : is_some (named_among (options_of c) (option_word f)) ≡ true = ap (λ w. is_some (named_among (options_of c) w)) (sym (named_word (flag_words c) (option_word o) f is)) ∙ ap is_some e in
        absurd (false≢true (sym (ap not taken) ∙ apart))

-- what begins by the rules is what the form tells
pub form_of_rule : {c : CommandName} {w : Word} {ws rest : List Word} {item : Item} → BeginsWithItem c (w ∷ ws) item rest → first_item c w ws ≡ Some (item, rest)
form_of_rule (name is) = rw is refl
form_of_rule {c} {w} (flag {f} e) =
    let is = named_word (flag_words c) w f e in
    let own = option_words f in
    rw (ap is_value is ∙ own.alone, ap has_equals is ∙ own.whole, e) refl
form_of_rule {c} {w} (parted {o} e v) =
    let is = named_word (options_of c) w o e in
    let own = option_words o in
    rw (ap is_value is ∙ own.alone, ap has_equals is ∙ own.whole, ap (named_among (flag_words c)) is ∙ no_flag c o o (sym (ap (named_among (options_of c)) is) ∙ e), e, v) refl
form_of_rule {c} {w} (joined {text} {o} option parts e) =
    let is = named_word (options_of c) option o e in
    let own = option_words o in
    let whole : w ≡ option_word o ++ (0x3D ∷ text) = parts ∙ ap (λ v. v ++ (0x3D ∷ text)) is in
    rw (ap is_value whole ∙ own.begins text, ap has_equals whole ∙ own.place text, ap (before_first is_equals) whole ∙ own.before text ∙ sym is, ap (after_first is_equals) whole ∙ own.after text, e) refl

-- a word is what stands before its first `=`, that sign, and what stands after it
parts_of_equals : (w : Word) → has_equals w ≡ true → w ≡ before_first is_equals w ++ (0x3D ∷ after_first is_equals w)
parts_of_equals w has =
    let place = position_or_len is_equals w in
    let within : place < length w = ltb-true _ _ has in
    let sign : get_or w place 0 ≡ 0x3D = eqb-true _ _ (passes_at_first is_equals w 0 within) in
    sym (take-append-drop place w) ∙ ap (λ v. take place w ++ v) (drop-cons w place 0 within ∙ rw (sign, add-one) refl)

-- and what the form tells begins by a rule
abbrev BeginsAs : CommandName → List Word → First → Type 0
BeginsAs c ws (Some x) = BeginsWithItem c ws x.0 x.1
BeginsAs c ws None = Unit {0}

joined_begins : (c : CommandName) (w : Word) (ws : List Word) (o : Option OptionName) → has_equals w ≡ true → named_among (options_of c) (before_first is_equals w) ≡ o → BeginsAs c (w ∷ ws) (joined_item o (after_first is_equals w) ws)
joined_begins c w ws (Some o) has named = joined (before_first is_equals w) (parts_of_equals w has) named
joined_begins c w ws None has named = tt

next_begins : (c : CommandName) (w text : Word) (ws : List Word) (o : OptionName) (t : Bool) → named_among (options_of c) w ≡ Some o → is_value text ≡ t → BeginsAs c (w ∷ (text ∷ ws)) (cond t (Some (Setting o text, ws)) None)
next_begins c w text ws o true named value = parted named value
next_begins c w text ws o false named value = tt

parted_begins : (c : CommandName) (w : Word) (ws : List Word) (o : Option OptionName) → named_among (options_of c) w ≡ o → BeginsAs c (w ∷ ws) (parted_item o ws)
parted_begins c w (text ∷ ws) (Some o) named = next_begins c w text ws o _ named refl
parted_begins c w [] (Some o) named = tt
parted_begins c w ws None named = tt

lone_begins : (c : CommandName) (w : Word) (ws : List Word) (f : Option OptionName) → named_among (flag_words c) w ≡ f → BeginsAs c (w ∷ ws) (lone_item f (named_among (options_of c) w) ws)
lone_begins c w ws (Some f) named = flag named
lone_begins c w ws None named = parted_begins c w ws _ refl

setting_begins : (c : CommandName) (w : Word) (ws : List Word) (t : Bool) → has_equals w ≡ t → BeginsAs c (w ∷ ws) (cond t (joined_item (named_among (options_of c) (before_first is_equals w)) (after_first is_equals w) ws) (lone_item (named_among (flag_words c) w) (named_among (options_of c) w) ws))
setting_begins c w ws true has = joined_begins c w ws _ has refl
setting_begins c w ws false has = lone_begins c w ws _ refl

form_begins : (c : CommandName) (w : Word) (ws : List Word) (t : Bool) → is_value w ≡ t → BeginsAs c (w ∷ ws) (cond t (Some (Name w, ws)) (cond (has_equals w) (joined_item (named_among (options_of c) (before_first is_equals w)) (after_first is_equals w) ws) (lone_item (named_among (flag_words c) w) (named_among (options_of c) w) ws)))
form_begins c w ws true is = name is
form_begins c w ws false is = setting_begins c w ws _ refl

pub rule_of_form : (c : CommandName) (w : Word) (ws rest : List Word) (item : Item) → first_item c w ws ≡ Some (item, rest) → BeginsWithItem c (w ∷ ws) item rest
rule_of_form c w ws rest item e = let P : First → Type 0 = BeginsAs c (w ∷ ws) in subst P e (form_begins c w ws _ refl)

-- the mark begins no item
pub no_item_at_mark : (c : CommandName) (ws : List Word) → first_item c end_of_options ws ≡ None
no_item_at_mark Translate ws = refl
no_item_at_mark Check ws = refl
no_item_at_mark Flags ws = refl
no_item_at_mark Run80 ws = refl
no_item_at_mark Run86 ws = refl
no_item_at_mark Both ws = refl
no_item_at_mark Sample ws = refl
no_item_at_mark Cmd ws = refl
no_item_at_mark CmdShow ws = refl
no_item_at_mark Hex80 ws = refl
no_item_at_mark RunHex ws = refl
no_item_at_mark Shrink ws = refl
no_item_at_mark Leaves ws = refl
no_item_at_mark Explain ws = refl
