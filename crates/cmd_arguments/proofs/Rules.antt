-- The rules that `clap` makes of what it is asked, and which of them a word finds.
use Rattle.std.proofs.Common.{◌≡◌, ℕ, List, [], ◌∷◌, ◌++◌, Bool, true, false, Option, Some, None, refl, ap, ap₂, sym, ◌∙◌, map, codes, cond, not, ◌||◌, ◌+◌, ◌<◌, fold, get_or, length, take}
use Rattle.std.specs.Prelude.{find, option_map}
use Rattle.std.specs.List.{list_all}
use Rattle.std.specs.Str.{bytes_eq}
use Rattle.std.proofs.lemmas.Bool.{not-true, and_parts}
use Rattle.std.specs.Option.{option_or}
use Rattle.std.proofs.lemmas.List.Folds.{find-append}
use Rattle.std.proofs.lemmas.List.Sums.{fold_push}
use Rattle.std.proofs.lemmas.List.{map-append, take_more}
use mathlib.Core.Bool.{or-false}
use Rattle.clap.specs.Words.{Rule, Text, App, with_rule}
use Rattle.clap.specs.Walk.{arg_by_id, arg_by_index, arg_by_long}
use Rattle.clap.specs.Simple.{Shape, built, new_shape, is_simple}
use Rattle.clap.specs.Faults.{is_free_app, is_simple_and_free}
use Rattle.clap.proofs.WalkLemmas.{find-map}
use Rattle.clap.specs.declared.builder.value_parser.ValueParser.TheVariants as vp
use Rattle.cmd_arguments.specs.declared.table.CommandName.{CommandName}
use Rattle.cmd_arguments.specs.declared.table.CommandName.TheVariants.{Translate, Check, Flags, Run80, Run86, Both, Sample, Cmd, CmdShow, Hex80, RunHex, Shrink, Leaves, Explain}
use Rattle.cmd_arguments.specs.declared.table.OptionName.{OptionName}
use Rattle.cmd_arguments.specs.declared.table.OptionName.TheVariants.{Top, Choice, Input, Disk, Ports, OutDisk, Tail, Steps, Plain, Zilog, Comments}
use Rattle.cmd_arguments.specs.Table.{Word, command_word, long_name, option_word, options_of, flag_words, named_among}
use Rattle.cmd_arguments.specs.Asked.{clap_command, names_rule, option_rule, flag_rule}
use Rattle.cmd_arguments.proofs.Forms.{named_word, no_flag, found_with}

abbrev pub names_built : Rule
names_built = record names_rule { index = Some 1; parser = Some vp.String; range = Some (record { start_inclusive = 1; end_inclusive = 1 }) }

abbrev pub option_built : OptionName → Rule
option_built o = record (option_rule o) { parser = Some vp.String; range = Some (record { start_inclusive = 1; end_inclusive = 1 }) }

abbrev pub flag_built : OptionName → Rule
flag_built o = record (flag_rule o) { defaults = codes "false" ∷ []; missing = codes "true" ∷ []; parser = Some vp.Bool; range = Some (record { start_inclusive = 0; end_inclusive = 0 }) }

unfoldable pub rules : CommandName → List Rule
rules c = names_built ∷ (map flag_built (flag_words c) ++ map option_built (options_of c))

abbrev pub shape : CommandName → Shape
shape c = record (new_shape (command_word c)) { rules = rules c; no_binary_name = true; disable_help_flag = true; disable_help_subcommand = true; is_built = true }

abbrev pub app : CommandName → App
app c = record { top = shape c; subs = [] }

pub built_is : (c : CommandName) → built (clap_command c) ≡ app c
unfolding rules
built_is Translate = refl
built_is Check = refl
built_is Flags = refl
built_is Run80 = refl
built_is Run86 = refl
built_is Both = refl
built_is Sample = refl
built_is Cmd = refl
built_is CmdShow = refl
built_is Hex80 = refl
built_is RunHex = refl
built_is Shrink = refl
built_is Leaves = refl
built_is Explain = refl

pub asked_free : (c : CommandName) → is_simple_and_free (clap_command c) ≡ true
asked_free Translate = refl
asked_free Check = refl
asked_free Flags = refl
asked_free Run80 = refl
asked_free Run86 = refl
asked_free Both = refl
asked_free Sample = refl
asked_free Cmd = refl
asked_free CmdShow = refl
asked_free Hex80 = refl
asked_free RunHex = refl
asked_free Shrink = refl
asked_free Leaves = refl
asked_free Explain = refl

pub asked_simple : (c : CommandName) → is_simple (clap_command c) ≡ true
asked_simple c = (and_parts (is_simple (clap_command c)) (is_free_app (built (clap_command c))) (asked_free c)).0

-- an option's word is two hyphens and its name
pub word_is : (o : OptionName) → option_word o ≡ 0x2D ∷ (0x2D ∷ long_name o)
word_is Top = refl
word_is Choice = refl
word_is Input = refl
word_is Disk = refl
word_is Ports = refl
word_is OutDisk = refl
word_is Tail = refl
word_is Steps = refl
word_is Plain = refl
word_is Zilog = refl
word_is Comments = refl

pub names_apart : (o : OptionName) → bytes_eq (codes "names") (long_name o) ≡ false
names_apart Top = refl
names_apart Choice = refl
names_apart Input = refl
names_apart Disk = refl
names_apart Ports = refl
names_apart OutDisk = refl
names_apart Tail = refl
names_apart Steps = refl
names_apart Plain = refl
names_apart Zilog = refl
names_apart Comments = refl

pub apart_names : (o : OptionName) → bytes_eq (long_name o) (codes "names") ≡ false
apart_names Top = refl
apart_names Choice = refl
apart_names Input = refl
apart_names Disk = refl
apart_names Ports = refl
apart_names OutDisk = refl
apart_names Tail = refl
apart_names Steps = refl
apart_names Plain = refl
apart_names Zilog = refl
apart_names Comments = refl

-- a flag, by its name
abbrev pub is_flag_name : Text → Bool
is_flag_name n = bytes_eq n (codes "plain") || (bytes_eq n (codes "zilog") || bytes_eq n (codes "comments"))

abbrev pub is_flag : OptionName → Bool
is_flag o = is_flag_name (long_name o)

pub same_words : (o : OptionName) (n : Text) → bytes_eq (option_word o) (0x2D ∷ (0x2D ∷ n)) ≡ bytes_eq (long_name o) n
same_words o n = ap (λ w. bytes_eq w (0x2D ∷ (0x2D ∷ n))) (word_is o)

pub same_names : (p o : OptionName) → bytes_eq (option_word p) (option_word o) ≡ bytes_eq (long_name p) (long_name o)
same_names p o = ap (bytes_eq (option_word p)) (word_is o) ∙ same_words p (long_name o)

find_same : {X : Type 0} (p q : X → Bool) (xs : List X) → ((x : X) → p x ≡ q x) → find p xs ≡ find q xs
find_same p q [] e = refl
find_same p q (x ∷ xs) e = ap₂ (λ b o. cond b (Some x) o) (e x) (find_same p q xs e)

-- the rule that a name finds: a flag's, or an option's
abbrev pub looked_up : CommandName → Text → Option Rule
looked_up c n = option_or (option_map flag_built (named_among (flag_words c) (0x2D ∷ (0x2D ∷ n)))) (option_map option_built (named_among (options_of c) (0x2D ∷ (0x2D ∷ n))))

found_in : (p : Rule → Bool) (f : OptionName → Rule) (os : List OptionName) (n : Text) → ((o : OptionName) → p (f o) ≡ bytes_eq (long_name o) n) → find p (map f os) ≡ option_map f (named_among os (0x2D ∷ (0x2D ∷ n)))
found_in p f os n e = sym (find-map p f os) ∙ ap (option_map f) (find_same _ _ os (λ o. e o ∙ sym (same_words o n)))

pub by_index : (c : CommandName) → arg_by_index (rules c) 1 ≡ Some names_built
unfolding rules
by_index c = refl

pub by_names : (c : CommandName) → arg_by_id (rules c) (codes "names") ≡ Some names_built
unfolding rules
by_names c = refl

pub by_long : (c : CommandName) (n : Text) → arg_by_long (rules c) n ≡ looked_up c n
unfolding rules
by_long c n =
    find-append _ (map flag_built (flag_words c)) (map option_built (options_of c))
    ∙ ap₂ option_or (found_in _ flag_built (flag_words c) n (λ o. or-false _)) (found_in _ option_built (options_of c) n (λ o. or-false _))

by_id : (c : CommandName) (n : Text) → bytes_eq (codes "names") n ≡ false → arg_by_id (rules c) n ≡ looked_up c n
unfolding rules
by_id c n apart =
    ap (λ b. cond b (Some names_built) (find (λ a. bytes_eq a.id n) (map flag_built (flag_words c) ++ map option_built (options_of c)))) apart
    ∙ find-append _ (map flag_built (flag_words c)) (map option_built (options_of c))
    ∙ ap₂ option_or (found_in _ flag_built (flag_words c) n (λ o. refl)) (found_in _ option_built (options_of c) n (λ o. refl))

-- an option that a word names is found by its name, and is no flag
pub no_flag_at : (c : CommandName) (w : Word) (o : OptionName) → named_among (options_of c) w ≡ Some o → named_among (flag_words c) w ≡ None
no_flag_at c w o e =
    let is = named_word (options_of c) w o e in
    ap (named_among (flag_words c)) is ∙ no_flag c o o (sym (ap (named_among (options_of c)) is) ∙ e)

pub by_option : (c : CommandName) (w : Word) (o : OptionName) → named_among (options_of c) w ≡ Some o → arg_by_id (rules c) (long_name o) ≡ Some (option_built o)
by_option c w o e =
    let is : w ≡ 0x2D ∷ (0x2D ∷ long_name o) = named_word (options_of c) w o e ∙ word_is o in
    by_id c (long_name o) (names_apart o)
    ∙ ap₂ option_or (ap (option_map flag_built) (ap (named_among (flag_words c)) (sym is) ∙ no_flag_at c w o e)) (ap (option_map option_built) (ap (named_among (options_of c)) (sym is) ∙ e))

-- one rule more is asked for
pub rules_more : (f : OptionName → Rule) (a : App) (os : List OptionName) (i : ℕ) (d : OptionName) → i < length os → fold with_rule a (map f (take (i + 1) os)) ≡ with_rule (fold with_rule a (map f (take i os))) (f (get_or os i d))
rules_more f a os i d lt =
    ap (λ l. fold with_rule a (map f l)) (take_more os i d lt)
    ∙ ap (fold with_rule a) (map-append f (take i os) (get_or os i d ∷ []))
    ∙ fold_push with_rule a (map f (take i os)) (f (get_or os i d))

-- an option of a command is no flag, and a flag is one
options_no_flags : (c : CommandName) → list_all (λ o. not (is_flag o)) (options_of c) ≡ true
options_no_flags Translate = refl
options_no_flags Check = refl
options_no_flags Flags = refl
options_no_flags Run80 = refl
options_no_flags Run86 = refl
options_no_flags Both = refl
options_no_flags Sample = refl
options_no_flags Cmd = refl
options_no_flags CmdShow = refl
options_no_flags Hex80 = refl
options_no_flags RunHex = refl
options_no_flags Shrink = refl
options_no_flags Leaves = refl
options_no_flags Explain = refl

pub flags_are : (c : CommandName) → list_all (λ f. is_flag f) (flag_words c) ≡ true
flags_are Translate = refl
flags_are Check = refl
flags_are Flags = refl
flags_are Run80 = refl
flags_are Run86 = refl
flags_are Both = refl
flags_are Sample = refl
flags_are Cmd = refl
flags_are CmdShow = refl
flags_are Hex80 = refl
flags_are RunHex = refl
flags_are Shrink = refl
flags_are Leaves = refl
flags_are Explain = refl

pub options_plain : (c : CommandName) (w : Word) (o : OptionName) → named_among (options_of c) w ≡ Some o → is_flag o ≡ false
options_plain c w o e = not-true _ (found_with (λ p. not (is_flag p)) (options_of c) w o (options_no_flags c) e)

pub flags_flag : (c : CommandName) (w : Word) (f : OptionName) → named_among (flag_words c) w ≡ Some f → is_flag f ≡ true
flags_flag c w f e = found_with (λ p. is_flag p) (flag_words c) w f (flags_are c) e
