-- What the crate `clap` is asked of a command's words, and the words that are refused before it is asked.
use Rattle.std.specs.Prelude.{◌≡◌, Bool, true, false, List, [], ◌∷◌, codes, Some, None, ◌&&◌, ◌||◌, ◌==◌, not, map, fold, nat_lt, length, slice_index}
use Rattle.std.specs.Str.{bytes_eq}
use Rattle.clap.specs.Words.{App, Rule, new_app, new_rule, with_rule}
use Rattle.clap.specs.Simple.{on_top}
use Rattle.clap.specs.declared.builder.ArgAction.{ArgAction}
use Rattle.clap.specs.declared.builder.ArgAction.TheVariants.{Append, Set, SetTrue}
use Rattle.cmd_arguments.specs.declared.table.CommandName.{CommandName}
use Rattle.cmd_arguments.specs.declared.table.OptionName.{OptionName}
use Rattle.cmd_arguments.specs.Table.{Word, command_word, long_name, options_of, flag_words}
use Rattle.cmd_arguments.specs.Items.{end_of_options}
use Rattle.cmd_arguments.specs.Given.{Gathered, AreSorted}
use Rattle.cmd_arguments.specs.Words.{Command, command_of}

-- any number of names, each a word
abbrev pub names_rule : Rule
names_rule = record (new_rule (codes "names")) { action = Some Append }

-- an option that stands by its name, and what it does
abbrev pub rule_with : ArgAction → OptionName → Rule
rule_with action o = record (new_rule (long_name o)) { long = Some (long_name o); action = Some action }

-- an option that stands at most once, with one value
abbrev pub option_rule : OptionName → Rule
option_rule o = rule_with Set o

-- a flag that stands at most once
abbrev pub flag_rule : OptionName → Rule
flag_rule o = rule_with SetTrue o

-- a command that knows no word for help
abbrev pub bare_command : CommandName → App
bare_command c = on_top (λ s. record s { no_binary_name = true; disable_help_flag = true }) (new_app (command_word c))

-- the command's names, its flags and its options
abbrev pub clap_command : CommandName → App
clap_command c = fold with_rule (fold with_rule (with_rule (bare_command c) names_rule) (map flag_rule (flag_words c))) (map option_rule (options_of c))

-- `-x`: one hyphen, and then something else
abbrev pub is_short : Word → Bool
is_short w = nat_lt 1 (length w) && slice_index w 0 == 0x2D && not (slice_index w 1 == 0x2D)

-- such a word stands before the mark; clap reads the characters behind the hyphen, and says what it makes of bytes only where
-- they are characters
abbrev pub has_short : List Word → Bool
has_short [] = false
has_short (w ∷ ws) = not (bytes_eq w end_of_options) && (is_short w || has_short ws)

-- whatever a command's words give, it is no command
abbrev pub GiveNoCommand : CommandName → List Word → Type 0
GiveNoCommand c ws = (g : Gathered) → AreSorted c ws g → command_of c g ≡ None

-- a command's words give this command
abbrev pub GiveCommand : CommandName → List Word → Command → Type 0
GiveCommand name ws command = (g : Gathered) × AreSorted name ws g × (command_of name g ≡ Some command)
