-- What the words of a command begin with, by the form of the first word: the rules of Items one after the other.
use Rattle.std.specs.Prelude.{ℕ, List, [], ◌∷◌, Bool, ◌==◌, nat_lt, if◌then◌else◌, Option, Some, None, length}
use Rattle.std.specs.List.{before_first, after_first, position_or_len}
use Rattle.cmd_arguments.specs.declared.table.CommandName.{CommandName}
use Rattle.cmd_arguments.specs.declared.table.OptionName.{OptionName}
use Rattle.cmd_arguments.specs.Table.{Word, options_of, flag_words, named_among}
use Rattle.cmd_arguments.specs.Items.{Item, Name, Setting, is_value}

abbrev pub is_equals : ℕ → Bool
is_equals b = b == 0x3D

abbrev pub has_equals : Word → Bool
has_equals w = nat_lt (position_or_len is_equals w) (length w)

-- an item, and the words behind it
abbrev pub First : Type 0
First = Option (Item × List Word)

-- an option's value stands after `=` in the same word, and may then be anything
abbrev pub joined_item : Option OptionName → Word → List Word → First
joined_item (Some o) text ws = Some (Setting o text, ws)
joined_item None text ws = None

-- or it is the next word
abbrev pub parted_item : Option OptionName → List Word → First
parted_item (Some o) (text ∷ ws) = if is_value text then Some (Setting o text, ws) else None
parted_item (Some o) [] = None
parted_item None ws = None

-- a flag takes no value
abbrev pub lone_item : (flag option : Option OptionName) → List Word → First
lone_item (Some f) option ws = Some (Setting f [], ws)
lone_item None option ws = parted_item option ws

-- what a command's words begin with
abbrev pub first_item : CommandName → Word → List Word → First
first_item c w ws =
    if is_value w then Some (Name w, ws)
    else (if has_equals w
    then joined_item (named_among (options_of c) (before_first is_equals w)) (after_first is_equals w) ws
    else lone_item (named_among (flag_words c) w) (named_among (options_of c) w) ws)
