-- The words behind a command's word, sorted into names, and options with their values.
use Rattle.std.specs.Prelude.{◌≡◌, List, [], ◌∷◌, ◌++◌, codes, Bool, true, not, ◌||◌, ◌==◌, Some, map, slice_index}
use Rattle.std.specs.Str.{bytes_eq}
use Rattle.cmd_arguments.specs.declared.table.CommandName.{CommandName}
use Rattle.cmd_arguments.specs.declared.table.OptionName.{OptionName}
use Rattle.cmd_arguments.specs.Table.{Word, options_of, flag_words, named_among}

-- a name, or an option with the text of its value; a flag's text is empty
pub data Item : Type 0 where
  Name : (word : Word) → Item
  Setting : (option : OptionName) → (text : Word) → Item

-- a name or an option's value is a word that does not begin with `-`, or is `-` alone
abbrev pub is_value : Word → Bool
is_value w = not (slice_index w 0 == 0x2D) || bytes_eq w (codes "-")

-- the mark, after which every word is a name
abbrev pub end_of_options : Word
end_of_options = codes "--"

-- what a command's words begin with, and the words behind it
pub data BeginsWithItem (c : CommandName) : List Word → Item → List Word → Type 0 where
  -- a name
  name : {w : Word} {ws : List Word} → is_value w ≡ true → BeginsWithItem c (w ∷ ws) (Name w) ws
  -- a flag of the command, which takes no value
  flag : {w : Word} {ws : List Word} {f : OptionName} → named_among (flag_words c) w ≡ Some f → BeginsWithItem c (w ∷ ws) (Setting f []) ws
  -- an option of the command, whose value is the next word
  parted : {w text : Word} {ws : List Word} {o : OptionName} → named_among (options_of c) w ≡ Some o → is_value text ≡ true → BeginsWithItem c (w ∷ (text ∷ ws)) (Setting o text) ws
  -- or stands after `=` in the same word, and may then be anything
  joined : {w text : Word} {ws : List Word} {o : OptionName} (option : Word) → w ≡ option ++ (0x3D ∷ text) → named_among (options_of c) option ≡ Some o → BeginsWithItem c (w ∷ ws) (Setting o text) ws

-- a command's words are these items
pub data Sorts (c : CommandName) : List Word → List Item → Type 0 where
  none : Sorts c [] []
  -- after the first `--` every word is a name
  marked : {ws : List Word} → Sorts c (end_of_options ∷ ws) (map Name ws)
  more : {ws rest : List Word} {item : Item} {items : List Item} → BeginsWithItem c ws item rest → Sorts c rest items → Sorts c ws (item ∷ items)
