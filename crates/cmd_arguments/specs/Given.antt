-- What the items of a command give: its names, and each option's text.
use Rattle.std.specs.Prelude.{◌≡◌, List, [], ◌∷◌, if◌then◌else◌, Option, Some, None}
use Rattle.std.specs.List.{filter_map}
use Rattle.std.specs.Str.{bytes_eq}
use Rattle.cmd_arguments.specs.declared.table.CommandName.{CommandName}
use Rattle.cmd_arguments.specs.declared.table.OptionName.{OptionName}
use Rattle.cmd_arguments.specs.declared.table.OptionName.TheVariants.{Top, Choice, Input, Disk, Ports, OutDisk, Tail, Steps, Plain, Zilog, Comments}
use Rattle.cmd_arguments.specs.Table.{Word, option_word}
use Rattle.cmd_arguments.specs.Items.{Item, Name, Setting, Sorts}

abbrev pub name_of_item : Item → Option Word
name_of_item (Name w) = Some w
name_of_item (Setting o text) = None

-- the names, in their order
abbrev pub names_of : List Item → List Word
names_of items = filter_map name_of_item items

abbrev pub text_in : OptionName → Item → Option Word
text_in o (Name w) = None
text_in o (Setting p text) = if bytes_eq (option_word p) (option_word o) then Some text else None

-- the texts that an option is given
abbrev pub texts_of : OptionName → List Item → List Word
texts_of o items = filter_map (text_in o) items

-- an option stands nowhere, once with a text, or more often
pub data Occurrence : Type 0 where
  Absent : Occurrence
  Once : (text : Word) → Occurrence
  Repeated : Occurrence

abbrev pub occurrence : List Word → Occurrence
occurrence [] = Absent
occurrence (text ∷ []) = Once text
occurrence (text ∷ (other ∷ texts)) = Repeated

-- no name, one, two, three, or more
pub data Names : Type 0 where
  NoName : Names
  OneName : (first : Word) → Names
  TwoNames : (first second : Word) → Names
  ThreeNames : (first second third : Word) → Names
  MoreNames : Names

abbrev pub names : List Word → Names
names [] = NoName
names (first ∷ []) = OneName first
names (first ∷ (second ∷ [])) = TwoNames first second
names (first ∷ (second ∷ (third ∷ []))) = ThreeNames first second third
names (first ∷ (second ∷ (third ∷ (fourth ∷ others)))) = MoreNames

pub record Gathered : Type 0 where
  pub names : Names
  pub top : Occurrence
  pub choice : Occurrence
  pub input : Occurrence
  pub disk : Occurrence
  pub ports : Occurrence
  pub out_disk : Occurrence
  pub tail : Occurrence
  pub steps : Occurrence
  pub plain : Occurrence
  pub zilog : Occurrence
  pub comments : Occurrence

abbrev pub gathered : List Item → Gathered
gathered items = record {
  names = names (names_of items);
  top = occurrence (texts_of Top items);
  choice = occurrence (texts_of Choice items);
  input = occurrence (texts_of Input items);
  disk = occurrence (texts_of Disk items);
  ports = occurrence (texts_of Ports items);
  out_disk = occurrence (texts_of OutDisk items);
  tail = occurrence (texts_of Tail items);
  steps = occurrence (texts_of Steps items);
  plain = occurrence (texts_of Plain items);
  zilog = occurrence (texts_of Zilog items);
  comments = occurrence (texts_of Comments items);
}

-- a command's words are items that give this
pub record AreSorted (c : CommandName) (ws : List Word) (g : Gathered) : Type 0 where
  pub items : List Item
  pub sorted : Sorts c ws items
  pub given : g ≡ gathered items
