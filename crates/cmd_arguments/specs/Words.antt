-- The commands with their values, and the words that are a command.
use Rattle.std.specs.Prelude.{◌≡◌, ℕ, Bool, true, false, List, [], ◌∷◌, codes, Option, Some, None, option_map, option_and_then}
use Rattle.dialogue.specs.StartPage.{page_of_tail}
use Rattle.cmd_arguments.specs.declared.table.CommandName.{CommandName}
use Rattle.cmd_arguments.specs.declared.table.CommandName.TheVariants as named
use Rattle.cmd_arguments.specs.Table.{Word, command_named}
use Rattle.cmd_arguments.specs.Values.{top_value, choice_value, steps_value, count_value, file_name}
use Rattle.cmd_arguments.specs.Given.{Occurrence, Absent, Once, Repeated, Names, NoName, OneName, TwoNames, ThreeNames, MoreNames, Gathered, AreSorted}

-- `translate IN OUT [--plain] [--zilog] [--comments] [--top H]`
pub record Translate : Type 0 where
  pub input : Word
  pub output : Word
  pub plain : Bool
  pub zilog : Bool
  pub comments : Bool
  pub top : ℕ

-- `check IN TEXT [--zilog] [--top H]`, or `explain` with the same
pub record Check : Type 0 where
  pub source : Word
  pub text : Word
  pub zilog : Bool
  pub top : ℕ

-- `flags IN [--zilog] [--top H]`, or `leaves` with the same
pub record Listing : Type 0 where
  pub source : Word
  pub zilog : Bool
  pub top : ℕ

-- `[--input F] [--disk F] [--ports F] [--out-disk F] [--tail T] [--steps N]`: the names of the files of the input, the disk and
-- the ports' bytes, and of the file for the disk at the end; the start page of the tail, the most steps
pub record RunOptions : Type 0 where
  pub input : Option Word
  pub disk : Option Word
  pub ports : Option Word
  pub out_disk : Option Word
  pub page : List ℕ
  pub steps : ℕ

-- `run80 IN [--zilog] [--top H]` and run options
pub record Run80 : Type 0 where
  pub source : Word
  pub zilog : Bool
  pub top : ℕ
  pub run : RunOptions

-- `run86 TEXT [--choice H]` and run options
pub record Run86 : Type 0 where
  pub text : Word
  pub choice : ℕ
  pub run : RunOptions

-- `both IN [--zilog] [--top H] [--choice H]` and run options
pub record Both : Type 0 where
  pub source : Word
  pub zilog : Bool
  pub top : ℕ
  pub choice : ℕ
  pub run : RunOptions

-- `sample K OUT`
pub record Sample : Type 0 where
  pub count : ℕ
  pub output : Word

-- `cmd TEXT OUT`
pub record Cmd : Type 0 where
  pub text : Word
  pub output : Word

-- `cmdshow FILE`
pub record CmdShow : Type 0 where
  pub file : Word

-- `hex80 IN OUT [--zilog] [--top H]`
pub record Hex80 : Type 0 where
  pub source : Word
  pub output : Word
  pub zilog : Bool
  pub top : ℕ

-- `runhex FILE [--top H] [--choice H]` and run options
pub record RunHex : Type 0 where
  pub file : Word
  pub top : ℕ
  pub choice : ℕ
  pub run : RunOptions

-- `shrink IN TEXT OUT [--top H]`
pub record Shrink : Type 0 where
  pub source : Word
  pub text : Word
  pub output : Word
  pub top : ℕ

pub data Command : Type 0 where
  Translates : (command : Translate) → Command
  Checks : (command : Check) → Command
  ListsFlags : (command : Listing) → Command
  Runs80 : (command : Run80) → Command
  Runs86 : (command : Run86) → Command
  RunsBoth : (command : Both) → Command
  MakesSample : (command : Sample) → Command
  MakesCmd : (command : Cmd) → Command
  ShowsCmd : (command : CmdShow) → Command
  WritesHex : (command : Hex80) → Command
  RunsHex : (command : RunHex) → Command
  ShrinksText : (command : Shrink) → Command
  ListsLeaves : (command : Listing) → Command
  ExplainsText : (command : Check) → Command

infixl 10 ◌>>=◌
abbrev pub ◌>>=◌ : {A B : Type 0} → Option A → (A → Option B) → Option B
o >>= f = option_and_then f o

-- the text of an option that stands at most once: its default where it stands nowhere
abbrev pub text_or : Word → Occurrence → Option Word
text_or default Absent = Some default
text_or default (Once text) = Some text
text_or default Repeated = None

abbrev pub top_of : Gathered → Option ℕ
top_of g = text_or (codes "F000") g.top >>= top_value

abbrev pub choice_of : Gathered → Option ℕ
choice_of g = text_or (codes "0") g.choice >>= choice_value

abbrev pub steps_of : Gathered → Option ℕ
steps_of g = text_or (codes "1000000") g.steps >>= steps_value

abbrev pub page_of : Gathered → Option (List ℕ)
page_of g = text_or [] g.tail >>= page_of_tail

-- a file that a run reads or writes has a name, if there is one
abbrev pub input_file : Occurrence → Option (Option Word)
input_file Absent = Some None
input_file (Once text) = option_map Some (file_name text)
input_file Repeated = None

-- a flag that stands once, or nowhere
abbrev pub flag_of : Occurrence → Option Bool
flag_of Absent = Some false
flag_of (Once text) = Some true
flag_of Repeated = None

-- exactly one file, or two, or three
abbrev pub one_file : Names → Option Word
one_file NoName = None
one_file (OneName w) = file_name w
one_file (TwoNames first second) = None
one_file (ThreeNames first second third) = None
one_file MoreNames = None

abbrev pub two_files : Names → Option (Word × Word)
two_files NoName = None
two_files (OneName w) = None
two_files (TwoNames first second) = do
  first ← file_name first
  second ← file_name second
  Some (first, second)
two_files (ThreeNames first second third) = None
two_files MoreNames = None

abbrev pub three_files : Names → Option (Word × Word × Word)
three_files NoName = None
three_files (OneName w) = None
three_files (TwoNames first second) = None
three_files (ThreeNames first second third) = do
  first ← file_name first
  second ← file_name second
  third ← file_name third
  Some (first, second, third)
three_files MoreNames = None

-- a number of routines, and then a file
abbrev pub count_and_file : Names → Option (ℕ × Word)
count_and_file NoName = None
count_and_file (OneName w) = None
count_and_file (TwoNames first second) = do
  count ← count_value first
  file ← file_name second
  Some (count, file)
count_and_file (ThreeNames first second third) = None
count_and_file MoreNames = None

abbrev pub translate_of : Gathered → Option Translate
translate_of g = do
  plain ← flag_of g.plain
  zilog ← flag_of g.zilog
  comments ← flag_of g.comments
  files ← two_files g.names
  top ← top_of g
  Some (record { input = files.0; output = files.1; plain = plain; zilog = zilog; comments = comments; top = top })

abbrev pub check_of : Gathered → Option Check
check_of g = do
  zilog ← flag_of g.zilog
  files ← two_files g.names
  top ← top_of g
  Some (record { source = files.0; text = files.1; zilog = zilog; top = top })

abbrev pub listing_of : Gathered → Option Listing
listing_of g = do
  zilog ← flag_of g.zilog
  source ← one_file g.names
  top ← top_of g
  Some (record { source = source; zilog = zilog; top = top })

abbrev pub run_options_of : Gathered → Option RunOptions
run_options_of g = do
  input ← input_file g.input
  disk ← input_file g.disk
  ports ← input_file g.ports
  out_disk ← input_file g.out_disk
  page ← page_of g
  steps ← steps_of g
  Some (record { input = input; disk = disk; ports = ports; out_disk = out_disk; page = page; steps = steps })

abbrev pub run80_of : Gathered → Option Run80
run80_of g = do
  zilog ← flag_of g.zilog
  source ← one_file g.names
  top ← top_of g
  run ← run_options_of g
  Some (record { source = source; zilog = zilog; top = top; run = run })

abbrev pub run86_of : Gathered → Option Run86
run86_of g = do
  text ← one_file g.names
  choice ← choice_of g
  run ← run_options_of g
  Some (record { text = text; choice = choice; run = run })

abbrev pub both_of : Gathered → Option Both
both_of g = do
  zilog ← flag_of g.zilog
  source ← one_file g.names
  top ← top_of g
  choice ← choice_of g
  run ← run_options_of g
  Some (record { source = source; zilog = zilog; top = top; choice = choice; run = run })

abbrev pub sample_of : Gathered → Option Sample
sample_of g = do
  names ← count_and_file g.names
  Some (record { count = names.0; output = names.1 })

abbrev pub cmd_of : Gathered → Option Cmd
cmd_of g = do
  files ← two_files g.names
  Some (record { text = files.0; output = files.1 })

abbrev pub cmd_show_of : Gathered → Option CmdShow
cmd_show_of g = do
  file ← one_file g.names
  Some (record { file = file })

abbrev pub hex80_of : Gathered → Option Hex80
hex80_of g = do
  zilog ← flag_of g.zilog
  files ← two_files g.names
  top ← top_of g
  Some (record { source = files.0; output = files.1; zilog = zilog; top = top })

abbrev pub run_hex_of : Gathered → Option RunHex
run_hex_of g = do
  file ← one_file g.names
  top ← top_of g
  choice ← choice_of g
  run ← run_options_of g
  Some (record { file = file; top = top; choice = choice; run = run })

abbrev pub shrink_of : Gathered → Option Shrink
shrink_of g = do
  files ← three_files g.names
  top ← top_of g
  Some (record { source = files.0; text = files.1; output = files.2; top = top })

-- the command that its name and what stands behind it make
abbrev pub command_of : CommandName → Gathered → Option Command
command_of named.Translate g = option_map Translates (translate_of g)
command_of named.Check g = option_map Checks (check_of g)
command_of named.Flags g = option_map ListsFlags (listing_of g)
command_of named.Run80 g = option_map Runs80 (run80_of g)
command_of named.Run86 g = option_map Runs86 (run86_of g)
command_of named.Both g = option_map RunsBoth (both_of g)
command_of named.Sample g = option_map MakesSample (sample_of g)
command_of named.Cmd g = option_map MakesCmd (cmd_of g)
command_of named.CmdShow g = option_map ShowsCmd (cmd_show_of g)
command_of named.Hex80 g = option_map WritesHex (hex80_of g)
command_of named.RunHex g = option_map RunsHex (run_hex_of g)
command_of named.Shrink g = option_map ShrinksText (shrink_of g)
command_of named.Leaves g = option_map ListsLeaves (listing_of g)
command_of named.Explain g = option_map ExplainsText (check_of g)

-- the words are this command: the first is its name, and the others give its values
pub record IsCommand (words : List Word) (c : Command) : Type 0 where
  pub first : Word
  pub rest : List Word
  pub parts : words ≡ first ∷ rest
  pub name : CommandName
  pub named : command_named first ≡ Some name
  pub given : Gathered
  pub sorted : AreSorted name rest given
  pub command : command_of name given ≡ Some c

-- the words are no command
abbrev pub IsNoCommand : List Word → Type 0
IsNoCommand words = (c : Command) → IsCommand words c → ⊥
