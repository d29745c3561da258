-- What the code reads of the words.
use Rattle.std.specs.Prelude.{◌≡◌, ℕ, Bool, true, false, List, [], codes, Option, Some, None, option_copied, unwrap_or}
use Rattle.std.specs.Borrow.{Bor}
use Rattle.clap.specs.Words.{Row, all_of, first_of}
use Rattle.cmd_arguments.specs.declared.given.Names.{Names as ReadNames}
use Rattle.cmd_arguments.specs.declared.given.Names.TheVariants as read_names
use Rattle.cmd_arguments.specs.declared.table.OptionName.TheVariants.{Top, Choice, Input, Disk, Ports, OutDisk, Tail, Steps, Plain, Zilog, Comments}
use Rattle.cmd_arguments.specs.Table.{Word, long_name}
use Rattle.cmd_arguments.specs.Given.{Occurrence, Absent, Once, Names, NoName, OneName, TwoNames, ThreeNames, MoreNames, Gathered, names}

abbrev pub names_read : ReadNames → Names
names_read read_names.Zero = NoName
names_read (read_names.One first) = OneName first.now
names_read (read_names.Two first second) = TwoNames first.now second.now
names_read (read_names.Three first second third) = ThreeNames first.now second.now third.now
names_read read_names.More = MoreNames

-- an option that stands at most once
abbrev pub option_found : Option Word → Occurrence
option_found None = Absent
option_found (Some text) = Once text

abbrev pub option_read : Option (Bor Word) → Occurrence
option_read o = option_found (option_copied o)

-- a flag that stands at most once
abbrev pub flag_read : Bool → Occurrence
flag_read true = Once []
flag_read false = Absent

-- what the text of a flag's entry says
abbrev pub IsFlag : Option Word → Bool → Type 0
IsFlag None set = set ≡ false
IsFlag (Some text) set = (text ≡ codes "true" → set ≡ true) × (text ≡ codes "false" → set ≡ false)

-- what the entries of `clap` give
abbrev pub given_in : List Row → Bool → Bool → Bool → Gathered
given_in rows plain zilog comments = record {
  names = names (unwrap_or (all_of (codes "names") rows) []);
  top = option_found (first_of (long_name Top) rows);
  choice = option_found (first_of (long_name Choice) rows);
  input = option_found (first_of (long_name Input) rows);
  disk = option_found (first_of (long_name Disk) rows);
  ports = option_found (first_of (long_name Ports) rows);
  out_disk = option_found (first_of (long_name OutDisk) rows);
  tail = option_found (first_of (long_name Tail) rows);
  steps = option_found (first_of (long_name Steps) rows);
  plain = flag_read plain;
  zilog = flag_read zilog;
  comments = flag_read comments;
}

abbrev pub IsGivenIn : List Row → Gathered → Type 0
IsGivenIn rows g = (plain : Bool) × (zilog : Bool) × (comments : Bool) × IsFlag (first_of (long_name Plain) rows) plain × IsFlag (first_of (long_name Zilog) rows) zilog × IsFlag (first_of (long_name Comments) rows) comments × (g ≡ given_in rows plain zilog comments)

abbrev pub files_of : Option (Bor Word × Bor Word) → Option (Word × Word)
files_of (Some names) = Some (names.0.now, names.1.now)
files_of None = None

abbrev pub three_files_of : Option (Bor Word × Bor Word × Bor Word) → Option (Word × Word × Word)
three_files_of (Some names) = Some (names.0.now, names.1.now, names.2.now)
three_files_of None = None

abbrev pub count_and_file_of : Option (ℕ × Bor Word) → Option (ℕ × Word)
count_and_file_of (Some names) = Some (names.0, names.1.now)
count_and_file_of None = None
