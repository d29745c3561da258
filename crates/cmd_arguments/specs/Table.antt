-- The table of the commands: the word of each command and of each option, and the options that a command takes.
use Rattle.std.specs.Prelude.{ℕ, List, [], ◌∷◌, codes, Option, find}
use Rattle.std.specs.Str.{bytes_eq}
use Rattle.cmd_arguments.specs.declared.table.CommandName.{CommandName}
use Rattle.cmd_arguments.specs.declared.table.CommandName.TheVariants.{Translate, Check, Flags, Run80, Run86, Both, Sample, Cmd, CmdShow, Hex80, RunHex, Shrink, Leaves, Explain}
use Rattle.cmd_arguments.specs.declared.table.OptionName.{OptionName}
use Rattle.cmd_arguments.specs.declared.table.OptionName.TheVariants.{Top, Choice, Input, Disk, Ports, OutDisk, Tail, Steps, Plain, Zilog, Comments}

-- a word is a list of bytes
abbrev pub Word : Type 0
Word = List ℕ

abbrev pub commands : List CommandName
commands = Translate ∷ (Check ∷ (Flags ∷ (Run80 ∷ (Run86 ∷ (Both ∷ (Sample ∷ (Cmd ∷ (CmdShow ∷ (Hex80 ∷ (RunHex ∷ (Shrink ∷ (Leaves ∷ (Explain ∷ [])))))))))))))

abbrev pub command_word : CommandName → Word
command_word Translate = codes "translate"
command_word Check = codes "check"
command_word Flags = codes "flags"
command_word Run80 = codes "run80"
command_word Run86 = codes "run86"
command_word Both = codes "both"
command_word Sample = codes "sample"
command_word Cmd = codes "cmd"
command_word CmdShow = codes "cmdshow"
command_word Hex80 = codes "hex80"
command_word RunHex = codes "runhex"
command_word Shrink = codes "shrink"
command_word Leaves = codes "leaves"
command_word Explain = codes "explain"

-- an option's name, which stands behind two hyphens in its word
abbrev pub long_name : OptionName → Word
long_name Top = codes "top"
long_name Choice = codes "choice"
long_name Input = codes "input"
long_name Disk = codes "disk"
long_name Ports = codes "ports"
long_name OutDisk = codes "out-disk"
long_name Tail = codes "tail"
long_name Steps = codes "steps"
long_name Plain = codes "plain"
long_name Zilog = codes "zilog"
long_name Comments = codes "comments"

abbrev pub option_word : OptionName → Word
option_word Top = codes "--top"
option_word Choice = codes "--choice"
option_word Input = codes "--input"
option_word Disk = codes "--disk"
option_word Ports = codes "--ports"
option_word OutDisk = codes "--out-disk"
option_word Tail = codes "--tail"
option_word Steps = codes "--steps"
option_word Plain = codes "--plain"
option_word Zilog = codes "--zilog"
option_word Comments = codes "--comments"

-- the options with a value that a command takes
abbrev pub options_of : CommandName → List OptionName
options_of Translate = Top ∷ []
options_of Check = Top ∷ []
options_of Flags = Top ∷ []
options_of Run80 = Top ∷ (Input ∷ (Disk ∷ (Ports ∷ (OutDisk ∷ (Tail ∷ (Steps ∷ []))))))
options_of Run86 = Choice ∷ (Input ∷ (Disk ∷ (Ports ∷ (OutDisk ∷ (Tail ∷ (Steps ∷ []))))))
options_of Both = Top ∷ (Choice ∷ (Input ∷ (Disk ∷ (Ports ∷ (OutDisk ∷ (Tail ∷ (Steps ∷ [])))))))
options_of Sample = []
options_of Cmd = []
options_of CmdShow = []
options_of Hex80 = Top ∷ []
options_of RunHex = Top ∷ (Choice ∷ (Input ∷ (Disk ∷ (Ports ∷ (OutDisk ∷ (Tail ∷ (Steps ∷ [])))))))
options_of Shrink = Top ∷ []
options_of Leaves = Top ∷ []
options_of Explain = Top ∷ []

-- the options without a value, its flags
abbrev pub flag_words : CommandName → List OptionName
flag_words Translate = Plain ∷ (Zilog ∷ (Comments ∷ []))
flag_words Check = Zilog ∷ []
flag_words Flags = Zilog ∷ []
flag_words Run80 = Zilog ∷ []
flag_words Run86 = []
flag_words Both = Zilog ∷ []
flag_words Sample = []
flag_words Cmd = []
flag_words CmdShow = []
flag_words Hex80 = Zilog ∷ []
flag_words RunHex = []
flag_words Shrink = []
flag_words Leaves = Zilog ∷ []
flag_words Explain = Zilog ∷ []

-- the command of a word, which is exactly its word
abbrev pub command_named : Word → Option CommandName
command_named w = find (λ c. bytes_eq (command_word c) w) commands

-- the option of a word among some
abbrev pub named_among : List OptionName → Word → Option OptionName
named_among options w = find (λ o. bytes_eq (option_word o) w) options
