-- The last line of a command and its status: a line for each end of its work. Numbers are decimal, but offsets and functions
-- are in hexadecimal digits, four or two. The statuses and the lines are this project's own.
use Rattle.std.specs.Prelude.{ℕ, ◌/◌, ◌%◌, codes, Bool, true, false, List, [], ◌∷◌, ◌++◌}
use Rattle.std.specs.Fmt.{decimal}
use Rattle.hex.specs.Hex.{encode_lower}
use Rattle.cells.specs.declared.Part.{Part}
use Rattle.cells.specs.declared.Part.TheVariants.{A, B, C, D, E, H, L, S, Z, Ac, P, Cy}
use Rattle.cells.specs.declared.Rule.{Rule}
use Rattle.cells.specs.declared.Rule.TheVariants as profile
use Rattle.asm80_types.specs.declared.fault.LineRule.{LineRule}
use Rattle.asm80_types.specs.declared.fault.LineRule.TheVariants.{L1, L2, L3, L4, L5, L6, L7, L8}
use Rattle.asm80_source_def.specs.declared.rule.AsmRule.{AsmRule}
use Rattle.asm80_source_def.specs.declared.rule.AsmRule.TheVariants.{V1, V2, V3, V4, V5, V6, V7, S1, S2, S3, S4, S5, S6, S7}
use Rattle.asm86_line_types.specs.declared.line.TextRule.{TextRule}
use Rattle.asm86_line_types.specs.declared.line.TextRule.TheVariants.{M1, M2, M3, M4, M5, M6}
use Rattle.sym_block_def.specs.declared.reason.Reason.{Reason}
use Rattle.sym_block_def.specs.declared.reason.Reason.TheVariants.{Opening, Runtime, DataPart, Missing, Length, Form, Actions, Exits, Kept, KeptSp}
use Rattle.cmd_common.specs.Names.{FileNames, name_of}
use Rattle.cmd_common.specs.declared.stop.Stop.{Stop}
use Rattle.cmd_common.specs.declared.stop.Stop.TheVariants.{SourceLine, SourceProgram, ReadFailed, WriteFailed, OutOfMemory, LeftProfile, StepLimit, NotShown, InputEnded, TextLine, ShortJump, NoInstruction, StackSegment, OddCall, BadDisk, NoDrive, CodeTooLarge, FileTooLong, BadCommandFile, BadHex, TooManyStatements}

-- ---- rules by name

abbrev pub line_rule : LineRule → List ℕ
line_rule L1 = codes "L1"
line_rule L2 = codes "L2"
line_rule L3 = codes "L3"
line_rule L4 = codes "L4"
line_rule L5 = codes "L5"
line_rule L6 = codes "L6"
line_rule L7 = codes "L7"
line_rule L8 = codes "L8"

abbrev pub asm_rule : AsmRule → List ℕ
asm_rule V1 = codes "V1"
asm_rule V2 = codes "V2"
asm_rule V3 = codes "V3"
asm_rule V4 = codes "V4"
asm_rule V5 = codes "V5"
asm_rule V6 = codes "V6"
asm_rule V7 = codes "V7"
asm_rule S1 = codes "S1"
asm_rule S2 = codes "S2"
asm_rule S3 = codes "S3"
asm_rule S4 = codes "S4"
asm_rule S5 = codes "S5"
asm_rule S6 = codes "S6"
asm_rule S7 = codes "S7"

abbrev pub text_rule : TextRule → List ℕ
text_rule M1 = codes "M1"
text_rule M2 = codes "M2"
text_rule M3 = codes "M3"
text_rule M4 = codes "M4"
text_rule M5 = codes "M5"
text_rule M6 = codes "M6"

abbrev pub profile_rule : Rule → List ℕ
profile_rule profile.P1 = codes "P1"
profile_rule profile.P2 = codes "P2"
profile_rule profile.P3 = codes "P3"
profile_rule profile.P4 = codes "P4"
profile_rule profile.P5 = codes "P5"
profile_rule profile.P6 = codes "P6"
profile_rule profile.P7 = codes "P7"
profile_rule profile.P8 = codes "P8"
profile_rule profile.P9 = codes "P9"
profile_rule profile.P10 = codes "P10"
profile_rule profile.P11 = codes "P11"
profile_rule profile.P12 = codes "P12"

-- ---- reasons by name

-- a part that is kept and does not agree
abbrev pub name_of_kept : Part → List ℕ
name_of_kept A = codes "kept a"
name_of_kept B = codes "kept b"
name_of_kept C = codes "kept c"
name_of_kept D = codes "kept d"
name_of_kept E = codes "kept e"
name_of_kept H = codes "kept h"
name_of_kept L = codes "kept l"
name_of_kept S = codes "kept s"
name_of_kept Z = codes "kept z"
name_of_kept Ac = codes "kept ac"
name_of_kept P = codes "kept p"
name_of_kept Cy = codes "kept cy"

abbrev pub reason_name : Reason → List ℕ
reason_name Opening = codes "opening"
reason_name Runtime = codes "runtime"
reason_name DataPart = codes "data"
reason_name Missing = codes "missing"
reason_name Length = codes "length"
reason_name Form = codes "form"
reason_name Actions = codes "actions"
reason_name Exits = codes "exits"
reason_name (Kept part) = name_of_kept part
reason_name KeptSp = codes "kept sp"

-- ---- lines

-- a byte in two digits, a word in four
abbrev pub byte_digits : ℕ → List ℕ
byte_digits n = encode_lower (n ∷ [])

abbrev pub word_digits : ℕ → List ℕ
word_digits w = encode_lower (w / 256 ∷ (w % 256 ∷ []))

-- a text and a file's name
abbrev pub named_line : List ℕ → List ℕ → List ℕ
named_line text name = text ++ (name ++ codes "\n")

-- a text, the number of a line, and a rule
abbrev pub rule_line : List ℕ → ℕ → List ℕ → List ℕ
rule_line text line rule = text ++ (decimal line ++ (codes ": " ++ (rule ++ codes "\n")))

-- a text, a number, and what is counted
abbrev pub count_line : List ℕ → ℕ → List ℕ → List ℕ
count_line text number what = text ++ (decimal number ++ (what ++ codes "\n"))

-- the offset at which a machine stopped, and why
abbrev pub stopped_line : ℕ → List ℕ → List ℕ
stopped_line offset why = codes "machine stopped at " ++ (word_digits offset ++ (codes ": " ++ (why ++ codes "\n")))

-- the address of the first block that is not shown, and the reason
abbrev pub not_shown_line : ℕ → List ℕ → List ℕ
not_shown_line at reason = codes "not shown: block " ++ (word_digits at ++ (codes ", " ++ (reason ++ codes "\n")))

abbrev pub odd_call : ℕ → List ℕ
odd_call function = codes "call " ++ byte_digits function

abbrev pub drive_line : ℕ → List ℕ
drive_line function = codes "drive refused: function " ++ (byte_digits function ++ codes "\n")

abbrev pub words_line : List ℕ
words_line = codes "words refused\n"

abbrev pub memory_line : List ℕ
memory_line = codes "out of memory\n"

-- ---- the ends that are not 0

abbrev pub status_of : Stop → ℕ
status_of (SourceLine line rule) = 1
status_of (SourceProgram line rule) = 1
status_of (ReadFailed file) = 3
status_of WriteFailed = 4
status_of OutOfMemory = 5
status_of (LeftProfile line rule) = 6
status_of (StepLimit steps) = 7
status_of (NotShown at reason) = 8
status_of InputEnded = 9
status_of (TextLine line rule) = 10
status_of (ShortJump line) = 10
status_of (NoInstruction offset) = 11
status_of (StackSegment offset) = 11
status_of (OddCall offset function) = 11
status_of (BadDisk place) = 12
status_of (NoDrive function) = 12
status_of (CodeTooLarge size) = 13
status_of (FileTooLong file) = 14
status_of (BadCommandFile place) = 15
status_of (BadHex line) = 16
status_of (TooManyStatements count) = 17

-- the line is always the same, and no memory is taken for it
abbrev pub is_fixed : Stop → Bool
is_fixed (SourceLine line rule) = false
is_fixed (SourceProgram line rule) = false
is_fixed (ReadFailed file) = false
is_fixed WriteFailed = true
is_fixed OutOfMemory = true
is_fixed (LeftProfile line rule) = false
is_fixed (StepLimit steps) = false
is_fixed (NotShown at reason) = false
is_fixed InputEnded = true
is_fixed (TextLine line rule) = false
is_fixed (ShortJump line) = false
is_fixed (NoInstruction offset) = false
is_fixed (StackSegment offset) = false
is_fixed (OddCall offset function) = false
is_fixed (BadDisk place) = false
is_fixed (NoDrive function) = false
is_fixed (CodeTooLarge size) = false
is_fixed (FileTooLong file) = false
is_fixed (BadCommandFile place) = false
is_fixed (BadHex line) = false
is_fixed (TooManyStatements count) = false

-- the line of a stop, by the names of the files that the command reads
abbrev pub line_of_stop : FileNames → Stop → List ℕ
line_of_stop names (SourceLine line rule) = rule_line (codes "source line ") line (line_rule rule)
line_of_stop names (SourceProgram line rule) = rule_line (codes "source line ") line (asm_rule rule)
line_of_stop names (ReadFailed file) = named_line (codes "read failed: ") (name_of names file)
line_of_stop names WriteFailed = codes "write failed\n"
line_of_stop names OutOfMemory = memory_line
line_of_stop names (LeftProfile line rule) = rule_line (codes "left the profile at line ") line (profile_rule rule)
line_of_stop names (StepLimit steps) = count_line (codes "step limit: ") steps (codes " instructions")
line_of_stop names (NotShown at reason) = not_shown_line at (reason_name reason)
line_of_stop names InputEnded = codes "input ended\n"
line_of_stop names (TextLine line rule) = rule_line (codes "text line ") line (text_rule rule)
line_of_stop names (ShortJump line) = rule_line (codes "text line ") line (codes "short")
line_of_stop names (NoInstruction offset) = stopped_line offset (codes "no instruction")
line_of_stop names (StackSegment offset) = stopped_line offset (codes "stack segment")
line_of_stop names (OddCall offset function) = stopped_line offset (odd_call function)
line_of_stop names (BadDisk place) = count_line (codes "disk refused: byte ") place []
line_of_stop names (NoDrive function) = drive_line function
line_of_stop names (CodeTooLarge size) = count_line (codes "code too large: ") size (codes " bytes")
line_of_stop names (FileTooLong file) = named_line (codes "file too long: ") (name_of names file)
line_of_stop names (BadCommandFile place) = count_line (codes "command file refused: byte ") place []
line_of_stop names (BadHex line) = count_line (codes "hex refused: line ") line []
line_of_stop names (TooManyStatements count) = count_line (codes "too many statements: ") count []

-- ---- the ends that are 0

-- how many 8080 instructions, data cells and bytes of 8086 code a translation has
abbrev pub translated_line : ℕ → ℕ → ℕ → List ℕ
translated_line instructions cells code =
    codes "translated: " ++ (decimal instructions ++ (codes " instructions, " ++ (decimal cells ++ (codes " data bytes, " ++ (decimal code ++ codes " code bytes\n")))))

-- how many blocks a program has whose text is shown
abbrev pub shown_line : ℕ → List ℕ
shown_line blocks = count_line (codes "shown: ") blocks (codes " blocks")

-- how many of the INX, DCX and DAD have flags to be saved
abbrev pub saves_line : ℕ → ℕ → List ℕ
saves_line saved sums = codes "saves " ++ (decimal saved ++ (codes " of " ++ (decimal sums ++ codes "\n")))

-- at how many places a run leaves the profile, and how many instructions there are
abbrev pub leaves_line : ℕ → ℕ → List ℕ
leaves_line places instructions = codes "leaves at " ++ (decimal places ++ (codes " of " ++ (decimal instructions ++ codes " instructions\n")))

-- how many bytes a command file has
abbrev pub command_file_line : ℕ → List ℕ
command_file_line size = count_line (codes "command file: ") size (codes " bytes")

-- how many bytes its code group and its data group have
abbrev pub groups_line : ℕ → ℕ → List ℕ
groups_line code_size data_size = codes "code " ++ (decimal code_size ++ (codes " bytes, data " ++ (decimal data_size ++ codes " bytes\n")))

-- how many cells a HEX file has
abbrev pub hex_line : ℕ → List ℕ
hex_line cells = count_line (codes "hex: ") cells (codes " bytes")

-- how many statements of a text were left out, and how many bytes of code the others have
abbrev pub shrunk_line : ℕ → ℕ → List ℕ
shrunk_line left_out code = codes "shrunk: " ++ (decimal left_out ++ (codes " left out, " ++ (decimal code ++ codes " code bytes\n")))

-- how many instructions ran
abbrev pub ended_line : ℕ → List ℕ
ended_line steps = count_line (codes "ended after ") steps (codes " instructions")

-- how many instructions of the 8080 ran, and how many of the 8086
abbrev pub both_line : ℕ → ℕ → List ℕ
both_line steps80 steps86 = codes "ended after " ++ (decimal steps80 ++ (codes " and " ++ (decimal steps86 ++ codes " instructions\n")))
