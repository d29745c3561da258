-- The lines in which it is said where a text does not match its source. The lines are this project's own. Numbers of lines are decimal,
-- addresses and bytes hexadecimal digits.
use Rattle.std.specs.Prelude.{ℕ, ◌-◌, ◌==◌, cond, codes, List, [], ◌∷◌, ◌++◌, map, take, length, Option, Some, None}
use Rattle.std.specs.Fmt.{decimal}
use Rattle.cells.specs.declared.Cell.{Cell}
use Rattle.cells.specs.declared.Cell.TheVariants.{Num, Lo, Hi, Psw, Junk}
use Rattle.asm86_line_types.specs.declared.line.Line86.{Line86}
use Rattle.asm86_line_types.specs.declared.line.Stmt86.{Stmt86}
use Rattle.asm86_line_types.specs.Written.{written_line}
use Rattle.sym_block_def.specs.declared.reason.Reason.{Reason}
use Rattle.block_explain.specs.Names.{label_words}
use Rattle.cmd_common.specs.Lines.{byte_digits, word_digits, reason_name}

-- ---- a statement

abbrev pub blank_for_tab : ℕ → ℕ
blank_for_tab b = cond (b == 9) 0x20 b

abbrev pub without_first_tab : List ℕ → List ℕ
without_first_tab [] = []
without_first_tab (b ∷ bs) = cond (b == 9) bs (b ∷ bs)

-- its written line without the CR and LF at its end and the tab at its beginning, each other tab as a blank
abbrev pub statement_words : Stmt86 → List ℕ
statement_words s = map blank_for_tab (without_first_tab (take (length (written_line s) - 2) (written_line s)))

-- ---- a block

abbrev pub block_line : ℕ → Reason → List ℕ
block_line at reason = codes "block " ++ (word_digits at ++ (codes ", " ++ (reason_name reason ++ codes "\n")))

abbrev pub source_lines : ℕ → ℕ → List ℕ
source_lines first last = codes "source lines " ++ (decimal first ++ (codes " to " ++ (decimal last ++ codes "\n")))

abbrev pub text_line : ℕ → List ℕ
text_line line = codes "text line " ++ (decimal line ++ codes "\n")

-- ---- where what is wanted ends

abbrev pub end_line : ℕ → Stmt86 → List ℕ
end_line line s = (codes "ends at text line " ++ (decimal line ++ codes ": ")) ++ (statement_words s ++ codes "\n")

-- at the front of some lines; after the last statement there is none to be named
abbrev pub ends_at : List Line86 → List ℕ
ends_at [] = codes "ends at the end of the text\n"
ends_at (x ∷ xs) = end_line x.line x.stmt

-- ---- what stands before the blocks

abbrev pub wanted_line : Stmt86 → List ℕ
wanted_line s = codes "wanted: " ++ (statement_words s ++ codes "\n")

abbrev pub runtime_line : List ℕ
runtime_line = codes "wanted: the runtime from X_SYS on\n"

-- a data cell is a byte, or half of a code address; a program has no others
abbrev pub cell_words : Cell → List ℕ
cell_words (Num n) = byte_digits n
cell_words (Lo q) = codes "low " ++ label_words q
cell_words (Hi q) = codes "high " ++ label_words q
cell_words (Psw flags) = codes "flags"
cell_words Junk = codes "open"

abbrev pub data_line : ℕ → Cell → List ℕ
data_line a c = codes "data at " ++ (word_digits a ++ (codes ": wanted " ++ (cell_words c ++ codes "\n")))

-- the byte of the image at an address, if there is one
abbrev pub found_words : Option ℕ → List ℕ
found_words (Some b) = byte_digits b
found_words None = codes "none"

abbrev pub found_line : Option ℕ → List ℕ
found_line found = codes "found " ++ (found_words found ++ codes "\n")
