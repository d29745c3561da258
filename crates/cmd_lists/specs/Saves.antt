-- What `flags` says of a program: the flags that each INX, DCX and DAD has to save, and how many of them save any. An 8086 program
-- that stands for it saves them round its own sum of words, which changes them. The lines are this project's own.
use Rattle.std.specs.Prelude.{◌≡◌, ℕ, codes, Bool, true, false, ◌||◌, if◌then◌else◌, List, [], ◌∷◌, ◌++◌, map, length, filter, count_by}
use Rattle.std.specs.Fmt.{decimal}
use Rattle.cells.specs.Parts.{Parts}
use Rattle.asm80_types.specs.declared.program.Placed.{Placed}
use Rattle.asm80_types.specs.Program.{Program}
use Rattle.flow.specs.Saves.{is_sum_at, AreSaves}
use Rattle.cmd_arguments.specs.Words.{Listing}
use Rattle.cmd_common.specs.Lines.{word_digits, saves_line}
use Rattle.cmd_common.specs.Kinds.{MakeKind}
use Rattle.cmd_lists.specs.Lists.{LinesOfProgram, list_kind}
use Rattle.cmd_lists.specs.declared.savings.Saving.{Saving}

-- the INX, DCX and DAD of a program, in ascending order
abbrev pub sums : Program → List Placed
sums p = filter (λ (x : Placed). is_sum_at p x.at) p.instrs

-- the address and the line of one of them, and exactly those of S Z AC P that are needed after it
pub record IsSaving (p : Program) (x : Placed) (s : Saving) : Type 0 where
  pub at : s.at ≡ x.at
  pub line : s.line ≡ x.line
  pub keep : AreSaves p x.at s.keep

-- those of several, one by one
abbrev pub AreSavings : Program → List Placed → List Saving → Type 0
AreSavings p [] [] = Unit {0}
AreSavings p [] (s ∷ ss) = ⊥
AreSavings p (x ∷ xs) [] = ⊥
AreSavings p (x ∷ xs) (s ∷ ss) = IsSaving p x s × AreSavings p xs ss

-- ---- their lines

-- the letter of a flag that is saved
abbrev pub letter_if : Bool → List ℕ → List ℕ
letter_if true letter = letter
letter_if false letter = []

-- the letters of the flags that are saved, in this order; that of AC is A
abbrev pub letters : Parts → List ℕ
letters k = letter_if k.s (codes "S") ++ (letter_if k.z (codes "Z") ++ (letter_if k.ac (codes "A") ++ letter_if k.p (codes "P")))

abbrev pub saves_any : Parts → Bool
saves_any k = k.s || k.z || k.ac || k.p

abbrev pub save_text : Parts → List ℕ
save_text k = if saves_any k then codes "save " ++ letters k else codes "no save"

-- the address in four hexadecimal digits, the number of the line, and what is saved
abbrev pub save_line : Saving → List ℕ
save_line s = word_digits s.at ++ (codes " line " ++ (decimal s.line ++ (codes " " ++ (save_text s.keep ++ codes "\n"))))

-- a line for each, and the last line, which says how many save a flag, and how many there are
abbrev pub report_lines : List Saving → List (List ℕ)
report_lines ss = map save_line ss ++ saves_line (count_by (λ (s : Saving). saves_any s.keep) ss) (length ss) ∷ []

-- these are the lines of a program
pub record AreSaveLines (p : Program) (lines : List (List ℕ)) : Type 0 where
  pub savings : List Saving
  pub are : AreSavings p (sums p) savings
  pub is : lines ≡ report_lines savings

-- the command that lists them
abbrev pub flags_kind : Listing → MakeKind LinesOfProgram
flags_kind c = list_kind AreSaveLines c
