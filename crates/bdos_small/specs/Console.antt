-- The answers of the console, and of the functions that need no disk (CP/M 2.2 Operating System Manual, section 5.3, "BDOS
-- functions"): input is a list of bytes that is taken from its front, output goes nowhere, and drive A is selected.
use Rattle.std.specs.Prelude.{◌≡◌, ℕ, zero, suc, ◌+◌, ◌<◌, ◌==◌, nat_le, not, Bool, true, cond, List, [], ◌∷◌, length, take, Option, Some, None}
use Rattle.std.specs.List.{filter, before_first, after_first}
use Rattle.dialogue.specs.declared.request.ArgWord.{ArgWord}
use Rattle.dialogue.specs.declared.request.ArgWord.TheVariants.{None as NoWord, Byte, Word}
use Rattle.dialogue.specs.declared.request.Range.{Range}
use Rattle.dialogue.specs.declared.request.Request.{Request}
use Rattle.dialogue.specs.Shape.{argument_address}
use Rattle.dialogue.specs.declared.table.AnswerRule.TheVariants.{ByteWhere}
use Rattle.dialogue.specs.Fits.{kind_by, answer_fits, fits}
use Rattle.dialogue.specs.Lawful.{first_byte}
use Rattle.bdos_small.specs.declared.console.Answer.{Answer}
use Rattle.bdos_small.specs.declared.console.Answer.TheVariants.{Reply, InputEnded, NoDrive}

-- what is answered, and the input that is left
pub record ConsoleAnswered : Type 0 where
  pub answer : Answer
  pub left : List ℕ

-- a reply that writes nothing
abbrev pub told : ℕ → Answer
told n = Reply (record { answer = n; writes = [] })

-- an answer that takes no input
abbrev pub taking_none : Answer → List ℕ → ConsoleAnswered
taking_none a input = record { answer = a; left = input }

-- 1, console input: the next byte
abbrev pub read_byte : List ℕ → ConsoleAnswered
read_byte [] = record { answer = InputEnded; left = [] }
read_byte (b ∷ bs) = record { answer = told b; left = bs }

-- 6, direct console: where E is 0FFH the next byte, or 0 where none is left (this project's choice: CP/M 2.2 answers 0, CP/M-86
-- waits for a character); with another E it is output
abbrev pub read_direct : List ℕ → ConsoleAnswered
read_direct [] = taking_none (told 0) []
read_direct (b ∷ bs) = record { answer = told b; left = bs }

abbrev pub direct_console : ArgWord → List ℕ → ConsoleAnswered
direct_console (Byte e) input = cond (e == 0xFF) (read_direct input) (taking_none (told 0) input)
direct_console NoWord input = taking_none (told 0) input
direct_console (Word w) input = taking_none (told 0) input

-- 11, console status: whether a byte waits
abbrev pub console_status : List ℕ → ℕ
console_status [] = 0
console_status (b ∷ bs) = 0xFF

-- 10, read console buffer. A line ends at a LF; a CR is no part of it
abbrev pub is_lf : ℕ → Bool
is_lf b = b == 0x0A

abbrev pub is_no_cr : ℕ → Bool
is_no_cr b = not (b == 0x0D)

abbrev pub first_line : List ℕ → List ℕ
first_line input = filter is_no_cr (before_first is_lf input)

-- what stands after the k-th byte that is no CR
abbrev pub after_kept : ℕ → List ℕ → List ℕ
after_kept zero bs = bs
after_kept (suc k) [] = []
after_kept (suc k) (b ∷ bs) = cond (is_no_cr b) (after_kept k bs) (after_kept (suc k) bs)

-- the first line, up to mx bytes of it
abbrev pub line_read : ℕ → List ℕ → List ℕ
line_read mx input = take mx (first_line input)

-- where the line has mx bytes or more, its rest is left, and its LF; else what stands after its LF
abbrev pub line_left : ℕ → List ℕ → List ℕ
line_left mx input = cond (nat_le mx (length (first_line input))) (after_kept mx input) (after_first is_lf input)

-- where the first range of a list begins
abbrev pub place_in : List (Option Range) → ℕ
place_in [] = 0
place_in (None ∷ places) = 0
place_in (Some range ∷ places) = range.at

-- the line is written once, at F(1,k+1), its length k first
abbrev pub read_console_line : ℕ → ℕ → List ℕ → ConsoleAnswered
read_console_line at mx [] = record { answer = InputEnded; left = [] }
read_console_line at mx (b ∷ bs) =
    let line = line_read mx (b ∷ bs) in
    record {
      answer = Reply (record { answer = 0; writes = record { at = at; bytes = length line ∷ line } ∷ [] });
      left = line_left mx (b ∷ bs);
    }

-- 14, select disk: drive A is 0, and there is no other
abbrev pub disk_selected : ArgWord → Answer
disk_selected (Byte e) = cond (e == 0) (told 0) NoDrive
disk_selected NoWord = NoDrive
disk_selected (Word w) = NoDrive

-- the answer to a call and the input that is left, function by function. Output (2, 6 and 9), reset disks (13) and set DMA
-- address (26) do nothing here that a program sees; the version (12) is 22H; the current disk (25) is A, 0. All others of
-- the call table are for files, but for 0, which ends a program and is never asked
abbrev pub console_answer : List ℕ → Request → ConsoleAnswered
console_answer input q =
    cond (q.shape.function == 1) (read_byte input)
    (cond (q.shape.function == 2) (taking_none (told 0) input)
    (cond (q.shape.function == 6) (direct_console q.shape.arg input)
    (cond (q.shape.function == 9) (taking_none (told 0) input)
    (cond (q.shape.function == 10) (read_console_line (argument_address q.shape.arg + 1) (first_byte q.blocks) input)
    (cond (q.shape.function == 11) (taking_none (told (console_status input)) input)
    (cond (q.shape.function == 12) (taking_none (told 0x22) input)
    (cond (q.shape.function == 13) (taking_none (told 0) input)
    (cond (q.shape.function == 14) (taking_none (disk_selected q.shape.arg) input)
    (cond (q.shape.function == 25) (taking_none (told 0) input)
    (cond (q.shape.function == 26) (taking_none (told 0) input)
    (taking_none NoDrive input)))))))))))

-- a reply is one that the request may get
abbrev pub FitsRequest : Request → Answer → Type 0
FitsRequest q (Reply y) = fits q y ≡ true
FitsRequest q InputEnded = Unit {0}
FitsRequest q NoDrive = Unit {0}

-- a reply with a byte
abbrev pub IsByte : Answer → Type 0
IsByte (Reply y) = (y.answer < 256) × (y.writes ≡ [])
IsByte InputEnded = Unit {0}
IsByte NoDrive = Unit {0}

-- a reply that the direct console may give for an argument
abbrev pub IsDirect : ArgWord → Answer → Type 0
IsDirect arg (Reply y) = (answer_fits (kind_by (ByteWhere 0xFF) arg) y.answer ≡ true) × (y.writes ≡ [])
IsDirect arg InputEnded = ⊥
IsDirect arg NoDrive = ⊥

-- only a reply takes input
abbrev pub TakesInputByReply : Answer → List ℕ → List ℕ → Type 0
TakesInputByReply (Reply y) before after = Unit {0}
TakesInputByReply InputEnded before after = after ≡ before
TakesInputByReply NoDrive before after = after ≡ before
