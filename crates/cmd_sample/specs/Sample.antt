-- The made source: a program of K routines, each of which is called once. A routine counts down in a loop and then has the system
-- write a letter, by a jump from which the system returns to the caller. It is this project's own.
use Rattle.std.specs.Prelude.{ℕ, ◌+◌, ◌%◌, zero, suc, codes, List, [], ◌∷◌, ◌++◌, map, flat_map}
use Rattle.std.specs.Fmt.{decimal}
use Rattle.asm80_types.specs.Tree.{Number, Whole, Statement}
use Rattle.cmd_sample.specs.Written.{Argument, Written, name, number, labelled, unlabelled, text_of_source, statements_of}

-- the numbers from 1 to n
abbrev pub up_to : ℕ → List ℕ
up_to zero = []
up_to (suc n) = up_to n ++ suc n ∷ []

-- the labels of routine k: where it begins, its loop, and its byte
abbrev pub routine_label : ℕ → List ℕ
routine_label k = codes "R" ++ decimal k

abbrev pub loop_label : ℕ → List ℕ
loop_label k = codes "Q" ++ decimal k

abbrev pub byte_label : ℕ → List ℕ
byte_label k = codes "W" ++ decimal k

-- how often its loop runs, the letter that it writes, and what its byte is
abbrev pub turns_of : ℕ → ℕ
turns_of k = k % 5 + 1

abbrev pub letter_of : ℕ → ℕ
letter_of k = 65 + k % 26

abbrev pub byte_of : ℕ → ℕ
byte_of k = k % 256

abbrev pub call : ℕ → Written
call k = unlabelled (codes "CALL") (name (routine_label k) ∷ [])

-- a routine begins by its loop, which counts B down
abbrev pub counting : ℕ → List Written
counting k =
    labelled (routine_label k) (codes "LXI") (name (codes "H") ∷ name (byte_label k) ∷ [])
    ∷ unlabelled (codes "MVI") (name (codes "B") ∷ number (turns_of k) ∷ [])
    ∷ labelled (loop_label k) (codes "INX") (name (codes "H") ∷ [])
    ∷ unlabelled (codes "DCR") (name (codes "B") ∷ [])
    ∷ unlabelled (codes "INX") (name (codes "H") ∷ [])
    ∷ unlabelled (codes "JNZ") (name (loop_label k) ∷ [])
    ∷ []

-- and then it has its letter written by function 2 of the system, which returns to the caller; its byte stands behind it
abbrev pub writes_letter : ℕ → List Written
writes_letter k =
    unlabelled (codes "DAD") (name (codes "H") ∷ [])
    ∷ unlabelled (codes "MVI") (name (codes "E") ∷ number (letter_of k) ∷ [])
    ∷ unlabelled (codes "MVI") (name (codes "C") ∷ number 2 ∷ [])
    ∷ unlabelled (codes "JMP") (number 5 ∷ [])
    ∷ labelled (byte_label k) (codes "DB") (number (byte_of k) ∷ [])
    ∷ []

abbrev pub routine : ℕ → List Written
routine k = counting k ++ writes_letter k

-- 100H
abbrev pub begin : Argument
begin = record { text = codes "100H"; operand = Whole (Number 0x100) }

-- the lines of the made source of K routines
abbrev pub sample_lines : ℕ → List Written
sample_lines K =
    unlabelled (codes "ORG") (begin ∷ [])
    ∷ (map call (up_to K)
    ++ (unlabelled (codes "JMP") (number 0 ∷ [])
    ∷ (flat_map routine (up_to K)
    ++ (unlabelled (codes "END") [] ∷ []))))

abbrev pub sample_text : ℕ → List ℕ
sample_text K = text_of_source (sample_lines K)

abbrev pub sample_statements : ℕ → List Statement
sample_statements K = statements_of (sample_lines K)
