-- What is yet to be written of a commented text.
use Rattle.std.specs.Prelude.{ℕ, ◌+◌, ◌-◌, ◌*◌, min, max, List, [], ◌∷◌, ◌++◌, length, take, drop}
use Rattle.asm80_types.specs.declared.program.Placed.{Placed}
use Rattle.asm86_line_types.specs.declared.line.Stmt86.{Stmt86}
use Rattle.asm86_line_types.specs.Image.{statements}
use Rattle.commented_text.specs.Commented.{comments, written}
use Rattle.commented_text.specs.Sizes.{group_size}
use Rattle.commented_text.specs.Lines.{lines_of}
use Rattle.commented_text.specs.declared.producer.CommentedText.{CommentedText}

-- The groups of instructions at the front of statements, with the lines of the source that have not stood yet, where those up to a
-- number have; and what is after them.
abbrev pub groups_left : ℕ → List (List ℕ) → List Placed → List Stmt86 → List ℕ
groups_left stood lines [] xs = comments lines ++ written xs
groups_left stood lines (x ∷ later) xs =
    comments (take (x.line - stood) lines)
    ++ (written (take (group_size x.instr xs) xs) ++ groups_left (max stood x.line) (drop (x.line - stood) lines) later (drop (group_size x.instr xs) xs))

-- first so many lines of the source that are due, and so many statements that are begun
abbrev pub text_left : ℕ → ℕ → ℕ → List (List ℕ) → List Placed → List Stmt86 → List ℕ
text_left due begun stood lines ahead xs = comments (take due lines) ++ (written (take begun xs) ++ groups_left stood (drop due lines) ahead (drop begun xs))

-- how many calls may still put something, or begin something
abbrev pub turns_left : ℕ → ℕ → List ℕ → List Placed → List Stmt86 → ℕ
turns_left due begun source ahead xs = 4 * length ahead + length source + length xs + min due 1 + min begun 1

-- the same of a text as far as it is written
abbrev pub left_of : CommentedText → List ℕ
left_of t = text_left t.due t.begun t.stood (lines_of t.source.now) t.ahead.now (statements t.lines.now)

abbrev pub turns_of : CommentedText → ℕ
turns_of t = turns_left t.due t.begun t.source.now t.ahead.now (statements t.lines.now)
